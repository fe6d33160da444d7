use Rattle.std.proofs.Common.{subst}
use Rattle.std.specs.BTreeMap as tree
use Rattle.bf_base.specs.Values.{key_cmp}
use Rattle.bf_hash.specs.Stripes.{IsConsistent}
use Rattle.bf_hash.specs.Keeping.{AreTheirs}
use Rattle.bf_hash.proofs.Marks.{consistent, done_not_held, finish_changes, finish_keeps, found_here, held_here, settled}
use Rattle.bf_hash.proofs.stripe.Stripe.finish.Goals as goal

pub returns-then-not-is_own-clause-found : goal.returns-then-not-is_own-clause-found
returns-then-not-is_own-clause-found c = found_here c.self.inside.states c.args.self.now c.args.claim _ _ c.self.view_is c.state_among-found.ensures c.is_held_under-is_own.ensures

pub returns-then-not-is_own-clause-after : goal.returns-then-not-is_own-clause-after
returns-then-not-is_own-clause-after c = finish_keeps c.self.inside.states c.args.self.now c.args.claim _ _ c.self.view_is c.state_among-found.ensures c.is_held_under-is_own.ensures c.if-not-is_own.true

pub returns-then-not-is_own-clause-consistent : goal.returns-then-not-is_own-clause-consistent
returns-then-not-is_own-clause-consistent c = subst IsConsistent c.self.view_is (consistent c.self.inside.states _ c.self.invariant.theirs)

pub give-requires : goal.give-requires
give-requires c = c.self.invariant.theirs.held c.args.claim.key c.args.claim.ticket (held_here c.self.inside.states c.args.self.now c.args.claim _ _ c.self.view_is c.state_among-found.ensures c.is_held_under-is_own.ensures c.if-not-is_own.false)

-- the key is held no longer, and its ticket is free
theirs_now : (c : goal.After-give) → AreTheirs (tree.get key_cmp c.insert.new.self) c.give.new.self
theirs_now c =
    settled c.self.inside.states c.insert.new.self c.args.claim.key _ c.in-Ok.ensures.updates.0 c.self.inside.tickets c.give.new.self c.args.claim.ticket done_not_held
    (held_here c.self.inside.states c.args.self.now c.args.claim _ _ c.self.view_is c.state_among-found.ensures c.is_held_under-is_own.ensures c.if-not-is_own.false) c.give.ensures c.self.invariant.theirs

pub invariant_of-self : goal.invariant_of-self
invariant_of-self c = record { ordered = c.insert.ensures.ordered; theirs = theirs_now c }

pub returns-clause-found : goal.returns-clause-found
returns-clause-found c = found_here c.self.inside.states c.args.self.now c.args.claim _ _ c.self.view_is c.state_among-found.ensures c.is_held_under-is_own.ensures

pub returns-clause-after : goal.returns-clause-after
returns-clause-after c = finish_changes c.self.inside.states c.args.self.now c.args.claim _ _ c.self.view_is c.state_among-found.ensures c.is_held_under-is_own.ensures c.insert.new.self c.in-Ok.ensures.updates.0 c.if-not-is_own.false

pub returns-clause-consistent : goal.returns-clause-consistent
returns-clause-consistent c = consistent c.insert.new.self _ (theirs_now c)
