use Rattle.std.proofs.Common.{refl, ap, subst, ◌∙◌}
use Rattle.std.specs.FinMap as finite
use Rattle.std.specs.BTreeMap as tree
use Rattle.bf_base.specs.Values.{key_cmp}
use Rattle.bf_hash.specs.declared.state.Mark.TheVariants.{Held}
use Rattle.bf_hash.specs.Stripes.{Cells, Marks, IsConsistent, IsLeastTicket}
use Rattle.bf_hash.specs.Keeping.{AreTheirs}
use Rattle.bf_hash.proofs.Marks.{consistent, free_here, granted, inserted, least_ticket, taken_and_given, theirs_by_entries}
use Rattle.bf_hash.proofs.stripe.Stripe.grant.Goals as goal

pub returns-in_err-held-clause-consistent : goal.returns-in_err-held-clause-consistent
returns-in_err-held-clause-consistent c = subst IsConsistent c.self.view_is (consistent c.self.inside.states _ c.self.invariant.theirs)

pub returns-in_err-key-clause-consistent : goal.returns-in_err-key-clause-consistent
returns-in_err-key-clause-consistent c = subst IsConsistent c.self.view_is (consistent c.self.inside.states _ c.self.invariant.theirs)

pub returns-in_err-ticket-clause-consistent : goal.returns-in_err-ticket-clause-consistent
returns-in_err-ticket-clause-consistent c = consistent c.self.inside.states _ c.self.invariant.theirs

-- the key is held under the ticket
theirs_now : (c : goal.In-Ok) → AreTheirs (tree.get key_cmp c.insert.new.self) c.take.new.self
theirs_now c =
    let free = free_here c.self.inside.states c.args.self.now c.args.key.now c.in_ok-held.held c.self.view_is c.in_ok-held.ensures c.requires.free in
    granted c.self.inside.states c.insert.new.self c.in_ok-held.held _ c.in-Ok.ensures.updates.0 c.self.inside.tickets c.take.new.self c.in_ok-ticket.ticket refl free c.in_ok-ticket.ensures.least.free c.in_ok-ticket.ensures.taken c.self.invariant.theirs

pub invariant_of-self-in-Ok : goal.invariant_of-self-in-Ok
invariant_of-self-in-Ok c = record { ordered = c.insert.ensures.ordered; theirs = theirs_now c }

pub returns-clause-granted : goal.returns-clause-granted
returns-clause-granted c = record {
  free = c.requires.free;
  same_key = c.in_ok-key.ensures;
  ticket = subst (λ (s : Marks). IsLeastTicket s c.in_ok-ticket.ticket) c.self.view_is (least_ticket c.self.inside.states c.self.inside.tickets c.in_ok-ticket.ticket c.self.invariant.theirs c.in_ok-ticket.ensures.least);
}

pub returns-clause-after : goal.returns-clause-after
returns-clause-after c =
    inserted c.self.inside.states c.insert.new.self c.in_ok-held.held (Held c.in_ok-ticket.ticket) c.in-Ok.ensures.updates.0
    ∙ (ap (λ (s : Marks). finite.insert s c.in_ok-held.held (Held c.in_ok-ticket.ticket)) c.self.view_is
    ∙ ap (λ (k : Cells). finite.insert c.args.self.now k (Held c.in_ok-ticket.ticket)) c.in_ok-held.ensures)

pub returns-clause-consistent : goal.returns-clause-consistent
returns-clause-consistent c = consistent c.insert.new.self _ (theirs_now c)

-- the ticket is free again, and the marks are as they were
theirs_again : (c : goal.After-drop-key-inside-in_default) → AreTheirs (tree.get key_cmp c.insert.new.self) c.give.new.self
theirs_again c =
    theirs_by_entries c.self.inside.states c.insert.new.self c.give.new.self c.in_default.ensures.err
    (taken_and_given (tree.get key_cmp c.self.inside.states) c.self.inside.tickets c.take.new.self c.give.new.self c.in_ok-ticket.ticket c.in_ok-ticket.ensures.least.free c.in_ok-ticket.ensures.taken c.give.ensures c.self.invariant.theirs)

pub invariant_of-self-in_default : goal.invariant_of-self-in_default
invariant_of-self-in_default c = record { ordered = c.insert.ensures.ordered; theirs = theirs_again c }

pub returns-in_default-clause-consistent : goal.returns-in_default-clause-consistent
returns-in_default-clause-consistent c = consistent c.insert.new.self _ (theirs_again c)
