use Rattle.std.proofs.Common.{sym, ap, subst, ◌∙◌}
use Rattle.bf_hash.specs.States.{state_by}
use Rattle.bf_hash.specs.Stripes.{Marks, IsConsistent, state_of}
use Rattle.bf_hash.proofs.Marks.{mark_in, consistent}
use Rattle.bf_hash.proofs.stripe.Stripe.claim.Goals as goal

pub grant-requires : goal.grant-requires
grant-requires c = record { free = ap (λ (s : Marks). state_of s c.args.key.now) (sym c.self.view_is) ∙ (ap state_by (mark_in c.self.inside.states c.args.key.now) ∙ (sym c.state_among.ensures ∙ c.in-Free.is)) }

pub returns-in-Held-clause-answer : goal.returns-in-Held-clause-answer
returns-in-Held-clause-answer c = ap (λ (s : Marks). state_of s c.args.key.now) (sym c.self.view_is) ∙ (ap state_by (mark_in c.self.inside.states c.args.key.now) ∙ (sym c.state_among.ensures ∙ c.in-Held.is))

pub returns-in-Held-clause-consistent : goal.returns-in-Held-clause-consistent
returns-in-Held-clause-consistent c = subst IsConsistent c.self.view_is (consistent c.self.inside.states _ c.self.invariant.theirs)

pub returns-in-Done-clause-answer : goal.returns-in-Done-clause-answer
returns-in-Done-clause-answer c = ap (λ (s : Marks). state_of s c.args.key.now) (sym c.self.view_is) ∙ (ap state_by (mark_in c.self.inside.states c.args.key.now) ∙ (sym c.state_among.ensures ∙ c.in-Done.is))

pub returns-in-Done-clause-consistent : goal.returns-in-Done-clause-consistent
returns-in-Done-clause-consistent c = subst IsConsistent c.self.view_is (consistent c.self.inside.states _ c.self.invariant.theirs)
