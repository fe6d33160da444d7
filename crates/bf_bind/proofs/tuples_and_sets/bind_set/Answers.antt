use Rattle.bf_tree.proofs.Settling.{first_ahead, handed_on}
use Rattle.bf_bind.proofs.tuples_and_sets.bind_set.Goals as goal

-- the objections before those to the expression are none
pub returns-in_err-bound : goal.returns-in_err-bound
returns-in_err-bound c =
    let here = rw c.of.ensures at c.in_err-bound.ensures in
    handed_on _ c.in_err-bound.field-0.0 _ _ _ _ c.from_residual-in_err-bound.ensures.1 here
    (λ r first. rw (← c.in-Some.ensures.there, ← c.if-is_key.ensures, ← c.if-is_set.ensures) (first_ahead _ _ r first))
