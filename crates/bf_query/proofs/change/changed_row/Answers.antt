use Rattle.std.proofs.Common.{ℕ}
use Rattle.bf_tree.specs.Trees.{Expr}
use Rattle.bf_tree.proofs.Stopping.{handed_on, stops_at_item}
use Rattle.bf_query.proofs.change.changed_row.Goals as goal

-- the first set that has an objection
pub returns-in_err-found : goal.returns-in_err-found
returns-in_err-found c =
    handed_on _ c.in_err-found.field-0.0 _ _ _ _ c.from_residual-in_err-found.ensures.1 c.in_err-found.ensures
    (stops_at_item (λ (set : ℕ × Expr ℕ). set) c.args.sets.now c.loop-place.place-index c.loop-place-item.result c.loop-place-test.true c.loop-place-item.is _ _ c.loop-place.invariant.objections)
