use Rattle.std.proofs.Common.{ap, ◌∙◌}
use Rattle.bf_tree.specs.Settling.{first_of}
use Rattle.bf_tree.proofs.Settling.{first_ahead, handed_on}
use Rattle.bf_sql.specs.Bound.{without_rows}
use Rattle.bf_plan.proofs.BoundTargets.{behind_left, few-bound, objections-bound, table_made}
use Rattle.bf_plan.proofs.target.bind_target.Goals as goal

pub returns-in_err-arms : goal.returns-in_err-arms
returns-in_err-arms c =
    handed_on _ c.in_err-arms.field-0.0 _ _ _ _ c.from_residual.ensures.1 c.in_err-arms.ensures
    (λ r first. ap first_of (objections-bound (without_rows c.args.catalog.now) c.args.target.now) ∙ first_ahead _ _ r first)

pub expect_behind-requires : goal.expect_behind-requires
expect_behind-requires c = rw c.as_slice.ensures (few-bound (without_rows c.args.catalog.now) c.args.target.now c.in_ok-arms.arms c.in_ok-arms.ensures c.requires.few)

pub returns-in_err-expect_behind : goal.returns-in_err-expect_behind
returns-in_err-expect_behind c =
    handed_on _ c.in_err-expect_behind.field-0.0 _ _ _ _ c.from_residual-in_err-expect_behind.ensures.1 (rw c.as_slice.ensures at c.in_err-expect_behind.ensures)
    (λ r first. ap first_of (behind_left (without_rows c.args.catalog.now) c.args.target.now c.in_ok-arms.arms c.in_ok-arms.ensures) ∙ first)

pub returns : goal.returns
returns c =
    let behind = rw c.as_slice.ensures at c.in_ok-expect_behind.ensures in
    let made = rw c.as_slice-2.ensures at c.in_ok-table.ensures in
    let table = table_made (without_rows c.args.catalog.now) c.args.target.now c.in_ok-arms.arms c.in_ok-arms.ensures c.in_ok-table.table made in (
      behind_left (without_rows c.args.catalog.now) c.args.target.now c.in_ok-arms.arms c.in_ok-arms.ensures ∙ behind.0,
      λ i. record { table = table i; arms = c.in_ok-arms.ensures.1 i },
    )
