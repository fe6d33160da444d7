use Rattle.std.proofs.Common.{Some, ap, ◌∙◌}
use Rattle.bf_tree.specs.Settling.{first_of}
use Rattle.bf_tree.specs.declared.bound.Action.TheVariants as action
use Rattle.bf_tree.specs.declared.catalog.IndexRule.{IndexRule}
use Rattle.bf_tree.specs.declared.statement.Statement.TheVariants as statement
use Rattle.bf_sql.specs.Bound.{without_rows}
use Rattle.bf_bind.proofs.Statements.{error_binds, index-absent, index-action, index-alone, index-inside, ok_binds}
use Rattle.bf_bind.proofs.binding.bind_create_index.Goals as goal

pub returns-in_err-expect_alone : goal.returns-in_err-expect_alone
returns-in_err-expect_alone c =
    error_binds (without_rows c.args.catalog.now) c.args.in_block (statement.CreateIndex c.args.name.now c.args.table.now c.args.columns.now) _ c.in_err-expect_alone.field-0.0 _ _ c.from_residual.ensures.1 c.in_err-expect_alone.ensures
    (index-inside (without_rows c.args.catalog.now) c.args.name.now c.args.table.now c.args.columns.now c.args.in_block)

pub returns-in_err-table : goal.returns-in_err-table
returns-in_err-table c =
    index-absent (without_rows c.args.catalog.now) c.args.name.now c.args.table.now c.args.columns.now c.args.in_block c.in_ok-expect_alone.ensures.0 _ c.in_err-table.field-0.0 _ c.from_residual-in_err-table.ensures.1 c.in_err-table.ensures.table

pub returns-in_err-index : goal.returns-in_err-index
returns-in_err-index c =
    let alone = index-alone (without_rows c.args.catalog.now) c.args.name.now c.args.table.now c.args.columns.now c.args.in_block c.in_ok-expect_alone.ensures.0 c.in_ok-table.table.now c.in_ok-table.ensures.table in
    error_binds (without_rows c.args.catalog.now) c.args.in_block (statement.CreateIndex c.args.name.now c.args.table.now c.args.columns.now) _ c.in_err-index.field-0.0 _ _ c.from_residual-in_err-index.ensures.1 (rw c.as_slice.ensures at c.in_err-index.ensures)
    (λ r first. ap first_of alone ∙ first)

pub returns : goal.returns
returns c =
    let made = rw c.as_slice.ensures at c.in_ok-index.ensures in
    let alone = index-alone (without_rows c.args.catalog.now) c.args.name.now c.args.table.now c.args.columns.now c.args.in_block c.in_ok-expect_alone.ensures.0 c.in_ok-table.table.now c.in_ok-table.ensures.table in
    let acts = index-action (without_rows c.args.catalog.now) c.args.name.now c.args.table.now c.args.columns.now c.args.in_block c.in_ok-expect_alone.ensures.0 c.in_ok-table.table.now c.in_ok-table.ensures.table.1 in
    ok_binds (without_rows c.args.catalog.now) c.args.in_block (statement.CreateIndex c.args.name.now c.args.table.now c.args.columns.now) (action.CreateIndex c.in_ok-index.index) (alone ∙ made.0)
    (ap (λ (index : IndexRule). Some (action.CreateIndex index)) made.1 ∙ acts)
