use Rattle.std.proofs.Common.{Some, ap, ◌∙◌}
use Rattle.bf_base.specs.declared.table.Table.{Table}
use Rattle.bf_tree.specs.Settling.{first_of}
use Rattle.bf_tree.specs.declared.bound.Action.TheVariants as action
use Rattle.bf_tree.specs.declared.statement.Statement.TheVariants as statement
use Rattle.bf_sql.specs.Bound.{without_rows}
use Rattle.bf_bind.proofs.Statements.{error_binds, ok_binds, table-alone, table-inside}
use Rattle.bf_bind.proofs.binding.bind_create_table.Goals as goal

pub returns-in_err-expect_alone : goal.returns-in_err-expect_alone
returns-in_err-expect_alone c =
    error_binds (without_rows c.args.catalog.now) c.args.in_block (statement.CreateTable c.args.name.now c.args.rules.now c.args.key.now) _ c.in_err-expect_alone.field-0.0 _ _ c.from_residual.ensures.1 c.in_err-expect_alone.ensures
    (table-inside (without_rows c.args.catalog.now) c.args.name.now c.args.rules.now c.args.key.now c.args.in_block)

pub returns-in_err-table : goal.returns-in_err-table
returns-in_err-table c =
    error_binds (without_rows c.args.catalog.now) c.args.in_block (statement.CreateTable c.args.name.now c.args.rules.now c.args.key.now) _ c.in_err-table.field-0.0 _ _ c.from_residual-in_err-table.ensures.1 (rw (c.as_slice.ensures, c.as_slice-2.ensures) at c.in_err-table.ensures)
    (λ r first. ap first_of (table-alone (without_rows c.args.catalog.now) c.args.name.now c.args.rules.now c.args.key.now c.args.in_block c.in_ok-expect_alone.ensures.0) ∙ first)

pub returns : goal.returns
returns c =
    let made = rw (c.as_slice.ensures, c.as_slice-2.ensures) at c.in_ok-table.ensures in
    ok_binds (without_rows c.args.catalog.now) c.args.in_block (statement.CreateTable c.args.name.now c.args.rules.now c.args.key.now) (action.CreateTable c.in_ok-table.table)
    (table-alone (without_rows c.args.catalog.now) c.args.name.now c.args.rules.now c.args.key.now c.args.in_block c.in_ok-expect_alone.ensures.0 ∙ made.0)
    (ap (λ (t : Table). Some (action.CreateTable t)) made.1)
