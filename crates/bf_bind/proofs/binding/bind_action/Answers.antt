use Rattle.bf_sql.specs.Bound.{without_rows}
use Rattle.bf_bind.proofs.Statements.{begin-binds, commit-binds, delete-absent, delete-binds, insert-absent, insert-binds, migrate-inside, rollback-binds, select-absent, select-binds, update-absent, update-binds}
use Rattle.bf_bind.proofs.binding.bind_action.Goals as goal

pub returns-in_err-expect_table-in-Insert : goal.returns-in_err-expect_table-in-Insert
returns-in_err-expect_table-in-Insert c =
    rw c.in-Insert.is (insert-absent (without_rows c.args.catalog.now) c.args.in_block c.in-Insert.table c.in-Insert.tuples _ c.in_err-expect_table-in-Insert.field-0.0 _ c.from_residual.ensures.1 c.in_err-expect_table-in-Insert.ensures.table)

pub returns-in_ok-expect_table-in-Insert : goal.returns-in_ok-expect_table-in-Insert
returns-in_ok-expect_table-in-Insert c =
    rw c.in-Insert.is (insert-binds (without_rows c.args.catalog.now) c.args.in_block c.in-Insert.table c.in-Insert.tuples c.in_ok-expect_table-in-Insert.field-0.now c.in_ok-expect_table-in-Insert.ensures.table c.bind_insert.result c.bind_insert.ensures)

pub returns-in_err-expect_table-in-Select : goal.returns-in_err-expect_table-in-Select
returns-in_err-expect_table-in-Select c =
    rw c.in-Select.is (select-absent (without_rows c.args.catalog.now) c.args.in_block c.in-Select.table c.in-Select.cond c.in-Select.list _ c.in_err-expect_table-in-Select.field-0.0 _ c.from_residual-in_err-expect_table-in-Select.ensures.1 c.in_err-expect_table-in-Select.ensures.table)

pub returns-in_ok-expect_table-in-Select : goal.returns-in_ok-expect_table-in-Select
returns-in_ok-expect_table-in-Select c =
    rw c.in-Select.is (select-binds (without_rows c.args.catalog.now) c.args.in_block c.in-Select.table c.in-Select.cond c.in-Select.list c.in_ok-expect_table-in-Select.field-0.now c.in_ok-expect_table-in-Select.ensures.table c.bind_select.result c.bind_select.ensures)

pub returns-in_err-expect_table-in-Update : goal.returns-in_err-expect_table-in-Update
returns-in_err-expect_table-in-Update c =
    rw c.in-Update.is (update-absent (without_rows c.args.catalog.now) c.args.in_block c.in-Update.table c.in-Update.cond c.in-Update.sets _ c.in_err-expect_table-in-Update.field-0.0 _ c.from_residual-in_err-expect_table-in-Update.ensures.1 c.in_err-expect_table-in-Update.ensures.table)

pub returns-in_ok-expect_table-in-Update : goal.returns-in_ok-expect_table-in-Update
returns-in_ok-expect_table-in-Update c =
    rw c.in-Update.is (update-binds (without_rows c.args.catalog.now) c.args.in_block c.in-Update.table c.in-Update.cond c.in-Update.sets c.in_ok-expect_table-in-Update.field-0.now c.in_ok-expect_table-in-Update.ensures.table c.bind_update.result c.bind_update.ensures)

pub returns-in_err-expect_table-in-Delete : goal.returns-in_err-expect_table-in-Delete
returns-in_err-expect_table-in-Delete c =
    rw c.in-Delete.is (delete-absent (without_rows c.args.catalog.now) c.args.in_block c.in-Delete.table c.in-Delete.cond _ c.in_err-expect_table-in-Delete.field-0.0 _ c.from_residual-in_err-expect_table-in-Delete.ensures.1 c.in_err-expect_table-in-Delete.ensures.table)

pub returns-in_ok-expect_table-in-Delete : goal.returns-in_ok-expect_table-in-Delete
returns-in_ok-expect_table-in-Delete c =
    rw c.in-Delete.is (delete-binds (without_rows c.args.catalog.now) c.args.in_block c.in-Delete.table c.in-Delete.cond c.in_ok-expect_table-in-Delete.field-0.now c.in_ok-expect_table-in-Delete.ensures.table c.bind_delete.result c.bind_delete.ensures)

pub returns-in-Begin : goal.returns-in-Begin
returns-in-Begin c = rw c.in-Begin.is (begin-binds (without_rows c.args.catalog.now) c.bind_begin.result c.args.in_block c.bind_begin.ensures)

pub returns-in-Commit : goal.returns-in-Commit
returns-in-Commit c = rw c.in-Commit.is (commit-binds (without_rows c.args.catalog.now) c.bind_commit.result c.args.in_block c.bind_commit.ensures)

pub returns-in-Rollback : goal.returns-in-Rollback
returns-in-Rollback c = rw c.in-Rollback.is (rollback-binds (without_rows c.args.catalog.now) c.bind_rollback.result c.args.in_block c.bind_rollback.ensures)

pub returns-in-Migrate : goal.returns-in-Migrate
returns-in-Migrate c = rw c.in-Migrate.is (migrate-inside (without_rows c.args.catalog.now) c.args.in_block _ (rw c.in-Migrate.is at c.requires.alone))
