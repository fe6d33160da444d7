-- What the action of a statement has to be, so that it runs on the rows of its table.
use Rattle.std.specs.Prelude.{◌≡◌, Some}
use Rattle.bf_base.specs.declared.table.Table.{Table}
use Rattle.bf_tree.specs.declared.bound.Action.{Action}
use Rattle.bf_sql.specs.Database.{Database, IsDatabase, stored_at, table_rows}
use Rattle.bf_live.specs.Replies.{IsWellBound, action_table, LeavesKeys}

-- a well bound action on a table of a database
pub record IsOn (db : Database) (table : Table) (act : Action) : Type 0 where
  pub database : IsDatabase db
  pub stored : stored_at db table.name ≡ Some (record { table = table; rows = table_rows db table.name })
  pub of_table : action_table act ≡ Some table
  pub bound : IsWellBound act
  pub leaves : LeavesKeys act
