-- What the laws of bound statements speak of: a statement with its action, and the rows of its table.
use Rattle.std.specs.Prelude.{◌≡◌, Bool, List, [], map, Some, IsTrue}
use Rattle.bf_base.specs.declared.value.Value.{Value}
use Rattle.bf_base.specs.declared.table.Table.{Table}
use Rattle.bf_base.specs.Maps.{is_map}
use Rattle.bf_base.specs.Tables.{key_of}
use Rattle.bf_base.specs.Values.{key_cmp}
use Rattle.bf_heap.specs.Heaps.{Entry, key_of_entry}
use Rattle.bf_tree.specs.declared.bound.Action.{Action}
use Rattle.bf_tree.specs.declared.statement.Statement.{Statement}
use Rattle.bf_sql.specs.Bound.{action_of}
use Rattle.bf_sql.specs.Database.{Database, IsDatabase, table_rows}
use Rattle.bf_sql.specs.Objections.{objections}
use Rattle.bf_txn.specs.declared.write.Write.{Write}
use Rattle.bf_txn.specs.Writes.{AreWrites}
use Rattle.bf_live.specs.Replies.{objections_on, writes_of, written}
use Rattle.bf_live.specs.Merged.{rows_under, StandUnderOwnKeys}

-- a statement that the catalog of a database does not refuse, and the action that it is bound to
pub record IsBoundAs (db : Database) (in_block : Bool) (s : Statement) (act : Action) : Type 0 where
  pub database : IsDatabase db
  pub admitted : objections db in_block s ≡ []
  pub action : action_of db s ≡ Some act

-- entries under writes hold the rows that a table has in a database
pub record HoldRowsOf (db : Database) (table : Table) (entries : List Entry) (writes : List Write) : Type 0 where
  pub entries_by_key : IsTrue (is_map key_cmp key_of_entry entries)
  pub writes_by_table_key : AreWrites writes
  pub under_own_keys : StandUnderOwnKeys table entries writes
  pub rows : rows_under entries writes table.name ≡ table_rows db table.name

-- the rows of a table, each under its key
abbrev pub entries_of : Table → List (List Value) → List Entry
entries_of table rows = map (λ row. (key_of table row, row)) rows

-- the writes of a transaction after an action on a table, and the rows of the table under them
abbrev pub writes_after : Database → Table → List Write → Action → List Write
writes_after db table writes act =
    let rows = table_rows db table.name in
    written (objections_on rows act) writes (writes_of rows act)

abbrev pub rows_after : Database → Table → List Entry → List Write → Action → List (List Value)
rows_after db table entries writes act = rows_under entries (writes_after db table writes act) table.name
