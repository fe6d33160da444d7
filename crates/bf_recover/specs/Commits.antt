-- COMMIT: the writes of a record, which of them are legal in a lazy state, and when all of them are.
use Rattle.std.specs.Prelude.{ℕ, ◌&&◌, Bool, true, List, length, map, nat_le, Option, Some, None, is_some}
use Rattle.std.specs.List.{list_all}
use Rattle.bf_base.specs.declared.table.Table.{Table}
use Rattle.bf_base.specs.declared.value.Value.{Value}
use Rattle.bf_base.specs.Lists.{has, same_key}
use Rattle.bf_base.specs.Maps.{is_map}
use Rattle.bf_base.specs.Tables.{key_of}
use Rattle.bf_record.specs.declared.writes.RowChange.{RowChange}
use Rattle.bf_record.specs.declared.writes.RowChange.TheVariants.{Removed, Put}
use Rattle.bf_record.specs.declared.writes.TableWrite.{TableWrite}
use Rattle.bf_txn.specs.declared.write.Write.{Write}
use Rattle.bf_txn.specs.Writes.{table_key_cmp, table_key_of}
use Rattle.bf_sql.specs.Database.{Database, is_admitted, stored_at, table_at, table_rows}
use Rattle.bf_sql.specs.migrations.Lazy.{LazyState, view_of}
use Rattle.bf_store.specs.States.{is_free}

-- a write of a record, under its key: a row that is put stands under its own
abbrev pub write_by : Table → List ℕ → RowChange → Write
write_by table name (Removed key) = record { table = name; key = key; row = None }
write_by table name (Put row) = record { table = name; key = key_of table row; row = Some row }

-- a table admits a row that is put
abbrev pub is_fit_change : Table → RowChange → Bool
is_fit_change table (Removed key) = true
is_fit_change table (Put row) = is_admitted table row

abbrev pub write_of : Database → TableWrite → Write
write_of db w = write_by (table_at db w.table) w.table w.change

-- a row of a table with this key is seen
abbrev pub is_seen : LazyState → List ℕ → List Value → Bool
is_seen lazy name key = has same_key (map (key_of (table_at lazy.live name)) (table_rows (view_of lazy) name)) key

-- a row that is put is admitted by its table, and one that is removed is seen
abbrev pub may_be : LazyState → Write → Option (List Value) → Bool
may_be lazy w (Some row) = is_admitted (table_at lazy.live w.table) row
may_be lazy w None = is_seen lazy w.table w.key

-- a write is legal to a table that stands, under a key that no owner is still to move
abbrev pub is_legal_write : LazyState → Write → Bool
is_legal_write lazy w = is_some (stored_at lazy.live w.table) && is_free lazy.last (table_at lazy.live w.table) w.key && may_be lazy w w.row

-- some writes, rising by table and key, each of them legal
abbrev pub is_legal_commit : LazyState → List Write → Bool
is_legal_commit lazy writes = nat_le 1 (length writes) && is_map table_key_cmp table_key_of writes && list_all (is_legal_write lazy) writes

-- the writes of a record, each under its key
abbrev pub writes_of : Database → List TableWrite → List Write
writes_of db writes = map (write_of db) writes

-- a row that is removed stands in the live table
abbrev pub is_kept_if_removed : LazyState → Write → Option (List Value) → Bool
is_kept_if_removed lazy w (Some row) = true
is_kept_if_removed lazy w None = has same_key (map (key_of (table_at lazy.live w.table)) (table_rows lazy.live w.table)) w.key
