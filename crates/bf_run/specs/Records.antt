-- THE RECORD OF A CHANGE: what is told of the change from one lazy state to another.
use Rattle.std.specs.Prelude.{◌≡◌, ℕ, true, List, map, filter, Option, Some, None}
use Rattle.bf_base.specs.declared.granule.Granule.{Granule}
use Rattle.bf_base.specs.declared.granule.Place.{Place}
use Rattle.bf_base.specs.declared.value.Value.{Value}
use Rattle.bf_heap.specs.Heaps.{Entry}
use Rattle.bf_record.specs.Shallow.{AreShallow}
use Rattle.bf_record.specs.declared.change.Change.{Change}
use Rattle.bf_record.specs.declared.writes.RowChange.{RowChange}
use Rattle.bf_record.specs.declared.writes.RowChange.TheVariants.{Removed, Put}
use Rattle.bf_record.specs.declared.writes.TableWrite.{TableWrite}
use Rattle.bf_sql.specs.Database.{Database}
use Rattle.bf_sql.specs.migrations.Lazy.{LazyState}
use Rattle.bf_store.specs.Calls.{is_told}
use Rattle.bf_store.specs.Told.{is_told_in}
use Rattle.bf_txn.specs.Writes.{KeyWrite}
use Rattle.bf_tree.specs.declared.history.Sweep.{Sweep}
use Rattle.bf_tree.specs.declared.history.Sweep.TheVariants.{Never, Complete, Running}
use Rattle.bf_txn.specs.declared.write.Write.{Write}
use Rattle.bf_recover.specs.Legal.{changed, is_legal}

-- RECORD OF: a record can spell the change, which is legal in the one state and makes the other of it
pub record IsRecordOf (lazy : LazyState) (change : Change) (next : LazyState) : Type 0 where
  pub shallow : AreShallow change
  pub legal : is_legal lazy change ≡ true
  pub made : next ≡ changed lazy change

-- what is told of a write: the row that is put, without its key, or the key that is removed
abbrev pub row_told : List Value → Option (List Value) → RowChange
row_told key (Some row) = Put row
row_told key None = Removed key

abbrev pub write_told : List ℕ → KeyWrite → TableWrite
write_told name w = record { table = name; change = row_told w.0 w.1 }

-- of the writes of a transaction those that a commit tells
abbrev pub writes_told : Database → List Write → List TableWrite
writes_told live writes = map (λ w. write_told w.table (w.key, w.row)) (filter (is_told live) writes)

-- and of those to one live table, by the rows that the table has
abbrev pub told_in : List Entry → List ℕ → List KeyWrite → List TableWrite
told_in entries name writes = map (write_told name) (filter (is_told_in entries) writes)

-- what is told of granules of one unit
abbrev pub places_of : List Granule → List Place
places_of granules = map (λ g. g.place) granules

-- the number of the migration of a sweep
abbrev pub number_in : Sweep → ℕ
number_in Never = 0
number_in (Complete migration moved) = migration
number_in (Running migration moved unit position) = migration
