-- The writes of a transaction: for each key of a table that it has written, the last row or the removal.
use Rattle.std.specs.Prelude.{fold, ◌≡◌, ℕ, List, [], map, filter, flat_map, Option, None, IsTrue, unwrap_or}
use Rattle.std.specs.List.Sorted.{IsStrictlySortedBy}
use Rattle.std.specs.Map.{keys_of, lookup}
use Rattle.std.specs.BTreeMap.{is_at}
use Rattle.std.specs.Option.{option_map}
use Rattle.std.specs.declared.cmp.Ordering.{Ordering}
use Rattle.std.specs.declared.ops.Bound.{Bound}
use Rattle.std.specs.declared.ops.Bound.TheVariants.{Included, Excluded, Unbounded}
use Rattle.std.specs.Ordering.{ordering_then}
use Rattle.bf_base.specs.declared.value.Value.{Value}
use Rattle.bf_base.specs.Values.{key_cmp}
use Rattle.bf_base.specs.Lists.{name_cmp, same_name}
use Rattle.bf_base.specs.Maps.{is_map, entry_at, with_entry}
use Rattle.bf_heap.specs.KeyRanges.{is_within}
use Rattle.bf_heap.specs.declared.key_range.KeyRange.{KeyRange}
use Rattle.bf_txn.specs.declared.write.Write.{Write}

-- what a write is of: a key of a table
abbrev pub TableKey : Type 0
TableKey = List ℕ × List Value

abbrev pub table_key_of : Write → TableKey
table_key_of write = (write.table, write.key)

-- by table, then key
abbrev pub table_key_cmp : TableKey → TableKey → Ordering
table_key_cmp a b = ordering_then (name_cmp a.0 b.0) (key_cmp a.1 b.1)

-- what a transaction has last written to a key of a table: nothing where it has not written there, and no row where it
-- has removed what was there
abbrev pub written_at : List Write → TableKey → Option (Option (List Value))
written_at writes table_key = option_map (λ w. w.row) (entry_at table_key_cmp table_key_of writes table_key)

-- the writes to the table of a name
abbrev pub writes_to : List ℕ → List Write → List Write
writes_to table writes = filter (λ write. same_name write.table table) writes

abbrev pub with_write : List Write → Write → List Write
with_write writes write = with_entry table_key_cmp table_key_of writes write

-- one write a key, sorted by table, then key
abbrev pub AreWrites : List Write → Type 0
AreWrites writes = IsTrue (is_map table_key_cmp table_key_of writes)

-- a write to a table that is known: a key, and the row that it has from now on, or none
abbrev pub KeyWrite : Type 0
KeyWrite = List Value × Option (List Value)

abbrev pub key_of_write : KeyWrite → List Value
key_of_write write = write.0

abbrev pub key_write_of : Write → KeyWrite
key_write_of write = (write.key, write.row)

abbrev pub key_writes_to : List ℕ → List Write → List KeyWrite
key_writes_to table writes = map key_write_of (writes_to table writes)

abbrev pub writes_in : List ℕ → List KeyWrite → List Write
writes_in table writes = map (λ write. record { table = table; key = write.0; row = write.1 }) writes

-- what is written to a key
abbrev pub row_written_at : List KeyWrite → List Value → Option (Option (List Value))
row_written_at writes key = option_map (λ write. write.1) (entry_at key_cmp key_of_write writes key)

abbrev pub with_key_write : List KeyWrite → KeyWrite → List KeyWrite
with_key_write writes write = with_entry key_cmp key_of_write writes write

-- writes to one table, one after the other, by their keys
abbrev pub gathered : List Write → List KeyWrite
gathered writes = fold (λ noted write. with_key_write noted (key_write_of write)) [] writes

-- one write a key, sorted by key
abbrev pub AreKeyWrites : List KeyWrite → Type 0
AreKeyWrites writes = IsStrictlySortedBy key_cmp (keys_of writes)

-- a table and the writes to it
abbrev pub OfTable : Type 0
OfTable = List ℕ × List KeyWrite

abbrev pub all_writes : List OfTable → List Write
all_writes tables = flat_map (λ t. writes_in t.0 t.1) tables

-- the writes to the table of a name among those of all tables
abbrev pub writes_at : List OfTable → List ℕ → List KeyWrite
writes_at tables table = unwrap_or (lookup (is_at (name_cmp table)) tables) []

-- each table once, sorted by name, with its writes in their order
pub record AreTables (tables : List OfTable) : Type 0 where
  pub by_name : IsStrictlySortedBy name_cmp (keys_of tables)
  pub each : (table : List ℕ) → AreKeyWrites (writes_at tables table)

-- the end from which a pass over a range goes on, as whole keys are compared
abbrev pub beginning : Bound (List Value) → Bound (List Value)
beginning (Included end) = Included end
beginning (Excluded end) = Included end
beginning Unbounded = Unbounded

-- a place among writes: one whose key is in the range, or none where no later key is, and those behind it in their order
pub record AreAhead (range : KeyRange) (here : Option KeyWrite) (later : List KeyWrite) : Type 0 where
  pub sorted : AreKeyWrites later
  pub none : here ≡ None → filter (λ write. is_within range write.0) later ≡ []
