-- The rows of a table as a transaction sees them: those of the heap, under what it has written.
use Rattle.std.specs.Prelude.{◌≡◌, ℕ, ◌+◌, List, [], ◌∷◌, map, fold, length, Option, Some, None, IsTrue}
use Rattle.std.specs.List.{All}
use Rattle.bf_base.specs.declared.value.Value.{Value}
use Rattle.bf_base.specs.declared.table.Table.{Table}
use Rattle.bf_base.specs.Maps.{is_map}
use Rattle.bf_base.specs.Tables.{key_of, IsKeyWithin}
use Rattle.bf_base.specs.Values.{key_cmp}
use Rattle.bf_heap.specs.Heaps.{Entry, with_row, without_row}
use Rattle.bf_txn.specs.declared.write.Write.{Write}
use Rattle.bf_txn.specs.Writes.{KeyWrite, key_of_write, writes_to}

-- the entries after a write
abbrev pub changed_by : Option (List Value) → List Value → List Entry → List Entry
changed_by (Some row) key entries = with_row entries key row
changed_by None key entries = without_row entries key

abbrev pub applied : List Entry → Write → List Entry
applied entries write = changed_by write.row write.key entries

-- the entries of the heap with the writes to a table applied
abbrev pub entries_under : List Entry → List Write → List ℕ → List Entry
entries_under entries writes table = fold applied entries (writes_to table writes)

-- and the rows alone, in key order
abbrev pub rows_under : List Entry → List Write → List ℕ → List (List Value)
rows_under entries writes table = map (λ entry. entry.1) (entries_under entries writes table)

-- a row of the table stands under its own key
abbrev pub HasOwnKey : Table → List Value → List Value → Type 0
HasOwnKey table key row = IsKeyWithin table row × (key_of table row ≡ key)

abbrev pub WritesOwnKey : Table → Write → Type 0
WritesOwnKey table write = (row : List Value) → write.table ≡ table.name → write.row ≡ Some row → HasOwnKey table write.key row

-- all rows of the table do, in the heap and in the workspace
pub record StandUnderOwnKeys (table : Table) (entries : List Entry) (writes : List Write) : Type 0 where
  pub heap : All (λ entry. HasOwnKey table entry.0 entry.1) entries
  pub workspace : All (WritesOwnKey table) writes

-- the entries after a write to their table
abbrev pub applied_to : List Entry → KeyWrite → List Entry
applied_to entries write = changed_by write.1 write.0 entries

-- the writes to one table come in the order of their keys, each once
abbrev pub AreByKey : List KeyWrite → Type 0
AreByKey writes = IsTrue (is_map key_cmp key_of_write writes)

-- what a pass over entries and writes has before it: the rows of the entries under the writes
abbrev pub rows_ahead : List Entry → List KeyWrite → List (List Value)
rows_ahead entries writes = map (λ entry. entry.1) (fold applied_to entries writes)

-- the entries and writes that it has before it
abbrev pub steps_ahead : List Entry → List KeyWrite → ℕ
steps_ahead entries writes = length entries + length writes

-- the rows of a step, which gives a row or none, before those behind it; nothing is behind the last step
abbrev pub rows_stepped : Option (Option (List Value)) → List (List Value) → List (List Value)
rows_stepped None behind = []
rows_stepped (Some None) behind = behind
rows_stepped (Some (Some row)) behind = row ∷ behind
