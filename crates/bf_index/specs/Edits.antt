-- The index of a table's rows, from scratch and edit by edit.
use Rattle.std.specs.Prelude.{◌≡◌, ℕ, List, [], ◌∷◌, map, Option, Some, None, IsTrue}
use Rattle.std.specs.List.{All}
use Rattle.bf_base.specs.declared.value.Value.{Value}
use Rattle.bf_base.specs.Lists.{in_order}
use Rattle.bf_base.specs.Tables.{cells}
use Rattle.bf_heap.specs.Heaps.{Entry, row_under, with_row, without_row}
use Rattle.bf_index.specs.Pairs.{Pair, PairSet, has_pair, pair_cmp, itself, with_pair, without_pair}

-- the pair of a row under its key: its values at the indexed columns, and the key
abbrev pub pair_of : List ℕ → Entry → Pair
pair_of columns entry = (cells columns entry.1, entry.0)

-- from scratch: the pairs of all rows, in order
abbrev pub index_of : List ℕ → List Entry → List Pair
index_of columns entries = in_order pair_cmp itself (map (pair_of columns) entries)

-- an index is that of a table's rows, from scratch
abbrev pub IsIndexOf : List Entry → PairSet → Type 0
IsIndexOf entries index = index.pairs ≡ index_of index.columns entries

-- each of some indexes is
abbrev pub AreIndexesOf : List Entry → List PairSet → Type 0
AreIndexesOf entries indexes = All (IsIndexOf entries) indexes

-- an edit of a table's rows: a row is put under a key, in the place of the one that stands there, or the row under a key is removed
pub data RowEdit : Type 0 where
  put : List Value → List Value → RowEdit
  remove : List Value → RowEdit

abbrev pub rows_after : List Entry → RowEdit → List Entry
rows_after entries (put key row) = with_row entries key row
rows_after entries (remove key) = without_row entries key

-- the pairs without that of the row that stood under a key
abbrev pub without_former : List ℕ → List Pair → List Value → Option (List Value) → List Pair
without_former columns pairs key None = pairs
without_former columns pairs key (Some row) = without_pair pairs (pair_of columns (key, row))

-- the pairs once another row stands under a key than the former one, or none: that of the former row is taken, and that of the new row added
abbrev pub pairs_moved : List ℕ → List Pair → List Value → Option (List Value) → Option (List Value) → List Pair
pairs_moved columns pairs key former None = without_former columns pairs key former
pairs_moved columns pairs key former (Some row) = with_pair (without_former columns pairs key former) (pair_of columns (key, row))

-- an edit of the rows makes this of the pairs
abbrev pub pairs_after : List ℕ → List Entry → List Pair → RowEdit → List Pair
pairs_after columns entries pairs (put key row) = pairs_moved columns pairs key (row_under entries key) (Some row)
pairs_after columns entries pairs (remove key) = pairs_moved columns pairs key (row_under entries key) None

-- the edit that leaves this row under a key, or none
abbrev pub edit_to : List Value → Option (List Value) → RowEdit
edit_to key None = remove key
edit_to key (Some row) = put key row

-- the pair of a row that stands under a key is there
abbrev pub HasFormer : PairSet → List Value → Option (List Value) → Type 0
HasFormer index key None = Unit {0}
HasFormer index key (Some row) = IsTrue (has_pair index.pairs (pair_of index.columns (key, row)))

-- what edits of the rows, one after the other, make of the pairs
abbrev pub edited : List ℕ → List Entry → List Pair → List RowEdit → List Pair
edited columns entries pairs [] = pairs
edited columns entries pairs (edit ∷ edits) = edited columns (rows_after entries edit) (pairs_after columns entries pairs edit) edits
