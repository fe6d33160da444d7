-- What the record of a commit tells of the writes to one live table, by the rows that the table has.
use Rattle.std.specs.Prelude.{Bool, ◌||◌, List, is_some}
use Rattle.bf_heap.specs.Heaps.{Entry, has_row}
use Rattle.bf_txn.specs.Writes.{KeyWrite}

-- a row that is put, or the removal of one that is there
abbrev pub is_told_in : List Entry → KeyWrite → Bool
is_told_in entries w = is_some w.1 || has_row entries w.0
