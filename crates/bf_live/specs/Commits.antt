-- The heaps of tables, from the first room that a commit makes to its last write.
use Rattle.std.specs.Prelude.{Option, ◌≡◌, ◌⊎◌, ℕ, ◌+◌, ◌≤◌, List, [], map, fold, count_by, is_some, if◌then◌else◌}
use Rattle.std.specs.List.{All, AllZip}
use Rattle.std.specs.Map.{values_of}
use Rattle.bf_base.specs.Lists.{same_name}
use Rattle.bf_base.specs.declared.value.Value.{Value}
use Rattle.bf_live.specs.Merged.{applied_to, entries_under}
use Rattle.bf_txn.specs.declared.write.Write.{Write}
use Rattle.bf_txn.specs.Writes.{KeyWrite, writes_to}
use Rattle.bf_live.specs.Live.{NamedHeap, NamedRows}

-- the number of rows that a write of a row or of a removal puts
abbrev pub put_by : Option (List Value) → ℕ
put_by row = if is_some row then 1 else 0

-- those that writes to a table put
abbrev pub key_puts : List KeyWrite → ℕ
key_puts writes = count_by (λ row. is_some row) (values_of writes)

abbrev pub puts : List Write → ℕ
puts writes = count_by (λ write. is_some write.row) writes

-- the heap of a table, if it is there, has room for this many rows
abbrev pub HasRoomIn : List ℕ → ℕ → NamedHeap → Type 0
HasRoomIn table count heap = heap.0 ≡ table → count ≤ heap.1.spare

-- a heap has room for all rows that are put into its table
abbrev pub HasRoom : List Write → NamedHeap → Type 0
HasRoom writes heap = puts (writes_to heap.0 writes) ≤ heap.1.spare

abbrev pub HaveRoomFor : List Write → List NamedHeap → Type 0
HaveRoomFor writes heaps = All (HasRoom writes) heaps

-- so has each heap to which one of the first writes is
abbrev pub HaveRoomSoFar : List Write → List Write → List NamedHeap → Type 0
HaveRoomSoFar first writes heaps = All (λ heap. (writes_to heap.0 first ≡ []) ⊎ HasRoom writes heap) heaps

-- each heap keeps its room, but for what is taken of it by its table's name
abbrev pub LeaveRoom : (List ℕ → ℕ) → List NamedHeap → List NamedHeap → Type 0
LeaveRoom taken before after = AllZip (λ a b. (b.0 ≡ a.0) × (a.1.spare ≤ b.1.spare + taken a.0)) before after

abbrev pub KeepRoom : List NamedHeap → List NamedHeap → Type 0
KeepRoom = LeaveRoom (λ name. 0)

abbrev pub taken_by : List ℕ → List KeyWrite → List ℕ → ℕ
taken_by table writes name = if same_name table name then key_puts writes else 0

-- the rows of tables after the writes to one of them, and after all writes
abbrev pub with_writes_to : List ℕ → List KeyWrite → List NamedRows → List NamedRows
with_writes_to table writes rows = map (λ (r : NamedRows). (r.0, if same_name table r.0 then fold applied_to r.1 writes else r.1)) rows

abbrev pub with_writes : List Write → List NamedRows → List NamedRows
with_writes writes rows = map (λ (r : NamedRows). (r.0, entries_under r.1 writes r.0)) rows
