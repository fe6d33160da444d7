-- A shelf of tapes.
use Rattle.std.specs.Prelude.{ℕ, List, Option, [], None, option_and_then, unwrap_or, find, nat_eq}
use Rattle.std.specs.Cmp.Lexicographic.{pointwise}
use Rattle.bf_disk.specs.Tape.{Tape, new_tape}
use Rattle.bf_disk.specs.declared.slot.Slot.{Slot}

-- its places, and the faults of the disks that came back
pub record Places : Type 0 where
  pub slots : List Slot
  pub faults : ℕ

-- the place of a path
abbrev pub slot_at : List Slot → List ℕ → Option Slot
slot_at slots path = find (λ slot. pointwise nat_eq slot.path path) slots

-- the disk that is held under a path
abbrev pub disk_at : Places → List ℕ → Option Tape
disk_at shelf path = option_and_then (λ slot. slot.disk) (slot_at shelf.slots path)

-- where the disk of a path is taken, the count of faults that it had
abbrev pub taken_at : Places → List ℕ → Option ℕ
taken_at shelf path = option_and_then (λ slot. slot.lent) (slot_at shelf.slots path)

-- what `take` gives: the disk that is held under the path, or an empty one of which no call fails
abbrev pub held_or_empty : Places → List ℕ → Tape
held_or_empty shelf path = unwrap_or (disk_at shelf path) (new_tape [] [] None)
