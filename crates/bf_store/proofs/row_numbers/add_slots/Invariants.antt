use Rattle.std.proofs.Common.{◌≡◌, ◌+◌, ◌++◌, map, drop}
use Rattle.std.specs.Map.{keys_of}
use Rattle.bf_base.specs.declared.granule.Place.TheVariants.{Row}
use Rattle.bf_store.specs.ByUnit.{at_place}
use Rattle.bf_store.specs.RowNumbers.{from_slot}
use Rattle.bf_store.proofs.row_numbers.add_slots.Given as goal

-- the granules so far, and those of the slots that are left
abbrev pub invariant-loop-slot : goal.invariant-loop-slot
invariant-loop-slot l = l.granules.items ++ map (λ n. at_place l.unit (Row n)) (keys_of (from_slot (l.first + l.slot) (drop l.slot l.slots))) ≡ l.fn.granules.items ++ map (λ n. at_place l.unit (Row n)) (keys_of (from_slot l.first l.slots))
