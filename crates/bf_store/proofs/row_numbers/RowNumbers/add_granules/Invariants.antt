use Rattle.std.proofs.Common.{◌≡◌, ◌++◌, map, drop}
use Rattle.std.specs.Map.{keys_of}
use Rattle.bf_base.specs.declared.granule.Place.TheVariants.{Row}
use Rattle.bf_store.specs.ByUnit.{at_place}
use Rattle.bf_store.specs.RowNumbers.{from_page}
use Rattle.bf_store.proofs.row_numbers.RowNumbers.add_granules.Given as goal

-- the granules so far, and those of the pages that are left
abbrev pub invariant-loop-page : goal.invariant-loop-page
invariant-loop-page l = l.granules.items ++ map (λ n. at_place l.unit (Row n)) (keys_of (from_page l.page (drop l.page l.slots-items))) ≡ l.fn.granules.items ++ map (λ n. at_place l.unit (Row n)) (keys_of (from_page 0 l.slots-items))
