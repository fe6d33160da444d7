use Rattle.std.proofs.Common.{◌≡◌, ◌++◌, map}
use Rattle.bf_base.specs.declared.granule.Place.TheVariants.{Group}
use Rattle.bf_store.specs.ByUnit.{at_place}
use Rattle.bf_store.proofs.unit_marks.UnitMarks.add_granules.Given as goal

-- the granules so far, and those of the values that are left
abbrev pub invariant-loop-value : goal.invariant-loop-value
invariant-loop-value l = l.granules.items ++ map (λ v. at_place l.unit (Group v)) l.value-iterator ≡ l.initial.granules.items ++ map (λ v. at_place l.unit (Group v)) l.initial.value-iterator
