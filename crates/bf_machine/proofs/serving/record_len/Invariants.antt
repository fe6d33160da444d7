-- Those that are counted are of the first one's unit.
use Rattle.std.proofs.Common.{◌≡◌, ◌≤◌, Some, take}
use Rattle.std.specs.Prelude.{slice_get}
use Rattle.std.specs.List.{AllByRecursion}
use Rattle.bf_base.specs.declared.granule.Granule.{Granule}
use Rattle.bf_store.specs.States.{most_moved}
use Rattle.bf_machine.proofs.serving.record_len.Given as goal

abbrev pub invariant-loop-count : goal.invariant-loop-count
invariant-loop-count l = record {
  few : l.count ≤ most_moved;
  one_unit : (first : Granule) → slice_get l.granules 0 ≡ Some first → AllByRecursion (λ (g : Granule). g.unit ≡ first.unit) (take l.count l.granules);
}
