use Rattle.std.proofs.Common.{◌≡◌, ◌≤◌, ◌-◌, length}
use Rattle.bf_store.specs.ByUnit.{from_unit}
use Rattle.bf_store.proofs.unit_marks.make_unit.Given as goal

-- the marks are as they were
abbrev pub invariant-loop-alloc : goal.invariant-loop-alloc
invariant-loop-alloc l = record {
  marks : from_unit 0 l.units.items ≡ from_unit 0 l.fn.units.items;
  few : length l.units.items ≤ 256;
}

abbrev pub decreases-loop-alloc : goal.decreases-loop-alloc
decreases-loop-alloc l = 256 - length l.units.items
