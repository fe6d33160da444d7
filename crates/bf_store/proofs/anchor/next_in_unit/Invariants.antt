use Rattle.std.proofs.Common.{◌≡◌, find}
use Rattle.bf_store.specs.Anchors.{anchors_left, is_open}
use Rattle.bf_store.specs.Stores.{migration_of}
use Rattle.bf_store.proofs.anchor.next_in_unit.Given as goal

-- what is before a position has moved
abbrev pub invariant-loop-position : goal.invariant-loop-position
invariant-loop-position l = find (is_open (migration_of l.migration l.done)) (anchors_left l.migration l.unit l.from) ≡ find (is_open (migration_of l.migration l.done)) (anchors_left l.migration l.unit l.position)
