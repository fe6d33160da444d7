use Rattle.std.proofs.Common.{◌≡◌, find}
use Rattle.bf_store.specs.Anchors.{anchors_ahead, is_open}
use Rattle.bf_store.specs.Stores.{migration_of}
use Rattle.bf_store.proofs.anchor.next_anchor.Given as goal

-- what is before a unit has moved
abbrev pub invariant-loop-number : goal.invariant-loop-number
invariant-loop-number l = find (is_open (migration_of l.migration l.done)) (anchors_ahead l.migration l.fn.from.unit l.fn.from.position) ≡ find (is_open (migration_of l.migration l.done)) (anchors_ahead l.migration l.number l.position)
