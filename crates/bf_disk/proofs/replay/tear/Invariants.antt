use Rattle.std.proofs.Common.{◌≡◌, ◌≤◌, ◌++◌, drop}
use Rattle.bf_disk.specs.Tape.{torn_from}
use Rattle.bf_disk.proofs.replay.tear.Given as goal

abbrev pub invariant-loop-byte : goal.invariant-loop-byte
invariant-loop-byte l = record {
  so_far : l.image.items ++ torn_from l.torn l.pending (drop l.byte-index l.certain) ≡ torn_from l.torn 0 l.certain;
  in_range : l.pending ≤ l.byte-index;
}
