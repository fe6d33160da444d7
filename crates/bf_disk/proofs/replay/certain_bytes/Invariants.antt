use Rattle.std.proofs.Common.{◌≡◌, Some, map, take}
use Rattle.bf_disk.specs.Tape.{certain_after_all}
use Rattle.bf_disk.proofs.replay.certain_bytes.Given as goal

abbrev pub invariant-loop-call : goal.invariant-loop-call
invariant-loop-call l = l.certain.items ≡ certain_after_all l.file.items (map Some l.file.items) (take l.call-index l.later)
