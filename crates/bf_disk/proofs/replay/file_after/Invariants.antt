use Rattle.std.proofs.Common.{◌≡◌, take}
use Rattle.bf_disk.specs.Tape.{file_after_all}
use Rattle.bf_disk.proofs.replay.file_after.Given as goal

abbrev pub invariant-loop-call : goal.invariant-loop-call
invariant-loop-call l = l.file.items ≡ file_after_all l.start (take l.call-index l.calls)
