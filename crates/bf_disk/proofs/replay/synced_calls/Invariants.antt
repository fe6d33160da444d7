use Rattle.bf_disk.specs.Replay.{UpToLastSync}
use Rattle.bf_disk.proofs.replay.synced_calls.Given as goal

abbrev pub invariant-loop-index : goal.invariant-loop-index
invariant-loop-index l = UpToLastSync l.calls l.index l.synced
