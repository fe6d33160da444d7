use Rattle.std.proofs.Common.{◌≡◌, length}
use Rattle.bf_trackers.proofs.stripes.Stripes.of_done.Given as goal

abbrev pub invariant-loop-number : goal.invariant-loop-number
invariant-loop-number l = length l.stripes.items ≡ l.number
