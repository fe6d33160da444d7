-- The youngest of the groups that were looked at is kept.
use Rattle.bf_machine.proofs.served.Looking.{IsSought}
use Rattle.bf_machine.proofs.serving.youngest.Given as goal

abbrev pub invariant-loop-place : goal.invariant-loop-place
invariant-loop-place g l = IsSought l.machine l.place l.latest l.youngest
