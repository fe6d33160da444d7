-- Of the sessions that were looked at.
use Rattle.bf_machine.specs.interleaving.Seen.{IsLeastLeft}
use Rattle.bf_machine.proofs.so_far.least_left.Given as goal

abbrev pub invariant-loop-place : goal.invariant-loop-place
invariant-loop-place l = IsLeastLeft l.sessions l.so_far l.place l.least
