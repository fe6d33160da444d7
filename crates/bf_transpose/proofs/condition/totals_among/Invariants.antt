use Rattle.std.proofs.Common.{◌≡◌, take}
use Rattle.std.specs.List.{enumerate_from}
use Rattle.bf_transpose.specs.Totals.{totals_of}
use Rattle.bf_transpose.proofs.condition.totals_among.Given as goal

-- the places so far
abbrev pub invariant-loop-place : goal.invariant-loop-place
invariant-loop-place l = l.places.items ≡ totals_of (take l.place (enumerate_from 0 l.items))
