use Rattle.std.proofs.Common.{◌≡◌}
use Rattle.bf_recover.specs.Moves.{granules_at}
use Rattle.bf_recover.proofs.moves.granules_at.Given as goal

-- the granules so far
abbrev pub invariant-loop-place : goal.invariant-loop-place
invariant-loop-place l = l.granules.items ≡ granules_at l.unit l.yielded
