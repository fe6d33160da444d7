use Rattle.std.proofs.Common.{◌≡◌}
use Rattle.bf_transpose.proofs.owning.owning.Given as goal

-- the owners so far
abbrev pub invariant-loop-granule : goal.invariant-loop-granule
invariant-loop-granule l = l.granules.items ≡ l.yielded
