use Rattle.std.proofs.Common.{◌≡◌, take}
use Rattle.bf_transpose.specs.Positions.{positions_under}
use Rattle.bf_transpose.proofs.bounds.positions_of.Given as goal

-- the positions of the keys so far
abbrev pub invariant-loop-key : goal.invariant-loop-key
invariant-loop-key l = l.positions.items ≡ positions_under l.heap (take l.key-index l.keys)
