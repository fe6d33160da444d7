use Rattle.std.proofs.Common.{◌≡◌, ◌++◌, drop}
use Rattle.bf_transpose.specs.Joined.{columns_of_on}
use Rattle.bf_transpose.proofs.joined.columns_of_on.Given as goal

-- the columns so far, and those of the equalities that are left
abbrev pub invariant-loop-pair : goal.invariant-loop-pair
invariant-loop-pair l = l.columns.items ++ columns_of_on l.items (drop l.pair-index l.on) ≡ columns_of_on l.items l.on
