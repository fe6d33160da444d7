use Rattle.std.proofs.Common.{◌≡◌, take}
use Rattle.bf_access.specs.ByIndex.{fixed_value}
use Rattle.bf_access.proofs.by_index.fixed_value.Given as goal

-- the values that the columns so far are fixed to
abbrev pub invariant-loop-place : goal.invariant-loop-place
invariant-loop-place l = l.values.items ≡ fixed_value l.cond (take l.place-index l.columns)
