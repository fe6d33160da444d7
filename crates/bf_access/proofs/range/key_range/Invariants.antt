use Rattle.std.proofs.Common.{◌≡◌, drop}
use Rattle.bf_access.specs.Ranges.{key_range_of, range_behind}
use Rattle.bf_access.proofs.range.key_range.Given as goal

-- the range behind the values that are fixed so far
abbrev pub invariant-loop-place : goal.invariant-loop-place
invariant-loop-place l = key_range_of l.table l.cond ≡ range_behind l.cond l.front.items (drop l.place-index l.table.key)
