use Rattle.std.proofs.Common.{◌≡◌, take}
use Rattle.bf_plan.specs.Targets.{columns_of}
use Rattle.bf_plan.proofs.target.columns.Given as goal

abbrev pub invariant-loop-place : goal.invariant-loop-place
invariant-loop-place l = l.columns.items ≡ columns_of (take l.place l.items) l.arms
