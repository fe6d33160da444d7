use Rattle.std.proofs.Common.{◌≡◌, ◌++◌, take}
use Rattle.std.specs.List.{filter_map}
use Rattle.bf_plan.specs.Targets.{first_key, key_before}
use Rattle.bf_plan.proofs.target.target_key.Given as goal

abbrev pub invariant-loop-place : goal.invariant-loop-place
invariant-loop-place l = l.key.items ≡ key_before l.arms ++ filter_map (λ k. k) (take l.place-index (first_key l.arms))
