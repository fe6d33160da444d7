use Rattle.std.proofs.Common.{◌≡◌, ◌==◌, filter, option_map, take}
use Rattle.std.specs.Option.{option_to_list}
use Rattle.bf_transpose.proofs.drivers.only_arm.Given as goal

-- what is found is the one arm of the target so far
abbrev pub invariant-loop-of : goal.invariant-loop-of
invariant-loop-of l = filter (λ arm. arm.0 == l.target) (take l.of-index l.arms) ≡ option_to_list (option_map (λ number. (l.target, number)) l.found)
