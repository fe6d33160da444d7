use Rattle.std.proofs.Common.{◌≡◌, map, take}
use Rattle.bf_plan.specs.declared.arm.BoundArm.{BoundArm}
use Rattle.bf_plan.proofs.planning.placed_arms.Given as goal

abbrev pub invariant-loop-arm : goal.invariant-loop-arm
invariant-loop-arm l = l.placed.items ≡ map (λ (a : BoundArm). a.placed) (take l.arm-index l.arms)
