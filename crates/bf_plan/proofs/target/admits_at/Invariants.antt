use Rattle.std.proofs.Common.{◌≡◌, map, take, drop}
use Rattle.std.specs.List.{flat_map, reduce}
use Rattle.bf_sql.specs.migrations.Targets.{either_admit}
use Rattle.bf_plan.proofs.target.admits_at.Given as goal

abbrev pub invariant-loop-arm : goal.invariant-loop-arm
invariant-loop-arm l = l.so_far ≡ reduce either_admit (flat_map (λ arm. take 1 (drop l.place (map (λ i. i.admits) arm.items))) (take l.arm-index l.arms))
