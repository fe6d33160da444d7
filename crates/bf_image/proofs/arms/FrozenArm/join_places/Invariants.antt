use Rattle.std.proofs.Common.{◌≡◌, ◌-◌, filter, map, nat_le, take}
use Rattle.bf_image.proofs.arms.FrozenArm.join_places.Given as goal

abbrev pub invariant-loop-place : goal.invariant-loop-place
invariant-loop-place l = l.places.items ≡ map (λ p. p - l.width) (filter (λ p. nat_le l.width p) (take l.place-index l.place-items))
