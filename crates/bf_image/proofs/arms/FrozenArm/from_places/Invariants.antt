use Rattle.std.proofs.Common.{◌≡◌, ◌++◌, filter, nat_lt, take}
use Rattle.bf_image.proofs.arms.FrozenArm.from_places.Given as goal

abbrev pub invariant-loop-place : goal.invariant-loop-place
invariant-loop-place l = l.places.items ≡ take l.place-index l.place-items

abbrev pub invariant-loop-place-2 : goal.invariant-loop-place-2
invariant-loop-place-2 l = l.places.items ≡ l.self.placed.now.group ++ filter (λ p. nat_lt p l.width) (take l.place-index l.place-items)
