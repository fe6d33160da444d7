use Rattle.std.proofs.Common.{◌≡◌, [], ◌∷◌, flat_map, take}
use Rattle.bf_image.proofs.arms.FrozenArm.on_places.Given as goal

abbrev pub invariant-loop-left : goal.invariant-loop-left
invariant-loop-left l = l.places.items ≡ flat_map (λ pair. pair.0 ∷ pair.1 ∷ []) (take l.left-index l.left-items)
