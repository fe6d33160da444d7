use Rattle.std.proofs.Common.{◌≡◌, ◌+◌, map, take}
use Rattle.bf_bind.proofs.source.places_behind.Given as goal

abbrev pub invariant-loop-place : goal.invariant-loop-place
invariant-loop-place l = l.places.items ≡ map (λ place. l.before + place) (take l.place-index l.key)
