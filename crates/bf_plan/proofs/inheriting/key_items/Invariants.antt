use Rattle.std.proofs.Common.{◌≡◌, map, take}
use Rattle.bf_plan.specs.Arms.{key_item}
use Rattle.bf_plan.proofs.inheriting.key_items.Given as goal

abbrev pub invariant-loop-place : goal.invariant-loop-place
invariant-loop-place l = l.found.items ≡ map (key_item l.items) (take l.place-index l.places)
