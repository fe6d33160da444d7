-- What is left of the room is what the arms of the targets so far leave of it.
use Rattle.std.proofs.Common.{◌≡◌, ◌+◌, flat_map, length, take}
use Rattle.bf_base.specs.Limits.{longest_script}
use Rattle.bf_tree.proofs.limits.have_few_arms.Given as goal

abbrev pub invariant-loop-target : goal.invariant-loop-target
invariant-loop-target l = l.room + length (flat_map (λ t. t.arms) (take l.target-index l.targets)) ≡ longest_script
