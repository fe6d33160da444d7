use Rattle.std.proofs.Common.{take}
use Rattle.bf_image.specs.FrozenUnits.{AreFound}
use Rattle.bf_image.proofs.frozen_unit.arms_of.Given as goal

-- the arms so far are found
abbrev pub invariant-loop-target : goal.invariant-loop-target
invariant-loop-target l = AreFound l.migration (take l.target-index l.target-items) l.arms.items
