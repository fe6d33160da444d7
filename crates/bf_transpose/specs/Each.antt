-- EACH: where each row that a unit goes by gives a row of a target.
use Rattle.std.specs.Prelude.{◌≡◌, ℕ, Bool, true, false, ◌&&◌, ◌==◌, [], ◌∷◌, filter, Some, is_none}
use Rattle.bf_tree.specs.declared.migration.Arm.{Arm}
use Rattle.bf_tree.specs.declared.plan.ArmKind.{ArmKind}
use Rattle.bf_tree.specs.declared.plan.ArmKind.TheVariants.{ByFrom, ByJoin, ByPair, ByGroup}
use Rattle.bf_tree.specs.declared.plan.PlacedArm.{PlacedArm}
use Rattle.bf_tree.specs.declared.plan.Unit.{Unit as Planned}
use Rattle.bf_sql.specs.migrations.Placed.{placed_arm}
use Rattle.bf_image.specs.Migrations.{old_of}
use Rattle.bf_image.specs.BoundArms.{arm_at}
use Rattle.bf_image.specs.declared.migration.Migration.{Migration}
use Rattle.bf_transpose.specs.Transposed.{is_always}

-- whether an arm makes a row of each row of FROM: it goes by these, joins nothing, and each conjunct of its condition is true of each row
abbrev pub makes_each_by : ArmKind → PlacedArm → Bool
makes_each_by ByFrom arm = is_none arm.on && is_always arm.cond
makes_each_by ByJoin arm = false
makes_each_by ByPair arm = false
makes_each_by ByGroup arm = false

abbrev pub makes_each : PlacedArm → Bool
makes_each arm = makes_each_by arm.kind arm

-- the one arm of a target in a unit does
pub record MakesEach (m : Migration) (target : ℕ) (unit : Planned) : Type 0 where
  pub number : ℕ
  pub only : filter (λ pair. pair.0 == target) unit.arms ≡ (target, number) ∷ []
  pub arm : Arm
  pub at : arm_at m target number ≡ Some arm
  pub each : makes_each (placed_arm (old_of m) arm) ≡ true
