-- What a planned unit stands for, by the numbers of its arms.
use Rattle.std.specs.Prelude.{ℕ, List, [], slice_index_or}
use Rattle.bf_tree.specs.declared.migration.Arm.{Arm}
use Rattle.bf_tree.specs.declared.migration.Migrate.{Migrate}
use Rattle.bf_tree.specs.declared.migration.Target.{Target}
use Rattle.bf_tree.specs.declared.plan.Unit.{Unit}
use Rattle.bf_tree.specs.declared.plan.UnitKind.{UnitKind}
use Rattle.bf_tree.specs.declared.plan.UnitKind.TheVariants.{Rows, Groups, Joins}
use Rattle.bf_sql.specs.migrations.Granules.{UnitForm, rows_unit, values_unit}
use Rattle.bf_sql.specs.migrations.Targets.{first_arm}

-- a target by its number, and an arm by the number of its target and its own
abbrev pub target_named : Migrate → ℕ → Target
target_named m number = slice_index_or m.targets number (record { name = []; arms = [] })

abbrev pub arm_named : Migrate → ℕ × ℕ → Arm
arm_named m pair = slice_index_or (target_named m pair.0).arms pair.1 (first_arm [])

-- the target and the arm that a pair of numbers names
abbrev pub values_form : Migrate → ℕ × ℕ → UnitForm
values_form m pair = values_unit (target_named m pair.0) (arm_named m pair)

-- a unit by rows stands for those of its driver, and any other for the values of its one arm
abbrev pub form_by : Migrate → UnitKind → List ℕ → List (ℕ × ℕ) → UnitForm
form_by m Rows driver arms = rows_unit driver
form_by m Groups driver arms = values_form m (slice_index_or arms 0 (0, 0))
form_by m Joins driver arms = values_form m (slice_index_or arms 0 (0, 0))

abbrev pub unit_form : Migrate → Unit → UnitForm
unit_form m unit = form_by m unit.kind unit.driver unit.arms
