-- Units, made of the arms one by one, and the names of targets.
use Rattle.std.specs.Prelude.{ℕ, Bool, not, ◌&&◌, ◌||◌, List, [], ◌∷◌, ◌++◌, map, flat_map, is_some}
use Rattle.std.specs.List.{list_any, enumerate_from}
use Rattle.bf_base.specs.Lists.{has, same_name, when}
use Rattle.bf_tree.specs.declared.migration.Target.{Target}
use Rattle.bf_tree.specs.declared.reply.Refusal.{Refusal}
use Rattle.bf_tree.specs.declared.reply.Refusal.TheVariants as refusal
use Rattle.bf_sql.specs.Database.{Database, stored_at}
use Rattle.bf_sql.specs.migrations.Placed.{placed_arm}
use Rattle.bf_sql.specs.migrations.Targets.{target_table}
use Rattle.bf_plan.specs.Arms.{bound_arm}
use Rattle.bf_plan.specs.Targets.{is_rows}
use Rattle.bf_plan.specs.declared.arm.BoundArm.{BoundArm}
use Rattle.bf_tree.specs.declared.plan.Unit.{Unit}
use Rattle.bf_tree.specs.declared.plan.UnitKind.TheVariants as unit_kind
use Rattle.bf_plan.specs.declared.planning.BoundTargets.{BoundTargets}

-- an arm of a number as a unit of its own
abbrev pub arm_unit : ℕ × ℕ → BoundArm → Unit
arm_unit number arm = record { kind = arm.unit_kind; driver = arm.driver; arms = number ∷ [] }

abbrev pub arm_units : ℕ → List BoundArm → List Unit
arm_units target arms = map (λ p. arm_unit (target, p.0) p.1) (enumerate_from 0 arms)

-- the table whose rows drive a unit
abbrev pub driving : Unit → List (List ℕ)
driving unit = when (is_rows unit.kind) unit.driver

abbrev pub is_driven : List ℕ → Unit → Bool
is_driven driver unit = is_rows unit.kind && same_name driver unit.driver

abbrev pub arms_driven : List ℕ → Unit → List (ℕ × ℕ)
arms_driven driver unit = flat_map (λ u. u.arms) (when (is_driven driver unit) unit)

abbrev pub units_by_values : Unit → List Unit
units_by_values unit = when (not (is_rows unit.kind)) unit

module _ (units : List Unit) where
  -- all arms that the rows of a table drive
  abbrev pub rows_unit : List ℕ → Unit
  rows_unit driver = record { kind = unit_kind.Rows; driver = driver; arms = flat_map (arms_driven driver) units }

abbrev pub joined_units : List (List ℕ) → List Unit → List Unit
joined_units drivers units = map (rows_unit units) drivers ++ flat_map units_by_values units

-- a name that is a table which stays, or one of the targets before
abbrev pub has_same_name : List ℕ → List Target → Bool
has_same_name name targets = list_any (λ t. same_name t.name name) targets

abbrev pub is_taken_among : Database → List (List ℕ) → List Target → List ℕ → Bool
is_taken_among db sources before name = (is_some (stored_at db name) && not (has same_name sources name)) || has_same_name name before

abbrev pub taken_objections : Database → List (List ℕ) → List Target → List ℕ → List Refusal
taken_objections db sources before name = when (is_taken_among db sources before name) (refusal.TableExists name)

-- the targets in a database: the tables that they become, their arms, and these as units
abbrev pub units_of_target : Database → ℕ × Target → List Unit
units_of_target db t = arm_units t.0 (map (bound_arm db) t.1.arms)

abbrev pub bound_targets : Database → List Target → BoundTargets
bound_targets db targets = record {
  tables = map (target_table db) targets;
  arms = map (λ t. map (placed_arm db) t.arms) targets;
  units = flat_map (units_of_target db) (enumerate_from 0 targets);
}
