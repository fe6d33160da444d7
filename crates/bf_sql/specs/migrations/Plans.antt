-- PLAN: what a MIGRATE is to make and in which units its rows move, where the catalog has nothing against it.
use Rattle.std.specs.Prelude.{ℕ, Bool, not, List, [], ◌∷◌, ◌++◌, map, flat_map, filter, Option, Some, Result, Ok, Err}
use Rattle.std.specs.List.{enumerate_from}
use Rattle.bf_base.specs.Lists.{same_name, has}
use Rattle.bf_tree.specs.declared.bound.Action.{Action}
use Rattle.bf_tree.specs.declared.bound.Action.TheVariants as action
use Rattle.bf_tree.specs.declared.bound.Bound.{Bound}
use Rattle.bf_tree.specs.declared.migration.Arm.{Arm}
use Rattle.bf_tree.specs.declared.migration.Migrate.{Migrate}
use Rattle.bf_tree.specs.declared.reply.Refusal.{Refusal}
use Rattle.bf_tree.specs.declared.statement.Statement.{Statement}
use Rattle.bf_tree.specs.declared.statement.Statement.TheVariants.{Migrate as migrate}
use Rattle.bf_tree.specs.declared.plan.ArmKind.{ArmKind}
use Rattle.bf_tree.specs.declared.plan.ArmKind.TheVariants.{ByGroup}
use Rattle.bf_sql.specs.Bound.{action_of, bound_as}
use Rattle.bf_sql.specs.Database.{Database}
use Rattle.bf_sql.specs.migrations.MigrationObjections.{drivers_of, driver_by, is_by_row, migrate_objections, sources_of}
use Rattle.bf_sql.specs.migrations.Placed.{placed_arm}
use Rattle.bf_sql.specs.migrations.Targets.{arm_kind, target_table}
use Rattle.bf_tree.specs.declared.plan.Plan.{Plan}
use Rattle.bf_tree.specs.declared.plan.Unit.{Unit}
use Rattle.bf_tree.specs.declared.plan.UnitKind.{UnitKind}
use Rattle.bf_tree.specs.declared.plan.UnitKind.TheVariants as unit_kind

-- the arms, each with the number of its target and its own number within it, from 0 on
abbrev pub numbered_arms : Migrate → List ((ℕ × ℕ) × Arm)
numbered_arms m = flat_map (λ t. map (λ a. ((t.0, a.0), a.1)) (enumerate_from 0 t.1.arms)) (enumerate_from 0 m.targets)

-- what the granules of an arm stand for that does not go row by row
abbrev pub kind_by_values : ArmKind → UnitKind
kind_by_values ByGroup = unit_kind.Groups
kind_by_values other = unit_kind.Joins

module _ (db : Database) (m : Migrate) where
  -- the arms that a table drives
  abbrev pub rows_unit_of : List ℕ → Unit
  rows_unit_of driver = record {
    kind = unit_kind.Rows;
    driver = driver;
    arms = map (λ p. p.0) (filter (λ p. has same_name (driver_by (arm_kind db p.1) p.1) driver) (numbered_arms m));
  }

  -- an arm that goes by values
  abbrev pub values_unit_of : (ℕ × ℕ) × Arm → Unit
  values_unit_of p = record { kind = kind_by_values (arm_kind db p.1); driver = p.1.from; arms = p.0 ∷ [] }

  -- UNITS: one for each table that drives row arms, and then one for each arm that goes by values
  abbrev pub planned_units : List Unit
  planned_units =
      map rows_unit_of (drivers_of db m)
      ++ map values_unit_of (filter (λ p. not (is_by_row (arm_kind db p.1))) (numbered_arms m))

  abbrev pub plan_made : Plan
  plan_made = record {
    migrate = m;
    tables = map (target_table db) m.targets;
    arms = map (λ t. map (placed_arm db) t.arms) m.targets;
    units = planned_units;
    sources = sources_of m;
  }

abbrev pub planned_unless : List Refusal → Plan → Result Plan Refusal
planned_unless [] plan = Ok plan
planned_unless (r ∷ rs) plan = Err r

-- the first objection of the catalog, or else the plan
abbrev pub plan_of : Database → Migrate → Result Plan Refusal
plan_of db m = planned_unless (migrate_objections db m) (plan_made db m)

-- what a statement is to do that nothing stands in the way of, a MIGRATE too
abbrev pub prepared_action : Database → Statement → Option Action
prepared_action db (migrate m) = Some (action.Migrate (plan_made db m))
prepared_action db s = action_of db s

-- PREPARED: a statement as it is bound, and a MIGRATE as it is planned: the first objection of the catalog, or else the action. There
-- is always one
abbrev pub prepared_of : Database → Bool → Statement → Option Bound
prepared_of db in_block s = bound_as db in_block s (prepared_action db s)
