-- COVERS: the granules that a bound statement needs moved.
use Rattle.std.specs.Prelude.{◌≡◌, Bool, true, false, List, [], Option, Some, None, is_some}
use Rattle.std.specs.Option.{option_map_or}
use Rattle.bf_base.specs.declared.granule.Granule.{Granule}
use Rattle.bf_tree.specs.declared.bound.Action.{Action}
use Rattle.bf_tree.specs.declared.bound.Action.TheVariants as action
use Rattle.bf_tree.specs.declared.bound.Bound.{Bound}
use Rattle.bf_sql.specs.migrations.Need.{needed_for, target_of}
use Rattle.bf_live.specs.Replies.{action_table}
use Rattle.bf_image.specs.Migrations.{IsLawfulMigration, old_of, value_indexes}
use Rattle.bf_image.specs.declared.migration.Migration.{Migration}
use Rattle.bf_image.specs.declared.value_indexes.UnitIndex.{UnitIndex}
use Rattle.bf_transpose.specs.declared.cover.Cover.{Cover}

-- what an action needs of a migration; nothing where there is none
abbrev pub needed_in : Option Migration → Action → List Granule
needed_in None act = []
needed_in (Some m) act = needed_for (old_of m) m.plan.migrate act

-- COVER: exactly the need, with the numbers of the catalog in which the statement is bound and of the migration
pub record IsCoverOf (last : Option Migration) (bound : Bound) (cover : Cover) : Type 0 where
  pub catalog : cover.catalog ≡ bound.catalog
  pub migration : cover.migration ≡ option_map_or (λ m. m.number) last 0
  pub granules : cover.granules.items ≡ needed_in last bound.action

-- a migration, if there is one, is lawful, and stands with the rows of its old tables by their values
abbrev pub IsFound : Option (Migration × List (Option UnitIndex)) → Type 0
IsFound None = Unit {0}
IsFound (Some found) = IsLawfulMigration found.0 × (found.1 ≡ value_indexes found.0)

-- an action that can need something: a MIGRATE, and one on a table that the migration makes
abbrev pub can_need : Migration → Action → Bool
can_need m (action.Migrate plan) = true
can_need m act = option_map_or (λ table. is_some (target_of (old_of m) m.plan.migrate table)) (action_table act) false
