-- FLIP: which MIGRATEs of records are legal in a lazy state.
use Rattle.std.specs.Prelude.{◌≡◌, ◌++◌, ◌&&◌, Bool, true, false, List, [], Option, Some, None}
use Rattle.bf_tree.specs.Limits.{IsNarrowMigrate}
use Rattle.bf_tree.specs.declared.history.Sweep.{Sweep}
use Rattle.bf_tree.specs.declared.history.Sweep.TheVariants.{Never, Complete, Running}
use Rattle.bf_tree.specs.declared.migration.Migrate.{Migrate}
use Rattle.bf_tree.specs.declared.plan.Plan.{Plan}
use Rattle.bf_tree.specs.declared.reply.Refusal.{Refusal}
use Rattle.bf_tree.specs.declared.statement.Statement.TheVariants as statement
use Rattle.bf_sql.specs.Database.{Database}
use Rattle.bf_sql.specs.Objections.{objections}
use Rattle.bf_sql.specs.RowObjections.{row_objections}
use Rattle.bf_sql.specs.migrations.Lazy.{LazyState, pending_of}
use Rattle.bf_sql.specs.migrations.Plans.{plan_made}
use Rattle.bf_recover.specs.Schemas.{is_empty}
use Rattle.bf_recover.specs.Spoken.{is_spoken_migrate}

-- what the catalog has against a MIGRATE, and then what the rows have
abbrev pub against : Database → Migrate → List Refusal
against db m = objections db false (statement.Migrate m) ++ row_objections db (statement.Migrate m)

-- a MIGRATE against which nothing speaks, while nothing of the last one is left to move
abbrev pub is_legal_flip : LazyState → Migrate → Bool
is_legal_flip lazy m = is_spoken_migrate m && is_empty (pending_of lazy.last) && is_empty (against lazy.live m)

-- the plan of a MIGRATE against which nothing speaks
pub record IsAllowedPlan (db : Database) (m : Migrate) (plan : Plan) : Type 0 where
  pub migrate : plan.migrate ≡ m
  pub made : plan ≡ plan_made db m
  pub unrefused : against db m ≡ []
  pub narrow : IsNarrowMigrate m

-- a plan is that of a MIGRATE against which nothing speaks, and there is none where something does
abbrev pub IsPlanIfAllowed : Database → Migrate → Option Plan → Type 0
IsPlanIfAllowed db m (Some plan) = IsAllowedPlan db m plan
IsPlanIfAllowed db m None = is_empty (against db m) ≡ false

-- a sweep says that nothing is left to move
abbrev pub says_complete : Sweep → Bool
says_complete Never = true
says_complete (Complete migration moved) = true
says_complete (Running migration moved unit position) = false
