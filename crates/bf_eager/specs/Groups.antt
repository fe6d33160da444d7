-- Groups that leave the catalog.
use Rattle.std.specs.Prelude.{◌≡◌, Bool, true, false, not, List, [], ◌∷◌, if◌then◌else◌}
use Rattle.bf_tree.specs.Limits.{IsNarrowMigrate}
use Rattle.bf_tree.specs.declared.plan.Plan.{Plan}
use Rattle.bf_tree.specs.declared.statement.Statement.{Statement}
use Rattle.bf_sql.specs.Bound.{catalog_of, changes_schema, without_rows}
use Rattle.bf_sql.specs.Database.{Database}
use Rattle.bf_sql.specs.migrations.MigrationObjections.{migrate_objections}
use Rattle.bf_sql.specs.migrations.Plans.{plan_made}
use Rattle.bf_live.specs.Live.{committed}
use Rattle.bf_txn.specs.declared.write.Write.{Write}

-- whether a group leaves the catalog: its first statement alone stands outside a block
abbrev pub leave_schema : List Statement → Bool
leave_schema [] = true
leave_schema (s ∷ ss) = not (changes_schema false s)

-- the database behind a group, by whether it commits and by what it has written
abbrev pub left_behind : Bool → Database → List Write → Database
left_behind commits db writes = if commits then committed db writes else db

-- the plan of a MIGRATE that the catalog allows
pub record IsPlanned (db : Database) (plan : Plan) : Type 0 where
  pub made : plan ≡ plan_made (without_rows (catalog_of db)) plan.migrate
  pub unobjected : migrate_objections db plan.migrate ≡ []
  pub narrow : IsNarrowMigrate plan.migrate
