-- A schema change that is made ready in a catalog, and what it does.
use Rattle.std.proofs.Common.{◌≡◌, ℕ, Bool, true, false, List, [], ◌∷◌, ◌++◌, Option, Some, None, option_map, refl, sym, ap, subst, ◌∙◌}
use Rattle.bf_base.specs.declared.table.Table.{Table}
use Rattle.bf_tree.specs.Catalogs.{Catalog}
use Rattle.bf_tree.specs.Limits.{IsNarrowIfMigrate, IsNarrowMigrate}
use Rattle.bf_tree.specs.declared.bound.Action.{Action}
use Rattle.bf_tree.specs.declared.bound.Action.TheVariants as action
use Rattle.bf_tree.specs.declared.bound.Bound.{Bound}
use Rattle.bf_tree.specs.declared.catalog.IndexRule.{IndexRule}
use Rattle.bf_tree.specs.declared.migration.Migrate.{Migrate as MigrateTree}
use Rattle.bf_tree.specs.declared.plan.Plan.{Plan}
use Rattle.bf_tree.specs.declared.reply.Refusal.{Refusal}
use Rattle.bf_tree.specs.declared.reply.Reply.TheVariants as reply
use Rattle.bf_tree.specs.declared.statement.Statement.{Statement}
use Rattle.bf_tree.specs.declared.statement.Statement.TheVariants.{Migrate}
use Rattle.bf_sql.specs.Bound.{bound_of, catalog_of, changes_schema, is_planned, unless_objected, without_rows}
use Rattle.bf_sql.specs.Database.{Database, IsDatabase}
use Rattle.bf_sql.specs.Meaning.{effect, executed, unless_refused}
use Rattle.bf_sql.specs.Objections.{objections}
use Rattle.bf_sql.specs.RowObjections.{row_objections}
use Rattle.bf_sql.specs.migrations.MigrationObjections.{migrate_objections}
use Rattle.bf_sql.specs.migrations.Plans.{plan_made, prepared_action, prepared_of}
use Rattle.bf_image.proofs.keeping.Frozen.{objections_alike, same_as_catalog}
use Rattle.bf_live.proofs.statements.Bare.{bare_is_database}
use Rattle.bf_live.proofs.statements.Creating.{Creates, CreatesIndex, creates, creates_index}
use Rattle.bf_live.proofs.statements.Outcomes.{bound_in, bound_to, refused}
use Rattle.bf_eager.specs.Groups.{IsPlanned}

-- the action that a statement is made ready for
action_alone : (n : ℕ) (b : Bool) (o : Option Action)
    → option_map (λ (b : Bound). b.action) (option_map (λ act. record { catalog = n; schema_change = b; action = act }) o) ≡ o
action_alone n b None = refl
action_alone n b (Some act) = refl

-- a plan, or the first objection
planned_by : (rs : List Refusal) (plan planned : Plan) → unless_objected rs (Some (action.Migrate plan)) ≡ Some (action.Migrate planned) → (rs ≡ []) × (plan ≡ planned)
planned_by [] plan planned is = let one : plan ≡ planned = cc in (refl, one)
planned_by (r ∷ rs) plan planned is = absurd cc

objected_by : (rs : List Refusal) (plan : Plan) (r : Refusal) → unless_objected rs (Some (action.Migrate plan)) ≡ Some (action.Refused r) → (more : List Refusal) × (rs ≡ r ∷ more)
objected_by [] plan r is = absurd cc
objected_by (q ∷ rs) plan r is = let one : q ≡ r = cc in (rs, ap (λ (x : Refusal). x ∷ rs) one)

-- nothing but a MIGRATE is planned
pub is_bound : (db : Database) (in_block : Bool) (s : Statement) → is_planned in_block s ≡ false → prepared_of db in_block s ≡ bound_of db in_block s
is_bound db true (Migrate m) planned = refl
is_bound db false (Migrate m) planned = absurd cc
is_bound db in_block other planned = refl

module _ (db : Database) (is : IsDatabase db) (catalog : Catalog) (same : catalog ≡ catalog_of db) (bound : Bound) where
  abbrev bare : Database
  bare = without_rows (catalog_of db)

  abbrev IsReady : Statement → Type 0
  IsReady s = prepared_of (without_rows catalog) false s ≡ Some bound

  ready : (s : Statement) → IsReady s → unless_objected (objections bare false s) (prepared_action bare s) ≡ Some bound.action
  ready s made =
      sym (action_alone bare.number (changes_schema false s) (unless_objected (objections bare false s) (prepared_action bare s)))
      ∙ ap (option_map (λ (b : Bound). b.action)) (ap (λ (catalog : Catalog). prepared_of (without_rows catalog) false s) (sym same) ∙ made)

  same_objections : (m : MigrateTree) → migrate_objections bare m ≡ migrate_objections db m
  same_objections m = objections_alike bare db (same_as_catalog db) m

  -- a refused statement leaves the tables
  pub refused_so : (s : Statement) (r : Refusal) → IsReady s → bound.action ≡ action.Refused r → (commit : ℕ) → executed commit db false s ≡ (reply.Refused r, db)
  refused_so (Migrate m) r made act commit =
      let first = objected_by (migrate_objections bare m) (plan_made bare m) r (ready (Migrate m) made ∙ ap Some act) in
      ap (λ (rs : List Refusal). unless_refused (rs ++ row_objections db (Migrate m)) db (λ _. effect commit db (Migrate m))) (sym (same_objections m) ∙ first.1)
  refused_so other r made act commit = refused db false other bound r (bound_in db false other bound catalog same is refl made) act commit

  pub creates_so : (s : Statement) (table : Table) → IsReady s → bound.action ≡ action.CreateTable table → Creates db s table
  creates_so (Migrate m) table made act = absurd (no_table (migrate_objections bare m) (ready (Migrate m) made ∙ ap Some act))
    where
      no_table : (rs : List Refusal) → unless_objected rs (Some (action.Migrate (plan_made bare m))) ≡ Some (action.CreateTable table) → ⊥
      no_table [] is = cc
      no_table (r ∷ rs) is = cc
  creates_so other table made act = creates db other table (bound_to db false other bound (action.CreateTable table) (bound_in db false other bound catalog same is refl made) (λ r e. cc) act)

  pub creates_index_so : (s : Statement) (index : IndexRule) → IsReady s → bound.action ≡ action.CreateIndex index → CreatesIndex db s index
  creates_index_so (Migrate m) index made act = absurd (no_index (migrate_objections bare m) (ready (Migrate m) made ∙ ap Some act))
    where
      no_index : (rs : List Refusal) → unless_objected rs (Some (action.Migrate (plan_made bare m))) ≡ Some (action.CreateIndex index) → ⊥
      no_index [] is = cc
      no_index (r ∷ rs) is = cc
  creates_index_so other index made act =
      creates_index db other index (bound_to db false other bound (action.CreateIndex index) (bound_in db false other bound catalog same is refl made) (λ r e. cc) act)

  -- a MIGRATE is planned as its catalog has it
  pub migrates_so : (s : Statement) (plan : Plan) → IsNarrowIfMigrate s → IsReady s → bound.action ≡ action.Migrate plan → (s ≡ Migrate plan.migrate) × IsPlanned db plan
  migrates_so (Migrate m) plan narrow made act =
      let by = planned_by (migrate_objections bare m) (plan_made bare m) plan (ready (Migrate m) made ∙ ap Some act) in
      let own : m ≡ plan.migrate = ap (λ (p : Plan). p.migrate) by.1 in (
        ap Migrate own,
        record {
          made = sym by.1 ∙ ap (plan_made bare) own;
          unobjected = ap (migrate_objections db) (sym own) ∙ (sym (same_objections m) ∙ by.0);
          narrow = subst IsNarrowMigrate own narrow;
        },
      )
  migrates_so other plan narrow made act = absurd (no_plan (objections bare false other) (ready other made ∙ ap Some act))
    where
      no_plan : (rs : List Refusal) → unless_objected rs (prepared_action bare other) ≡ Some (action.Migrate plan) → ⊥
      no_plan [] is = cc
      no_plan (r ∷ rs) is = cc

-- a catalog is a database without rows
pub is_bare : (db : Database) (catalog : Catalog) → catalog ≡ catalog_of db → IsDatabase db → IsDatabase (without_rows catalog)
is_bare db catalog same is = subst (λ (catalog : Catalog). IsDatabase (without_rows catalog)) (sym same) (bare_is_database db is)
