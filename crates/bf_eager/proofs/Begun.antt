-- A MIGRATE that is begun: by its plan, or refused by the catalog or by the rows.
use Rattle.std.proofs.Common.{◌≡◌, ℕ, List, [], ◌∷◌, ◌++◌, None, Some, flat_map, refl, sym, ap, ap₂, subst, ◌∙◌}
use Rattle.std.specs.Prelude.{Option, Result, Ok, Err}
use Rattle.bf_tree.specs.Catalogs.{Catalog}
use Rattle.bf_tree.specs.Limits.{HasNarrowTables, IsNarrowMigrate}
use Rattle.bf_tree.specs.Settling.{first_of}
use Rattle.bf_tree.specs.declared.migration.Migrate.{Migrate}
use Rattle.bf_tree.specs.declared.plan.Plan.{Plan}
use Rattle.bf_tree.specs.declared.reply.Refusal.{Refusal}
use Rattle.bf_sql.specs.Bound.{catalog_of, without_rows}
use Rattle.bf_sql.specs.Database.{Database, IsDatabase}
use Rattle.bf_sql.specs.RowObjections.{size_objections}
use Rattle.bf_sql.specs.migrations.MigrationObjections.{migrate_objections, sources_of}
use Rattle.bf_sql.specs.migrations.Plans.{plan_made, plan_of, planned_unless}
use Rattle.bf_image.proofs.keeping.Frozen.{objections_alike, same_as_catalog}
use Rattle.bf_image.specs.Migrations.{IsLawfulMigration}
use Rattle.bf_image.specs.declared.migration.Migration.{Migration}
use Rattle.bf_eager.specs.Beginnings.{IsMigrationOf, first_against}
use Rattle.bf_sql.specs.RowObjections.{first_oversize}
use Rattle.bf_eager.specs.Freezing.{AreFrozen}
use Rattle.bf_eager.specs.Groups.{IsPlanned}
use Rattle.bf_eager.proofs.Lawful.{old_sources, plan_sources}

-- where the catalog allows it, what stands in the way is what its old tables are too large for
pub against_by_rows : (db : Database) (plan : Plan) → IsPlanned db plan → first_against db plan.migrate ≡ first_oversize db plan.sources
against_by_rows db plan planned =
    ap₂ (λ (rs : List Refusal) (names : List (List ℕ)). first_of (rs ++ flat_map (size_objections db) names)) planned.unobjected (sym (plan_sources db plan planned))

-- so a migration over its frozen sources is begun
pub is_begun : (db : Database) (plan : Plan) (m : Migration) → IsDatabase db → IsPlanned db plan → HasNarrowTables (catalog_of db) → None ≡ first_oversize db plan.sources
    → m.plan ≡ plan → AreFrozen db plan.sources m.frozen → IsLawfulMigration m → IsMigrationOf db plan.migrate m
is_begun db plan m database planned tables few by_plan are lawful = record {
  allowed = against_by_rows db plan planned ∙ sym few;
  by = ap (λ (p : Plan). p.migrate) by_plan;
  lawful = lawful;
  sources = old_sources db plan database planned tables few m.frozen are;
}

-- a plan that is made is one that the catalog allows
made_by : (rs : List Refusal) (plan planned : Plan) → planned_unless rs plan ≡ Ok planned → (rs ≡ []) × (plan ≡ planned)
made_by [] plan planned is = let one : plan ≡ planned = cc in (refl, one)
made_by (r ∷ rs) plan planned is = absurd cc

refused_by : (rs : List Refusal) (plan : Plan) (r : Refusal) (more : List Refusal) → planned_unless rs plan ≡ Err r → first_of (rs ++ more) ≡ Some r
refused_by [] plan r more is = absurd cc
refused_by (q ∷ rs) plan r more is = let one : q ≡ r = cc in ap Some one

module _ (db : Database) (catalog : Catalog) (same : catalog ≡ catalog_of db) (m : Migrate) where
  same_objections : migrate_objections (without_rows catalog) m ≡ migrate_objections db m
  same_objections = ap (λ (c : Catalog). migrate_objections (without_rows c) m) same ∙ objections_alike (without_rows (catalog_of db)) db (same_as_catalog db) m

  pub planned_in : (plan : Plan) → IsNarrowMigrate m → Ok plan ≡ plan_of (without_rows catalog) m → (IsPlanned db plan) × (plan.migrate ≡ m)
  planned_in plan narrow is =
      let by = made_by (migrate_objections (without_rows catalog) m) (plan_made (without_rows catalog) m) plan (sym is) in
      let own : m ≡ plan.migrate = ap (λ (p : Plan). p.migrate) by.1 in (
        record {
          made = sym by.1 ∙ ap₂ (λ (c : Catalog) (n : Migrate). plan_made (without_rows c) n) same own;
          unobjected = ap (migrate_objections db) (sym own) ∙ (sym same_objections ∙ by.0);
          narrow = subst IsNarrowMigrate own narrow;
        },
        sym own,
      )

  pub refused_in : (r : Refusal) → Err r ≡ plan_of (without_rows catalog) m → first_against db m ≡ Some r
  refused_in r is =
      ap (λ (rs : List Refusal). first_of (rs ++ flat_map (size_objections db) (sources_of m))) (sym same_objections)
      ∙ refused_by (migrate_objections (without_rows catalog) m) (plan_made (without_rows catalog) m) r (flat_map (size_objections db) (sources_of m)) (sym is)
