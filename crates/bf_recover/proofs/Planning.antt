-- Plans of the MIGRATEs of records, by the catalog of a database.
use Rattle.std.proofs.Common.{◌≡◌, ◌≤◌, Bool, true, false, ◌&&◌, List, [], ◌∷◌, ◌++◌, length, refl, sym, ap, ◌∙◌}
use Rattle.std.specs.Prelude.{flat_map, Result, Ok, Err}
use Rattle.std.proofs.lemmas.Bool.{and_from, and_parts, leb-true}
use Rattle.bf_base.specs.Limits.{longest_script}
use Rattle.bf_tree.specs.Limits.{IsNarrowMigrate, has_few_items, has_small_arms, most_targets}
use Rattle.bf_tree.specs.declared.catalog.Catalog.{Catalog}
use Rattle.bf_tree.specs.declared.migration.Arm.{Arm}
use Rattle.bf_tree.specs.declared.migration.Target.{Target}
use Rattle.bf_tree.specs.declared.migration.Migrate.{Migrate}
use Rattle.bf_tree.specs.declared.plan.Plan.{Plan}
use Rattle.bf_tree.specs.declared.reply.Refusal.{Refusal}
use Rattle.bf_sql.specs.Bound.{catalog_of, without_rows}
use Rattle.bf_sql.specs.Database.{Database}
use Rattle.bf_sql.specs.RowObjections.{size_objections}
use Rattle.bf_sql.specs.migrations.MigrationObjections.{migrate_objections, sources_of}
use Rattle.bf_sql.specs.migrations.Plans.{plan_made, plan_of, planned_unless}
use Rattle.bf_image.proofs.keeping.Frozen.{same_as_catalog}
use Rattle.bf_image.proofs.keeping.Prepared.{plan_alike}
use Rattle.bf_live.proofs.keeps.Items.{list_all_if}
use Rattle.bf_sql.specs.migrations.Lazy.{LazyState, pending_of}
use Rattle.bf_recover.specs.Flips.{IsAllowedPlan, against, is_legal_flip}
use Rattle.bf_recover.specs.Schemas.{is_empty}
use Rattle.bf_recover.specs.Spoken.{is_spoken_arm, is_spoken_migrate, is_spoken_target}
use Rattle.bf_recover.proofs.Creating.{none_in}

made_by : (rs : List Refusal) (made plan : Plan) → planned_unless rs made ≡ Ok plan → (rs ≡ []) × (made ≡ plan)
made_by [] made plan is = (refl, cc)
made_by (r ∷ rs) made plan is = absurd cc

refused_by : (rs more : List Refusal) (made : Plan) (r : Refusal) → planned_unless rs made ≡ Err r → is_empty (rs ++ more) ≡ false
refused_by [] more made r is = absurd cc
refused_by (q ∷ rs) more made r is = refl

-- an arm that a script can have has few items, and so a MIGRATE that a script can have is narrow
few_items : (a : Arm) → is_spoken_arm a ≡ true → has_few_items a ≡ true
few_items a spoken =
    let up_to_group = (and_parts _ _ spoken).0 in
    let up_to_where = (and_parts _ _ up_to_group).0 in
    let up_to_join = (and_parts _ _ up_to_where).0 in
    let up_to_from = (and_parts _ _ up_to_join).0 in
    let items = (and_parts _ _ (and_parts _ _ up_to_from).0).0 in
    (and_parts _ _ items).1

small_arms : (t : Target) → is_spoken_target t ≡ true → has_small_arms t ≡ true
small_arms t spoken = list_all_if is_spoken_arm has_few_items few_items t.arms (and_parts _ _ spoken).1

pub spoken_is_narrow : (m : Migrate) → is_spoken_migrate m ≡ true → length (flat_map (λ t. t.arms) m.targets) ≤ longest_script → IsNarrowMigrate m
spoken_is_narrow m spoken arms =
    let parts = and_parts _ _ spoken in
    record {
      targets = leb-true (length m.targets) most_targets (and_parts _ _ parts.0).1;
      arms = arms;
      items = list_all_if is_spoken_target has_small_arms small_arms m.targets parts.1;
    }

-- the catalog that was asked is that of the database
pub by_catalog : (db : Database) (m : Migrate) (catalog : Catalog) (told : Result Plan Refusal) → catalog ≡ catalog_of db
    → told ≡ plan_of (without_rows catalog) m → plan_of (without_rows (catalog_of db)) m ≡ told
by_catalog db m catalog told same is = ap (λ (c : Catalog). plan_of (without_rows c) m) (sym same) ∙ sym is

module _ (db : Database) (m : Migrate) where
  abbrev sizes : List Refusal
  sizes = flat_map (size_objections db) (sources_of m)

  pub refused : (r : Refusal) → plan_of (without_rows (catalog_of db)) m ≡ Err r → is_empty (against db m) ≡ false
  refused r is =
      refused_by (migrate_objections db m) sizes (plan_made db m) r (sym (plan_alike (without_rows (catalog_of db)) db (same_as_catalog db) m) ∙ is)

  module _ (plan : Plan) (is : plan_of (without_rows (catalog_of db)) m ≡ Ok plan) where
    planned : (migrate_objections db m ≡ []) × (plan_made db m ≡ plan)
    planned = made_by (migrate_objections db m) (plan_made db m) plan (sym (plan_alike (without_rows (catalog_of db)) db (same_as_catalog db) m) ∙ is)

    -- then the rows alone can have something against it
    pub by_rows : is_empty (against db m) ≡ is_empty (flat_map (size_objections db) plan.sources)
    by_rows =
        ap (λ (rs : List Refusal). is_empty (rs ++ sizes)) planned.0
        ∙ ap (λ (p : Plan). is_empty (flat_map (size_objections db) p.sources)) planned.1

    pub allowed : IsNarrowMigrate m → is_empty (flat_map (size_objections db) plan.sources) ≡ true → IsAllowedPlan db m plan
    allowed narrow small = record {
      migrate = ap (λ (p : Plan). p.migrate) (sym planned.1);
      made = sym planned.1;
      unrefused = none_in (against db m) (by_rows ∙ small);
      narrow = narrow;
    }

-- FLIP: a MIGRATE that is not spoken, or that comes while something is left to move, or against which something speaks
module _ (lazy : LazyState) (m : Migrate) where
  abbrev spoken : Bool
  spoken = is_spoken_migrate m

  abbrev done : Bool
  done = is_empty (pending_of lazy.last)

  abbrev free : Bool
  free = is_empty (against lazy.live m)

  pub illegal_unspoken : spoken ≡ false → false ≡ is_legal_flip lazy m
  illegal_unspoken e = sym (ap (λ b. b && done && free) e)

  pub illegal_running : done ≡ false → false ≡ is_legal_flip lazy m
  illegal_running e = sym (ap (λ b. spoken && b && free) e ∙ never spoken)
    where
      never : (b : Bool) → (b && false && free) ≡ false
      never true = refl
      never false = refl

  pub illegal_refused : free ≡ false → false ≡ is_legal_flip lazy m
  illegal_refused e = sym (ap (λ b. spoken && done && b) e ∙ never spoken done)
    where
      never : (b c : Bool) → (b && c && false) ≡ false
      never true true = refl
      never true false = refl
      never false c = refl

  -- and one that is legal
  pub legal_flip : spoken ≡ true → done ≡ true → free ≡ true → true ≡ is_legal_flip lazy m
  legal_flip a b c = sym (and_from _ _ (and_from _ _ a b) c)
