-- The live tables at the flip, without the sources and with the targets, is what an exchange makes of them.
use Rattle.std.proofs.Common.{◌≡◌, ℕ, Bool, true, false, not, if◌then◌else◌, List, [], ◌∷◌, ◌++◌, map, filter, None, refl, sym, ap, ap₂, subst, ◌∙◌}
use Rattle.std.specs.Prelude.{length, nat_le}
use Rattle.std.specs.List.{AllByRecursion, enumerate_from, list_all}
use Rattle.std.proofs.lemmas.Bool.{and_parts}
use Rattle.std.proofs.lemmas.List.{length-map}
use Rattle.std.proofs.lemmas.List.Folds.{list_all-map}
use Rattle.std.proofs.lemmas.List.FromFn.{length-enumerate_from}
use Rattle.std.proofs.lemmas.Simd.{map-map}
use Rattle.bf_base.specs.declared.table.Table.{Table}
use Rattle.bf_base.specs.Lists.{has, same_name}
use Rattle.bf_base.proofs.Names.{name_cmp_total}
use Rattle.bf_base.proofs.Order.{list_all-with_placed}
use Rattle.bf_tree.specs.Catalogs.{Catalog}
use Rattle.bf_tree.specs.Limits.{HasNarrowTables, IsNarrowMigrate, has_few_items, has_small_arms, is_narrow}
use Rattle.bf_tree.specs.declared.migration.Arm.{Arm}
use Rattle.bf_tree.specs.declared.migration.Migrate.{Migrate}
use Rattle.bf_tree.specs.declared.migration.Target.{Target}
use Rattle.bf_tree.specs.declared.plan.Plan.{Plan}
use Rattle.bf_sql.specs.Bound.{catalog_of}
use Rattle.bf_sql.specs.Database.{Database, IsDatabase, Stored, without}
use Rattle.bf_sql.specs.migrations.MigrationObjections.{sources_of}
use Rattle.bf_sql.specs.migrations.Plans.{plan_made}
use Rattle.bf_sql.specs.migrations.Targets.{first_arm, target_table}
use Rattle.bf_live.proofs.querying.OwnKeys.{each}
use Rattle.bf_image.specs.Lawful.{IsLawful}
use Rattle.bf_image.proofs.items.Lists.{all_append, all_kept, all_of_map, all_so}
use Rattle.bf_live.specs.Drafts.{AreNamedApart, CanExchange, IsExchangeOf, Prepared, tables_after}
use Rattle.bf_live.specs.Live.{IsUnderOwnKeys, TableRows, exchanged, stored}
use Rattle.bf_live.proofs.Aside.{aside_leaves_unread, can_exchange_aside, catalog_aside}
use Rattle.bf_live.proofs.Exchanged.{names_apart}
use Rattle.bf_live.specs.Aside.{set_aside as without_rows_of}
use Rattle.bf_store.specs.Flips.{emptied, names_in, tables_of}
use Rattle.bf_store.proofs.changing.Flipping.{flat_database, same_targets}

-- tables without rows
abbrev pub bare : List Table → List TableRows
bare tables = map (λ table. (table, [])) tables

-- no row stands under a wrong key
own_keys : (tables : List Table) → AllByRecursion IsUnderOwnKeys (bare tables)
own_keys [] = tt
own_keys (t ∷ tables) = (refl, own_keys tables)

-- ---- the tables are narrow
few_first : (arms : List Arm) → list_all has_few_items arms ≡ true → nat_le (length (first_arm arms).items) 16 ≡ true
few_first [] all = refl
few_first (arm ∷ arms) all = (and_parts (has_few_items arm) (list_all has_few_items arms) all).0

target_narrow : (db : Database) (t : Target) → has_small_arms t ≡ true → is_narrow (target_table db t) ≡ true
target_narrow db t small = rw (length-map (enumerate_from 0 (first_arm t.arms).items) _, length-enumerate_from 0 (first_arm t.arms).items) (few_first t.arms small)

pub emptied_narrow : (db : Database) (m : Migrate) → IsNarrowMigrate m → HasNarrowTables (catalog_of db) → HasNarrowTables (catalog_of (emptied db m))
emptied_narrow db m small narrow =
    let test : Stored → Bool = λ s. is_narrow s.table in
    let empty : Target → Stored = λ t. record { table = target_table db t; rows = [] } in
    let new = map empty m.targets in
    let rest = (without (has same_name (sources_of m)) db).tables in
    let here : list_all test db.tables ≡ true = sym (list_all-map is_narrow (λ (s : Stored). s.table) db.tables) ∙ narrow in
    let stay : list_all test rest ≡ true = all_kept test (λ (s : Stored). not (has same_name (sources_of m) s.table.name)) db.tables here in
    let come : list_all test new ≡ true =
    all_of_map test empty m.targets (all_so has_small_arms (λ (t : Target). is_narrow (target_table db t)) (λ t its. target_narrow db t its) m.targets small.items) in
    list_all-map is_narrow (λ (s : Stored). s.table) (emptied db m).tables
    ∙ (list_all-with_placed name_cmp_total (λ (s : Stored). s.table.name) test [] (new ++ rest) ∙ all_append test new rest come stay)

-- every name of some tables is one of the names that picked them
module _ (names : List (List ℕ)) where
  abbrev stays : Stored → Bool
  stays s = not (not (has same_name names s.table.name))

  pub names_among : (db : Database) → list_all (has same_name names) (names_in (tables_of db names)) ≡ true
  names_among db = of db.tables
    where
      of : (ss : List Stored) → list_all (has same_name names) (names_in (map (λ s. s.table) (filter stays ss))) ≡ true
      of [] = refl
      of (s ∷ ss) = elim (has same_name names s.table.name) as (λ b. has same_name names s.table.name ≡ b
          → list_all (has same_name names) (names_in (map (λ (s : Stored). s.table) (if not (not b) then s ∷ filter stays ss else filter stays ss))) ≡ true) [
            | true ↦ λ is. rw is (of ss)
            | false ↦ λ is. of ss
          ] refl

module _ (db : Database) (plan : Plan) (lawful : IsLawful db plan.migrate) (planned : plan ≡ plan_made db plan.migrate) where
  abbrev m : Migrate
  m = plan.migrate

  -- the sources go, and the targets come
  exchange_empties : exchanged db plan.sources (map stored (bare plan.tables)) ≡ emptied db m
  exchange_empties =
      ap₂ (λ (names : List (List ℕ)) (tables : List Table). exchanged db names (map stored (bare tables))) (ap (λ (p : Plan). p.sources) planned) (ap (λ (p : Plan). p.tables) planned)
      ∙ ap (λ (new : List Stored). exchanged db (sources_of m) new) (map-map stored (λ (t : Table). (t, [])) (map (target_table db) m.targets) ∙ map-map (λ (t : Table). stored (t, [])) (target_table db) m.targets)

  emptied_database : IsDatabase (emptied db m)
  emptied_database = flat_database db None m lawful.database lawful.unobjected db lawful (same_targets db m.targets)

  exchanged_database : IsDatabase (exchanged db plan.sources (map stored (bare plan.tables)))
  exchanged_database = subst IsDatabase (sym exchange_empties) emptied_database

  pub exchange_apart : AreNamedApart (tables_after (catalog_of db) plan.sources (bare plan.tables))
  exchange_apart = names_apart db plan.sources (bare plan.tables) exchanged_database

  module _ (exchange : Prepared) (prepared : IsExchangeOf (catalog_of db) plan.sources (bare plan.tables) exchange) (names : List (List ℕ)) (among : list_all (has same_name plan.sources) names ≡ true) where
    -- it may be made while the rows of the sources are aside
    pub can_exchange : CanExchange (without_rows_of names db) plan.sources exchange
    can_exchange = can_exchange_aside db names plan.sources exchange among
        (record { new = bare plan.tables; prepared = prepared; database = exchanged_database; under_own_keys = each IsUnderOwnKeys (bare plan.tables) (own_keys plan.tables) })

    pub prepared_aside : IsExchangeOf (catalog_of (without_rows_of names db)) plan.sources (bare plan.tables) exchange
    prepared_aside = subst (λ (catalog : Catalog). IsExchangeOf catalog plan.sources (bare plan.tables) exchange) (sym (catalog_aside db names)) prepared

    pub exchanged_aside : exchanged (without_rows_of names db) plan.sources (map stored (bare plan.tables)) ≡ emptied db m
    exchanged_aside = aside_leaves_unread db names plan.sources (map stored (bare plan.tables)) among ∙ exchange_empties
