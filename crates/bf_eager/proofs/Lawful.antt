-- A MIGRATE that nothing stands in the way of, with its old tables frozen, is a lawful migration.
use Rattle.std.proofs.Common.{◌≡◌, ℕ, true, false, not, if◌then◌else◌, List, [], ◌∷◌, None, map, filter, flat_map, refl, sym, ap, subst, ◌∙◌}
use Rattle.std.specs.List.{AllByRecursion, list_all}
use Rattle.std.specs.Option.{option_map}
use Rattle.std.proofs.lemmas.Bool.{and_parts}
use Rattle.bf_base.specs.declared.table.Table.{Table}
use Rattle.bf_base.specs.declared.value.Value.{Value}
use Rattle.bf_base.specs.Lists.{has, same_name}
use Rattle.bf_base.specs.Tables.{key_of}
use Rattle.bf_heap.specs.Heaps.{Entry}
use Rattle.bf_tree.specs.Limits.{HasNarrowTables, is_narrow}
use Rattle.bf_tree.specs.declared.migration.Migrate.{Migrate}
use Rattle.bf_tree.specs.declared.plan.Plan.{Plan}
use Rattle.bf_sql.specs.Bound.{catalog_of, without_rows}
use Rattle.bf_sql.specs.Database.{Database, IsDatabase, Stored, stored_at}
use Rattle.bf_sql.specs.RowObjections.{size_objections}
use Rattle.bf_sql.specs.migrations.MigrationObjections.{sources_of}
use Rattle.bf_image.specs.Lawful.{IsLawful}
use Rattle.bf_image.specs.Sources.{HaveSameSources, frozen_of, table_under}
use Rattle.bf_image.proofs.keeping.Frozen.{frozen_lawful, frozen_same, objections_alike, same_as_catalog}
use Rattle.bf_live.specs.Meanings.{entries_of}
use Rattle.bf_live.proofs.querying.OwnKeys.{filtered}
use Rattle.bf_tree.proofs.Stopping.{none_first}
use Rattle.bf_sql.specs.RowObjections.{first_oversize}
use Rattle.bf_eager.specs.Freezing.{AreFrozen, tables_among}
use Rattle.bf_eager.specs.Groups.{IsPlanned}
use Rattle.bf_image.specs.Migrations.{HasOwnKeys, IsLawfulMigration, old_of, stored_of}
use Rattle.bf_image.specs.declared.migration.Frozen.{Frozen}
use Rattle.bf_image.specs.declared.migration.Migration.{Migration}
use Rattle.bf_eager.proofs.Planning.{plan_same}

-- its sources are those of the statement
pub plan_sources : (db : Database) (plan : Plan) → IsPlanned db plan → plan.sources ≡ sources_of plan.migrate
plan_sources db plan planned = ap (λ (p : Plan). p.sources) planned.made

-- nothing stands in its way
pub lawful_over : (db : Database) (plan : Plan) → IsDatabase db → IsPlanned db plan → None ≡ first_oversize db plan.sources → IsLawful db plan.migrate
lawful_over db plan is planned few = record {
  database = is;
  unobjected = planned.unobjected;
  few = ap (λ (names : List (List ℕ)). flat_map (size_objections db) names) (sym (plan_sources db plan planned)) ∙ none_first (flat_map (size_objections db) plan.sources) (sym few);
}

-- only the tables of a database count
pub tables_alone_lawful : (db : Database) (m : Migrate) → IsLawful db m → IsLawful (record { number = 0; tables = db.tables; indexes = [] }) m
tables_alone_lawful db m lawful =
    let alone : Database = record { number = 0; tables = db.tables; indexes = [] } in
    record {
      database = record {
        tables_by_name = lawful.database.tables_by_name;
        indexes_by_name = refl;
        rows_by_key = lawful.database.rows_by_key;
        rows_admitted = lawful.database.rows_admitted;
        keys_within = lawful.database.keys_within;
        indexes_on_tables = refl;
      };
      unobjected = objections_alike alone db (λ name. refl) m ∙ lawful.unobjected;
      few = lawful.few;
    }

-- ---- what holds of frozen tables
by_tables : (P : Table → Type 0) (frozen : List Frozen) → AllByRecursion (λ (s : Stored). P s.table) (map stored_of frozen) → AllByRecursion (λ (f : Frozen). P f.table) frozen
by_tables P [] all = tt
by_tables P (f ∷ frozen) all = (all.0, by_tables P frozen all.1)

are_narrow : (ss : List Stored) → list_all is_narrow (map (λ (s : Stored). s.table) ss) ≡ true → AllByRecursion (λ (s : Stored). is_narrow s.table ≡ true) ss
are_narrow [] all = tt
are_narrow (s ∷ ss) all = let parts = and_parts (is_narrow s.table) (list_all is_narrow (map (λ (s : Stored). s.table) ss)) all in (parts.0, are_narrow ss parts.1)

are_named : (names : List (List ℕ)) (ss : List Stored) → AllByRecursion (λ (s : Stored). has same_name names s.table.name ≡ true) (filter (λ (s : Stored). not (not (has same_name names s.table.name))) ss)
are_named names [] = tt
are_named names (s ∷ ss) =
    elim (has same_name names s.table.name) as (λ b. has same_name names s.table.name ≡ b
    → AllByRecursion (λ (s : Stored). has same_name names s.table.name ≡ true) (if not (not b) then s ∷ filter (λ (s : Stored). not (not (has same_name names s.table.name))) ss else filter (λ (s : Stored). not (not (has same_name names s.table.name))) ss)) [
      | true ↦ λ is. (is, are_named names ss)
      | false ↦ λ is. are_named names ss
    ] refl

own_entries : (t : Table) (rows : List (List Value)) → AllByRecursion (λ (e : Entry). e.0 ≡ key_of t e.1) (entries_of t rows)
own_entries t [] = tt
own_entries t (row ∷ rows) = (refl, own_entries t rows)

have_own_keys : (frozen : List Frozen) → map (λ (f : Frozen). f.rows) frozen ≡ map (λ (s : Stored). entries_of s.table s.rows) (map stored_of frozen) → AllByRecursion HasOwnKeys frozen
have_own_keys [] are = tt
have_own_keys (f ∷ frozen) are =
    let here : f.rows ≡ entries_of f.table (stored_of f).rows = cc in
    let rest : map (λ (f : Frozen). f.rows) frozen ≡ map (λ (s : Stored). entries_of s.table s.rows) (map stored_of frozen) = cc in
    (subst (AllByRecursion (λ (e : Entry). e.0 ≡ key_of f.table e.1)) (sym here) (own_entries f.table (stored_of f).rows), have_own_keys frozen rest)

module _ (db : Database) (plan : Plan) (is : IsDatabase db) (planned : IsPlanned db plan) (narrow : HasNarrowTables (catalog_of db)) (few : None ≡ first_oversize db plan.sources)
    (frozen : List Frozen) (are : AreFrozen db plan.sources frozen) where
  abbrev m : Migrate
  m = plan.migrate

  abbrev under_way : Migration
  under_way = record { number = 1; plan = plan; frozen = frozen }

  pub lawful : IsLawful db m
  lawful = lawful_over db plan is planned few

  frozen_tables : map stored_of frozen ≡ (frozen_of db m).tables
  frozen_tables = are.tables ∙ ap (tables_among db) (plan_sources db plan planned)

  -- it has the same sources
  pub old_sources : HaveSameSources m (old_of under_way) db
  old_sources name there = ap (λ (ss : List Stored). let db : Database = record { number = 0; tables = ss; indexes = [] } in stored_at db name) frozen_tables ∙ frozen_same db m name there

  bare_sources : (name : List ℕ) → has same_name (sources_of m) name ≡ true → table_under (without_rows (catalog_of db)) name ≡ table_under (old_of under_way) name
  bare_sources name there = same_as_catalog db name ∙ ap (option_map (λ (s : Stored). s.table)) (sym (old_sources name there))

  pub lawful_migration : IsLawfulMigration under_way
  lawful_migration = record {
    sources = by_tables (λ t. has same_name plan.sources t.name ≡ true) frozen
        (subst (AllByRecursion (λ (s : Stored). has same_name plan.sources s.table.name ≡ true)) (sym are.tables) (are_named plan.sources db.tables));
    tables = by_tables (λ t. is_narrow t ≡ true) frozen
        (subst (AllByRecursion (λ (s : Stored). is_narrow s.table ≡ true)) (sym are.tables)
        (filtered (λ (s : Stored). is_narrow s.table ≡ true) (λ (s : Stored). not (not (has same_name plan.sources s.table.name))) db.tables (are_narrow db.tables narrow)));
    keys = have_own_keys frozen (are.entries ∙ ap (map (λ (s : Stored). entries_of s.table s.rows)) (sym are.tables));
    lawful = subst (λ (ss : List Stored). IsLawful (record { number = 0; tables = ss; indexes = [] }) m) (sym frozen_tables) (tables_alone_lawful (frozen_of db m) m (frozen_lawful db m lawful));
    narrow = planned.narrow;
    planned = planned.made ∙ plan_same (without_rows (catalog_of db)) (old_of under_way) m bare_sources;
  }
