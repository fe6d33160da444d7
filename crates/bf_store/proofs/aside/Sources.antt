-- The sources with the rows that they have are the old tables of a lawful migration.
use Rattle.std.proofs.Common.{◌≡◌, ℕ, Bool, true, false, not, if◌then◌else◌, List, [], ◌∷◌, map, filter, Some, option_map, refl, sym, ap, ap₂, subst, ◌∙◌}
use Rattle.std.specs.List.{list_all, AllByRecursion}
use Rattle.std.proofs.lemmas.Bool.{and_parts}
use Rattle.std.proofs.lemmas.Simd.{map-map}
use Rattle.bf_base.specs.declared.table.Table.{Table}
use Rattle.bf_base.specs.declared.value.Value.{Value}
use Rattle.bf_base.specs.Lists.{has, same_name}
use Rattle.bf_base.specs.Tables.{key_of}
use Rattle.bf_base.proofs.Apart.{are_apart, apart_from_rises, rises-filter}
use Rattle.bf_base.proofs.Names.{name_cmp_total, same_name-tie}
use Rattle.bf_heap.specs.Heaps.{Entry}
use Rattle.bf_tree.specs.Limits.{HasNarrowTables, IsNarrowMigrate, is_narrow}
use Rattle.bf_tree.specs.declared.migration.Migrate.{Migrate}
use Rattle.bf_tree.specs.declared.plan.Plan.{Plan}
use Rattle.bf_sql.specs.Bound.{catalog_of}
use Rattle.bf_sql.specs.Database.{Database, IsDatabase, Stored, stored_at}
use Rattle.bf_sql.specs.migrations.MigrationObjections.{sources_of}
use Rattle.bf_sql.specs.migrations.Plans.{plan_made}
use Rattle.bf_live.specs.Meanings.{entries_of}
use Rattle.bf_live.proofs.querying.OwnKeys.{filtered}
use Rattle.bf_live.proofs.querying.RowsAsEntries.{rows_are}
use Rattle.bf_image.specs.Lawful.{IsLawful}
use Rattle.bf_image.specs.Migrations.{HasOwnKeys, IsLawfulMigration, old_of, stored_of}
use Rattle.bf_image.specs.declared.migration.Frozen.{Frozen}
use Rattle.bf_image.specs.declared.migration.Migration.{Migration as Kept}
use Rattle.bf_image.proofs.keeping.Frozen.{frozen_same}
use Rattle.bf_image.proofs.keeping.Prepared.{plan_by_sources}
use Rattle.bf_live.proofs.statements.Named.{IsThere, all_there, rows_there}
use Rattle.bf_store.specs.Flips.{AreTablesOf, frozen_in, tables_of}
use Rattle.bf_store.specs.States.{set_aside}
use Rattle.bf_store.proofs.changing.Keeping.{aside_lawful}

module _ (db : Database) where
  abbrev stays : List (List ℕ) → Stored → Bool
  stays names s = not (not (has same_name names s.table.name))

  abbrev those : List (List ℕ) → List Stored
  those names = filter (stays names) db.tables

  abbrev table_in : Stored → Table
  table_in s = s.table

  abbrev name_in : Stored → List ℕ
  name_in s = s.table.name

  module _ (is : IsDatabase db) (names : List (List ℕ)) where
    all_those : AllByRecursion (IsThere db) (those names)
    all_those = filtered (IsThere db) (stays names) db.tables (all_there db is)

    each_stands : (ss : List Stored) → AllByRecursion (IsThere db) ss → AllByRecursion (λ (t : Table). option_map table_in (stored_at db t.name) ≡ Some t) (map table_in ss)
    each_stands [] all = tt
    each_stands (s ∷ ss) all = (ap (option_map table_in) all.0, each_stands ss all.1)

    pub are_tables : AreTablesOf db (tables_of db names)
    are_tables = record {
      there = each_stands (those names) all_those;
      apart =
          ap (are_apart same_name) (map-map (λ (t : Table). t.name) table_in (those names))
          ∙ (λ i. are_apart (λ a b. same_name-tie a b i) (map name_in (those names)))
          ∙ apart_from_rises name_cmp_total (map name_in (those names)) (rises-filter name_cmp_total name_in (stays names) db.tables is.tables_by_name);
    }

    -- frozen they are as they were
    stored_again : (ss : List Stored) → AllByRecursion (IsThere db) ss → map stored_of (map (frozen_in db) (map table_in ss)) ≡ ss
    stored_again [] all = refl
    stored_again (s ∷ ss) all =
        let rows = rows_there db s all.0 in
        ap₂ (λ (rows : List (List Value)) (rest : List Stored). record { table = s.table; rows = rows } ∷ rest) (rows_are s.table _ ∙ rows) (stored_again ss all.1)

    pub those_again : map stored_of (map (frozen_in db) (tables_of db names)) ≡ those names
    those_again = stored_again (those names) all_those

  -- ---- what holds of each of them
  are_narrow : (ss : List Stored) → list_all is_narrow (map table_in ss) ≡ true → AllByRecursion (λ (s : Stored). is_narrow s.table ≡ true) ss
  are_narrow [] all = tt
  are_narrow (s ∷ ss) all = let parts = and_parts (is_narrow s.table) (list_all is_narrow (map table_in ss)) all in (parts.0, are_narrow ss parts.1)

  are_named : (names : List (List ℕ)) (ss : List Stored) → AllByRecursion (λ (s : Stored). has same_name names s.table.name ≡ true) (filter (stays names) ss)
  are_named names [] = tt
  are_named names (s ∷ ss) =
      elim (has same_name names s.table.name) as (λ b. has same_name names s.table.name ≡ b
      → AllByRecursion (λ (s : Stored). has same_name names s.table.name ≡ true) (if not (not b) then s ∷ filter (stays names) ss else filter (stays names) ss)) [
        | true ↦ λ is. (is, are_named names ss)
        | false ↦ λ is. are_named names ss
      ] refl

  own_entries : (t : Table) (rows : List (List Value)) → AllByRecursion (λ (e : Entry). e.0 ≡ key_of t e.1) (entries_of t rows)
  own_entries t [] = tt
  own_entries t (row ∷ rows) = (refl, own_entries t rows)

  own_keys : (ss : List Stored) → AllByRecursion HasOwnKeys (map (frozen_in db) (map table_in ss))
  own_keys [] = tt
  own_keys (s ∷ ss) = (own_entries s.table _, own_keys ss)

  by_tables : (P : Table → Type 0) (ss : List Stored) → AllByRecursion (λ (s : Stored). P s.table) ss → AllByRecursion (λ (f : Frozen). P f.table) (map (frozen_in db) (map table_in ss))
  by_tables P [] all = tt
  by_tables P (s ∷ ss) all = (all.0, by_tables P ss all.1)

  module _ (plan : Plan) (number : ℕ) (lawful : IsLawful db plan.migrate) (planned : plan ≡ plan_made db plan.migrate) (narrow : IsNarrowMigrate plan.migrate) (tables : HasNarrowTables (catalog_of db)) where
    abbrev m : Migrate
    m = plan.migrate

    abbrev frozen : List Frozen
    frozen = map (frozen_in db) (tables_of db plan.sources)

    abbrev pub under_way : Kept
    under_way = record { number = number; plan = plan; frozen = frozen }

    pub plan_sources : plan.sources ≡ sources_of m
    plan_sources = ap (λ (p : Plan). p.sources) planned

    pub old_is : old_of under_way ≡ set_aside db m
    old_is = ap (λ (ss : List Stored). record { number = 0; tables = ss; indexes = [] }) (those_again lawful.database plan.sources ∙ ap those plan_sources)

    pub lawful_migration : IsLawfulMigration under_way
    lawful_migration = record {
      sources = by_tables (λ t. has same_name plan.sources t.name ≡ true) (those plan.sources) (are_named plan.sources db.tables);
      tables = by_tables (λ t. is_narrow t ≡ true) (those plan.sources) (filtered (λ (s : Stored). is_narrow s.table ≡ true) (stays plan.sources) db.tables (are_narrow db.tables tables));
      keys = own_keys (those plan.sources);
      lawful = subst (λ (old : Database). IsLawful old m) (sym old_is) (aside_lawful db m lawful);
      narrow = narrow;
      planned = planned ∙ sym (ap (λ (old : Database). plan_made old m) old_is ∙ plan_by_sources (set_aside db m) db m (frozen_same db m));
    }
