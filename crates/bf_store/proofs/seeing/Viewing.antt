-- The view of a lazy state is a database, with the catalog of the live tables.
use Rattle.std.proofs.Common.{◌≡◌, ℕ, Bool, true, not, ◌&&◌, List, ◌++◌, map, Option, Some, None, option_map, refl, ap, ◌∙◌}
use Rattle.std.specs.List.{list_all}
use Rattle.std.proofs.lemmas.Bool.{and_from}
use Rattle.std.proofs.lemmas.List.{map-append}
use Rattle.std.proofs.lemmas.List.Folds.{list_all-map}
use Rattle.std.proofs.lemmas.Simd.{map-map}
use Rattle.bf_base.specs.declared.value.Value.{Value}
use Rattle.bf_base.specs.Lists.{same_name, same_key, has, with_placed, rises, name_cmp}
use Rattle.bf_base.specs.Tables.{key_of}
use Rattle.bf_base.specs.Values.{key_cmp, key_cmp_total}
use Rattle.bf_base.proofs.Apart.{are_apart, apart_from_rises, apart-append, rises-placed_apart}
use Rattle.bf_base.proofs.Order.{list_all-with_placed, list_any-map}
use Rattle.bf_base.proofs.Parts.{filter_all, list_all_each}
use Rattle.bf_sql.specs.Bound.{catalog_of}
use Rattle.bf_sql.specs.Database.{Database, Stored, IsDatabase, stored_at, is_admitted, is_keyed, is_within, is_on_table}
use Rattle.bf_sql.specs.migrations.Lazy.{Migration, LazyState, due, is_early, is_on_time, seen, view_of}
use Rattle.bf_image.proofs.items.Lists.{all_so}
use Rattle.bf_live.proofs.statements.Named.{IsThere, all_there}
use Rattle.bf_store.specs.States.{IsUnderWayIfAny, IsLazy}
use Rattle.bf_store.proofs.coming.Due.{due_apart_if_any, due_admitted}
use Rattle.bf_store.proofs.coming.Found.{name_of, are_admitted, stored_at-map, at_table}

due_admitted_if_any : (live : Database) (last : Option Migration) → IsUnderWayIfAny live last → (s : Stored) → IsThere live s
    → list_all (is_admitted s.table) (due last s.table.name) ≡ true
due_admitted_if_any live None way s there = refl
due_admitted_if_any live (Some last) way s there = due_admitted live last way s there

module _ (lazy : LazyState) (is : IsLazy lazy) where
  -- the table of a name as it is seen
  pub seen_there : (name : List ℕ) → stored_at (view_of lazy) name ≡ option_map (seen lazy.last) (stored_at lazy.live name)
  seen_there name = stored_at-map lazy.live (seen lazy.last) (λ s. refl) name

  pub same_catalog_seen : catalog_of (view_of lazy) ≡ catalog_of lazy.live
  same_catalog_seen =
      let tables : map (λ (s : Stored). s.table) (map (seen lazy.last) lazy.live.tables) ≡ map (λ (s : Stored). s.table) lazy.live.tables = map-map (λ (s : Stored). s.table) (seen lazy.last) lazy.live.tables in
      λ i. record { number = lazy.live.number; tables = tables i; indexes = lazy.live.indexes }

  module _ (s : Stored) (there : IsThere lazy.live s) where
    abbrev coming : List (List Value)
    coming = due lazy.last s.table.name

    abbrev keys : List (List Value) → List (List Value)
    keys = map (key_of s.table)

    pub kept_on_time : is_on_time lazy.last s ≡ true
    kept_on_time = at_table (is_on_time lazy.last) lazy.live.tables s there is.valid

    pub keyed : is_keyed s ≡ true
    keyed = at_table is_keyed lazy.live.tables s there is.live.rows_by_key

    -- a table as it is seen has its kept rows, and what is to come in its place
    pub rows_seen : (seen lazy.last s).rows ≡ with_placed key_cmp (key_of s.table) s.rows coming
    rows_seen = ap (λ rows. with_placed key_cmp (key_of s.table) rows coming) (filter_all (λ row. not (is_early lazy.last s.table row)) s.rows kept_on_time)

    rows_apart : are_apart same_key (keys (s.rows ++ coming)) ≡ true
    rows_apart =
        ap (are_apart same_key) (map-append (key_of s.table) s.rows coming)
        ∙ apart-append same_key (keys s.rows) (keys coming) (apart_from_rises key_cmp_total (keys s.rows) keyed) (due_apart_if_any lazy.live lazy.last is.last s there)
        (list_all-map (λ k. not (has same_key (keys coming) k)) (key_of s.table) s.rows ∙ kept_on_time)

    seen_keyed : is_keyed (seen lazy.last s) ≡ true
    seen_keyed = ap (λ rows. rises key_cmp (keys rows)) rows_seen ∙ rises-placed_apart key_cmp_total (key_of s.table) s.rows coming keyed rows_apart

    seen_admitted : are_admitted (seen lazy.last s) ≡ true
    seen_admitted =
        ap (list_all (is_admitted s.table)) rows_seen
        ∙ list_all-with_placed key_cmp_total (key_of s.table) (is_admitted s.table) s.rows coming
        ∙ and_from _ _ (at_table are_admitted lazy.live.tables s there is.live.rows_admitted) (due_admitted_if_any lazy.live lazy.last is.last s there)

  for_each : (test : Stored → Bool) → ((s : Stored) → IsThere lazy.live s → test (seen lazy.last s) ≡ true)
      → list_all test (map (seen lazy.last) lazy.live.tables) ≡ true
  for_each test one = list_all-map test (seen lazy.last) lazy.live.tables ∙ list_all_each (IsThere lazy.live) (λ s. test (seen lazy.last s)) one lazy.live.tables (all_there lazy.live is.live)

  -- VIEW: it is a database
  pub view_is_database : IsDatabase (view_of lazy)
  view_is_database = record {
    tables_by_name = ap (rises name_cmp) (map-map name_of (seen lazy.last) lazy.live.tables) ∙ is.live.tables_by_name;
    indexes_by_name = is.live.indexes_by_name;
    rows_by_key = for_each is_keyed seen_keyed;
    rows_admitted = for_each are_admitted seen_admitted;
    keys_within = list_all-map (λ s. is_within s.table s.table.key) (seen lazy.last) lazy.live.tables ∙ is.live.keys_within;
    indexes_on_tables = all_so (is_on_table lazy.live) (is_on_table (view_of lazy)) (λ index on. list_any-map (λ s. same_name s.table.name index.table && is_within s.table index.columns) (seen lazy.last) lazy.live.tables ∙ on) lazy.live.indexes is.live.indexes_on_tables;
  }
