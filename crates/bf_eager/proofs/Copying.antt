-- The old tables of a MIGRATE are copied with their rows.
use Rattle.std.proofs.Common.{◌≡◌, ℕ, Bool, true, false, not, if◌then◌else◌, List, [], ◌∷◌, ◌++◌, Some, None, map, filter, drop, slice_get, refl, sym, ap, ap₂, subst, ◌∙◌}
use Rattle.std.specs.List.{AllByRecursion, list_all}
use Rattle.std.proofs.lemmas.List.{append-nil, map-append}
use Rattle.std.proofs.lemmas.Option.{same_Some}
use Rattle.bf_base.specs.declared.table.Table.{Table}
use Rattle.bf_base.specs.declared.value.Value.{Value}
use Rattle.bf_base.specs.Lists.{has, same_name}
use Rattle.bf_base.specs.Tables.{key_of, IsKeyWithin}
use Rattle.bf_base.specs.Values.{key_cmp_total}
use Rattle.bf_base.proofs.Apart.{apart_from_rises, in_order-rises}
use Rattle.bf_heap.specs.Heaps.{Entry}
use Rattle.bf_sql.specs.Database.{Database, IsDatabase, Stored, is_admitted, is_keyed, stored_at, table_rows}
use Rattle.bf_live.specs.Meanings.{entries_of}
use Rattle.bf_live.proofs.querying.Binding.{as_stored, key_within, rows_admitted, rows_keyed}
use Rattle.bf_live.proofs.querying.RowsAsEntries.{rows_are}
use Rattle.bf_live.proofs.statements.Named.{IsThere, all_there, rows_there}
use Rattle.bf_eager.specs.Freezing.{AreFrozen, CanFreeze}
use Rattle.bf_image.specs.Migrations.{stored_of}
use Rattle.bf_eager.specs.Starting.{entries_in_order, have_different_keys}
use Rattle.bf_image.specs.declared.migration.Frozen.{Frozen}
use Rattle.bf_eager.proofs.Placing.{all_within, different-apart, in_midst}

abbrev pub rows_of : List Entry → List (List Value)
rows_of entries = map (λ (entry : Entry). entry.1) entries

-- the first row of those that are left
pub first_ahead : (ahead : List Entry) (e : Entry) → Some e ≡ slice_get ahead 0 → ahead ≡ e ∷ drop 1 ahead
first_ahead [] e is = absurd cc
first_ahead (x ∷ xs) e is = ap (λ (x : Entry). x ∷ xs) (sym (same_Some e x is))

pub none_ahead : (ahead : List Entry) → None ≡ slice_get ahead 0 → ahead ≡ []
none_ahead [] is = refl
none_ahead (x ∷ xs) is = absurd cc

module _ (table : Table) (entries : List Entry) (can : CanFreeze table entries) where
  pub can_within : (rows : List (List Value)) → rows ≡ rows_of entries → AllByRecursion (IsKeyWithin table) rows
  can_within rows are = subst (AllByRecursion (IsKeyWithin table)) (sym are) (all_within table can.within (rows_of entries) can.admitted)

  pub can_differ : (rows : List (List Value)) → rows ≡ rows_of entries → have_different_keys table rows ≡ true
  can_differ rows are = ap (have_different_keys table) are ∙ (different-apart table (rows_of entries) ∙ apart_from_rises key_cmp_total (map (key_of table) (rows_of entries)) can.keyed)

  -- put in order again they are as they were
  pub copied_again : (rows : List (List Value)) → rows ≡ rows_of entries → entries_in_order table rows ≡ entries
  copied_again rows are =
      ap (entries_in_order table) are
      ∙ (ap (entries_of table) (in_order-rises key_cmp_total (key_of table) (rows_of entries) can.keyed) ∙ sym can.own_keys)

-- the table of a name with its rows, as the database has it
module _ (db : Database) where
  abbrev pub as_there : Table → Stored
  as_there t = as_stored t (table_rows db t.name)

  abbrev IsStoredSo : Table → Type 0
  IsStoredSo t = stored_at db t.name ≡ Some (as_there t)

  there_by_table : (ss : List Stored) → AllByRecursion (IsThere db) ss → AllByRecursion IsStoredSo (map (λ s. s.table) ss)
  there_by_table [] all = tt
  there_by_table (s ∷ ss) all = (all.0 ∙ ap (λ (rows : List (List Value)). Some (as_stored s.table rows)) (sym (rows_there db s all.0)), there_by_table ss all.1)

  pub stored_so : IsDatabase db → (before rest : List Table) (t : Table) → before ++ t ∷ rest ≡ map (λ s. s.table) db.tables → stored_at db t.name ≡ Some (as_there t)
  stored_so is before rest t whole = in_midst IsStoredSo before rest t (subst (AllByRecursion IsStoredSo) (sym whole) (there_by_table db.tables (all_there db is)))

  all_as_there : (ss : List Stored) → AllByRecursion (IsThere db) ss → map as_there (map (λ s. s.table) ss) ≡ ss
  all_as_there [] all = refl
  all_as_there (s ∷ ss) all = ap₂ (λ (rows : List (List Value)) (rest : List Stored). as_stored s.table rows ∷ rest) (rows_there db s all.0) (all_as_there ss all.1)

  pub tables_as_there : IsDatabase db → map as_there (map (λ s. s.table) db.tables) ≡ db.tables
  tables_as_there is = all_as_there db.tables (all_there db is)

  -- so it can be frozen
  pub can_freeze : IsDatabase db → (t : Table) → stored_at db t.name ≡ Some (as_there t) → (entries : List Entry) → entries ≡ entries_of t (table_rows db t.name) → CanFreeze t entries
  can_freeze is t stored entries are =
      let rows = table_rows db t.name in
      let own : rows_of entries ≡ rows = ap rows_of are ∙ rows_are t rows in
      record {
        own_keys = are ∙ ap (entries_of t) (sym own);
        keyed = ap (λ (rows : List (List Value)). is_keyed (as_stored t rows)) own ∙ rows_keyed db is t rows stored;
        admitted = ap (list_all (is_admitted t)) own ∙ rows_admitted db is t rows stored;
        within = key_within db is t rows stored;
      }

-- what is frozen of the first tables
pub record AreFrozenOf (db : Database) (sources : List (List ℕ)) (tables : List Table) (frozen : List Frozen) : Type 0 where
  pub tables_are : map stored_of frozen ≡ filter (λ s. not (not (has same_name sources s.table.name))) (map (as_there db) tables)
  pub entries_are : map (λ f. f.rows) frozen ≡ map (λ s. entries_of s.table s.rows) (filter (λ s. not (not (has same_name sources s.table.name))) (map (as_there db) tables))

module _ (db : Database) (sources : List (List ℕ)) where
  abbrev among : Stored → Bool
  among s = not (not (has same_name sources s.table.name))

  filter-append_one : (b : Bool) (ss : List Stored) (s : Stored) → among s ≡ b → filter among (ss ++ s ∷ []) ≡ filter among ss ++ (if b then s ∷ [] else [])
  filter-append_one b [] s is = ap (λ b. if b then s ∷ [] else []) is
  filter-append_one b (r ∷ ss) s is = elim (among r) as (λ a. (if a then r ∷ filter among (ss ++ s ∷ []) else filter among (ss ++ s ∷ [])) ≡ (if a then r ∷ filter among ss else filter among ss) ++ (if b then s ∷ [] else [])) [
    | true ↦ ap (λ (rs : List Stored). r ∷ rs) (filter-append_one b ss s is)
    | false ↦ filter-append_one b ss s is
  ]

  pub freeze_one : (tables : List Table) (t : Table) (frozen : List Frozen) (f : Frozen) → AreFrozenOf db sources tables frozen → has same_name sources t.name ≡ true
      → f.table ≡ t → f.rows ≡ entries_of t (table_rows db t.name) → AreFrozenOf db sources (tables ++ t ∷ []) (frozen ++ f ∷ [])
  freeze_one tables t frozen f so_far here table rows =
      let more : filter among (map (as_there db) (tables ++ t ∷ [])) ≡ filter among (map (as_there db) tables) ++ as_there db t ∷ [] =
      ap (filter among) (map-append (as_there db) tables (t ∷ [])) ∙ filter-append_one true (map (as_there db) tables) (as_there db t) (ap (λ b. not (not b)) here) in
      let one : stored_of f ≡ as_there db t =
      ap₂ (λ (t : Table) (rows : List (List Value)). as_stored t rows) table (ap rows_of rows ∙ rows_are t (table_rows db t.name)) in
      record {
        tables_are = map-append stored_of frozen (f ∷ []) ∙ (ap₂ (λ (ss : List Stored) (s : Stored). ss ++ s ∷ []) so_far.tables_are one ∙ sym more);
        entries_are =
            map-append (λ (f : Frozen). f.rows) frozen (f ∷ [])
            ∙ (ap₂ (λ (ess : List (List Entry)) (es : List Entry). ess ++ es ∷ []) so_far.entries_are rows
            ∙ (sym (map-append (λ (s : Stored). entries_of s.table s.rows) (filter among (map (as_there db) tables)) (as_there db t ∷ [])) ∙ ap (map (λ (s : Stored). entries_of s.table s.rows)) (sym more)));
      }

  pub freeze_none : (tables : List Table) (t : Table) (frozen : List Frozen) → AreFrozenOf db sources tables frozen → has same_name sources t.name ≡ false → AreFrozenOf db sources (tables ++ t ∷ []) frozen
  freeze_none tables t frozen so_far other =
      let more : filter among (map (as_there db) (tables ++ t ∷ [])) ≡ filter among (map (as_there db) tables) =
      ap (filter among) (map-append (as_there db) tables (t ∷ [])) ∙ (filter-append_one false (map (as_there db) tables) (as_there db t) (ap (λ b. not (not b)) other) ∙ append-nil (filter among (map (as_there db) tables))) in
      record {
        tables_are = so_far.tables_are ∙ sym more;
        entries_are = so_far.entries_are ∙ ap (map (λ (s : Stored). entries_of s.table s.rows)) (sym more);
      }

  pub all_frozen : IsDatabase db → (tables : List Table) (frozen : List Frozen) → tables ≡ map (λ s. s.table) db.tables → AreFrozenOf db sources tables frozen → AreFrozen db sources frozen
  all_frozen is tables frozen whole are =
      let all : map (as_there db) tables ≡ db.tables = ap (map (as_there db)) whole ∙ tables_as_there db is in
      record {
        tables = are.tables_are ∙ ap (filter among) all;
        entries = are.entries_are ∙ ap (λ (ss : List Stored). map (λ (s : Stored). entries_of s.table s.rows) (filter among ss)) all;
      }
