-- The live tables with other rows in the table of a name.
use Rattle.std.proofs.Common.{◌≡◌, ℕ, suc, true, false, cond, List, [], ◌∷◌, map, find, Some, refl, sym, ap, ap₂, subst, ◌∙◌, inl, inr, arith}
use Rattle.std.specs.Prelude.{zip, if◌then◌else◌}
use Rattle.std.specs.List.{All, AllByRecursion}
use Rattle.std.specs.Map.{keys_of, values_of}
use Rattle.std.specs.Ordering.{eq_by_cmp}
use Rattle.std.proofs.lemmas.Bool.{and_parts, cases_Bool, false≢true, not-true, or_parts}
use Rattle.std.proofs.lemmas.List.Elements.{All-cons}
use Rattle.bf_base.specs.declared.table.Table.{Table}
use Rattle.bf_base.specs.Lists.{has, name_cmp, same_name}
use Rattle.bf_base.proofs.Apart.{apart_from_rises, are_apart}
use Rattle.bf_base.proofs.Names.{name_cmp_total, same_name-tie, same_name-tie_back}
use Rattle.bf_heap.specs.Heaps.{Entry}
use Rattle.bf_live.specs.Meanings.{entries_of}
use Rattle.bf_tree.specs.Catalogs.{Catalog}
use Rattle.bf_sql.specs.Database.{Database, IsDatabase, Stored, stored_at, with_rows}
use Rattle.bf_live.specs.Live.{AreLiveTables, IsUnderOwnKeys, NamedRows, database_of, stored, with_rows_under}
use Rattle.bf_live.proofs.Heaps.{is_one}
use Rattle.bf_live.proofs.Held.{OneEach, held, name_of}

-- what is true of the table that is found by a name is true of each that has it
module _ (P : Stored → Type 0) (name : List ℕ) where
  abbrev pub OfName : Stored → Type 0
  OfName s = same_name s.table.name name ≡ true → P s

  none_behind : (other : List ℕ) (all : List Stored) → other ≡ name → has (eq_by_cmp name_cmp) (map name_of all) other ≡ false → AllByRecursion OfName all
  none_behind other [] is none = tt
  none_behind other (s ∷ all) is none =
      let parts = or_parts _ _ none in
      (λ same. absurd (false≢true (sym parts.0 ∙ sym (same_name-tie_back s.table.name other) ∙ ap (same_name s.table.name) is ∙ same)), none_behind other all is parts.1)

  pub each_of_name : (all : List Stored) → are_apart (eq_by_cmp name_cmp) (map name_of all) ≡ true → ((s : Stored) → find (λ s. same_name s.table.name name) all ≡ Some s → P s) → AllByRecursion OfName all
  each_of_name [] apart found = tt
  each_of_name (s ∷ all) apart found =
      let parts = and_parts _ _ apart in
      elim (cases_Bool (same_name s.table.name name)) [
        | inl same ↦ (λ _. found s (rw same refl), none_behind s.table.name all (is_one s.table.name name same) (not-true _ parts.0))
        | inr other ↦ (λ same. absurd (false≢true (sym other ∙ same)), each_of_name all parts.1 (λ t is. found t (rw other is)))
      ]

-- rows in the place of others
module _ (name : List ℕ) (entries : List Entry) where
  abbrev with_new : Stored → Stored
  with_new s = if same_name s.table.name name then record s { rows = map (λ e. e.1) entries } else s

  -- they stand under the keys that they have in a table
  abbrev pub StandIn : Stored → Type 0
  StandIn s = entries ≡ entries_of s.table (map (λ e. e.1) entries)

  same_as : (t : Table) (r : NamedRows) → r.0 ≡ t.name → same_name name r.0 ≡ same_name t.name name
  same_as t r named = ap (same_name name) named ∙ same_name-tie name t.name ∙ sym (same_name-tie_back t.name name)

  names_put : (rows : List NamedRows) → keys_of (with_rows_under name entries rows) ≡ keys_of rows
  names_put [] = refl
  names_put (r ∷ rs) = ap (λ ns. r.0 ∷ ns) (names_put rs)

  held_put : (tables : List Table) (rows : List NamedRows) → OneEach tables rows → held tables (with_rows_under name entries rows) ≡ map with_new (held tables rows)
  held_put [] rows one_each = refl
  held_put (t ∷ ts) [] one_each = absurd cc
  held_put (t ∷ ts) (r ∷ rs) one_each =
      let named : r.0 ≡ t.name = cc in
      let rest : OneEach ts rs = cc in
      let here : stored (t, cond (same_name name r.0) entries r.1) ≡ with_new (stored (t, r.1)) =
      ap (λ b. stored (t, cond b entries r.1)) (same_as t r named)
      ∙ elim (same_name t.name name) as (λ b. stored (t, cond b entries r.1) ≡ cond b (stored (t, entries)) (stored (t, r.1))) [ true ↦ refl | false ↦ refl ] in
      ap₂ (λ s (ss : List Stored). s ∷ ss) here (held_put ts rs rest)

  own_put : (tables : List Table) (rows : List NamedRows) → OneEach tables rows → All IsUnderOwnKeys (zip tables (values_of rows)) → AllByRecursion (OfName StandIn name) (held tables rows)
      → All IsUnderOwnKeys (zip tables (values_of (with_rows_under name entries rows)))
  own_put [] rows one_each own stand = λ k d below. absurd (omega arith)
  own_put (t ∷ ts) [] one_each own stand = absurd cc
  own_put (t ∷ ts) (r ∷ rs) one_each own stand =
      let named : r.0 ≡ t.name = cc in
      let rest : OneEach ts rs = cc in
      let own_here : IsUnderOwnKeys (t, r.1) = own 0 (t, r.1) (omega arith) in
      let here : IsUnderOwnKeys (t, cond (same_name name r.0) entries r.1) = elim (cases_Bool (same_name name r.0)) [
        | inl same ↦ rw same (stand.0 (sym (same_as t r named) ∙ same))
        | inr other ↦ rw other own_here
      ] in
      All-cons IsUnderOwnKeys (t, cond (same_name name r.0) entries r.1) (zip ts (values_of (with_rows_under name entries rs))) here
      (own_put ts rs rest (λ k d below. own (suc k) d (omega arith)) stand.1)

module _ (catalog : Catalog) (rows : List NamedRows) (live : AreLiveTables catalog rows) (db : Database) (is : database_of catalog rows ≡ db) (name : List ℕ) (entries : List Entry) where
  pub view_put : database_of catalog (with_rows_under name entries rows) ≡ with_rows db name (map (λ e. e.1) entries)
  view_put =
      ap (λ (tables : List Stored). record { number = catalog.number; tables = tables; indexes = catalog.indexes }) (held_put name entries catalog.tables rows live.one_each)
      ∙ ap (λ (db : Database). with_rows db name (map (λ e. e.1) entries)) is

  pub store_put : ((s : Stored) → stored_at db name ≡ Some s → StandIn name entries s) → IsDatabase (with_rows db name (map (λ e. e.1) entries)) → AreLiveTables catalog (with_rows_under name entries rows)
  store_put stand database =
      let each : AllByRecursion (OfName (StandIn name entries) name) (held catalog.tables rows) =
      each_of_name (StandIn name entries) name (held catalog.tables rows) (apart_from_rises name_cmp_total (map name_of (held catalog.tables rows)) live.database.tables_by_name)
      (λ s found. stand s (ap (λ (db : Database). stored_at db name) (sym is) ∙ found)) in
      record {
        one_each = names_put name entries rows ∙ live.one_each;
        under_own_keys = own_put name entries catalog.tables rows live.one_each live.under_own_keys each;
        database = subst IsDatabase (sym view_put) database;
      }
