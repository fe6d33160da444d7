-- Tables with their rows, and the database that they are.
use Rattle.std.proofs.Common.{◌≡◌, ℕ, suc, List, [], ◌∷◌, map, cond, find, Bor, Option, Some, None, option_map, true, false, refl, sym, ap, ◌∙◌, arith, is_eq}
use Rattle.std.specs.Prelude.{zip}
use Rattle.std.specs.BTreeMap.{is_at}
use Rattle.std.specs.List.{All}
use Rattle.std.specs.Map.{keys_of, lookup, values_of}
use Rattle.std.specs.Option.{option_copied}
use Rattle.bf_base.specs.declared.table.Table.{Table}
use Rattle.bf_base.specs.Lists.{name_cmp, same_name}
use Rattle.bf_base.proofs.Names.{same_name-tie_back}
use Rattle.bf_heap.specs.Heaps.{Rows}
use Rattle.bf_live.specs.Meanings.{entries_of}
use Rattle.bf_tree.specs.Catalogs.{Catalog}
use Rattle.bf_sql.specs.Database.{Database, Stored, stored_at}
use Rattle.bf_sql.specs.Bound.{catalog_of}
use Rattle.bf_live.specs.Live.{AreLiveTables, IsUnderOwnKeys, NamedHeap, NamedRows, database_of, rows_in, stored}

abbrev pub name_of : Stored → List ℕ
name_of s = s.table.name

-- the tables of live tables
abbrev pub held : List Table → List NamedRows → List Stored
held tables rows = map stored (zip tables (values_of rows))

-- the rows stand under the names of the tables
abbrev pub OneEach : List Table → List NamedRows → Type 0
OneEach tables rows = keys_of rows ≡ map (λ t. t.name) tables

tables_held : (tables : List Table) (rows : List NamedRows) → OneEach tables rows → map (λ s. s.table) (held tables rows) ≡ tables
tables_held [] rows one_each = refl
tables_held (t ∷ ts) [] one_each = absurd cc
tables_held (t ∷ ts) (r ∷ rs) one_each =
    let rest : OneEach ts rs = cc in
    ap (λ ts. t ∷ ts) (tables_held ts rs rest)

-- the rows under a name are those of the table that has it
under_name : (name : List ℕ) (tables : List Table) (rows : List NamedRows) → OneEach tables rows → All IsUnderOwnKeys (zip tables (values_of rows))
    → lookup (is_at (name_cmp name)) rows ≡ option_map (λ (s : Stored). entries_of s.table s.rows) (find (λ (s : Stored). same_name s.table.name name) (held tables rows))
under_name name [] [] one_each own = refl
under_name name [] (r ∷ rs) one_each own = absurd cc
under_name name (t ∷ ts) [] one_each own = absurd cc
under_name name (t ∷ ts) (r ∷ rs) one_each own =
    let named : r.0 ≡ t.name = cc in
    let rest : OneEach ts rs = cc in
    let here : r.1 ≡ entries_of t (map (λ e. e.1) r.1) = own 0 (t, r.1) (omega arith) in
    let same : is_eq (name_cmp name r.0) ≡ same_name t.name name = ap (λ n. is_eq (name_cmp name n)) named ∙ sym (same_name-tie_back t.name name) in
    let others = under_name name ts rs rest (λ k d below. own (suc k) d (omega arith)) in
    ap (λ b. cond b (Some r.1) (lookup (is_at (name_cmp name)) rs)) same
    ∙ ap (λ es. cond (same_name t.name name) (Some es) (lookup (is_at (name_cmp name)) rs)) here
    ∙ ap (cond (same_name t.name name) (Some (entries_of t (map (λ e. e.1) r.1)))) others
    ∙ elim (same_name t.name name) as (λ b. cond b (Some (entries_of t (map (λ e. e.1) r.1))) (option_map (λ (s : Stored). entries_of s.table s.rows) (find (λ (s : Stored). same_name s.table.name name) (held ts rs)))
    ≡ option_map (λ (s : Stored). entries_of s.table s.rows) (cond b (Some (stored (t, r.1))) (find (λ (s : Stored). same_name s.table.name name) (held ts rs)))) [ true ↦ refl | false ↦ refl ]

-- what is looked up among heaps has the rows that are looked up among theirs
pub rows_found : (name : List ℕ) (heaps : List NamedHeap) → option_map (λ (h : Rows). h.entries) (lookup (is_at (name_cmp name)) heaps) ≡ lookup (is_at (name_cmp name)) (rows_in heaps)
rows_found name [] = refl
rows_found name (h ∷ hs) = elim (is_eq (name_cmp name h.0)) as (λ b. option_map (λ (h : Rows). h.entries) (cond b (Some h.1) (lookup (is_at (name_cmp name)) hs)) ≡ cond b (Some h.1.entries) (lookup (is_at (name_cmp name)) (rows_in hs))) [
  | true ↦ refl
  | false ↦ rows_found name hs
]

entries_seen : (o : Option (Bor Rows)) → option_map (λ (h : Bor Rows). h.now.entries) o ≡ option_map (λ (h : Rows). h.entries) (option_copied o)
entries_seen None = refl
entries_seen (Some h) = refl

module _ (catalog : Catalog) (rows : List NamedRows) (live : AreLiveTables catalog rows) (db : Database) (is : database_of catalog rows ≡ db) where
  pub catalog_held : catalog ≡ catalog_of db
  catalog_held =
      ap (λ ts. record { number = catalog.number; tables = ts; indexes = catalog.indexes }) (sym (tables_held catalog.tables rows live.one_each))
      ∙ ap catalog_of is

  pub rows_held : (name : List ℕ) → lookup (is_at (name_cmp name)) rows ≡ option_map (λ (s : Stored). entries_of s.table s.rows) (stored_at db name)
  rows_held name =
      under_name name catalog.tables rows live.one_each live.under_own_keys
      ∙ ap (λ (db : Database). option_map (λ (s : Stored). entries_of s.table s.rows) (stored_at db name)) is

-- a heap that is found by a name has the rows of the table of that name
pub heap_held : (catalog : Catalog) (heaps : List NamedHeap) → AreLiveTables catalog (rows_in heaps) → (db : Database) → database_of catalog (rows_in heaps) ≡ db → (name : List ℕ) (found : Option (Bor Rows))
    → option_copied found ≡ lookup (is_at (name_cmp name)) heaps → option_map (λ (h : Bor Rows). h.now.entries) found ≡ option_map (λ (s : Stored). entries_of s.table s.rows) (stored_at db name)
heap_held catalog heaps live db is name found looked_up =
    entries_seen found ∙ ap (option_map (λ (h : Rows). h.entries)) looked_up ∙ rows_found name heaps ∙ rows_held catalog (rows_in heaps) live db is name
