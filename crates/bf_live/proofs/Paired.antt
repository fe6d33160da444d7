-- Tables with their rows, as the catalog and the heaps have them.
use Rattle.std.proofs.Common.{◌≡◌, ℕ, true, false, cond, List, [], ◌∷◌, map, find, Less, Equal, Greater, Option, Some, None, refl, sym, ap, ap₂, ◌∙◌, arith, is_eq, is_lt, suc}
use Rattle.std.specs.Prelude.{zip}
use Rattle.std.specs.BTreeMap.{insert_entry}
use Rattle.std.specs.List.{All}
use Rattle.std.specs.Map.{keys_of, values_of}
use Rattle.std.specs.Ordering.{match_ordering}
use Rattle.std.proofs.lemmas.List.Elements.{All-cons}
use Rattle.bf_base.specs.declared.table.Table.{Table}
use Rattle.bf_base.specs.Lists.{name_cmp, placed, same_name}
use Rattle.bf_base.proofs.Apart.{map-placed}
use Rattle.bf_base.proofs.Names.{name_cmp_total, same_name-tie_back}
use Rattle.bf_heap.specs.Heaps.{Entry, Rows}
use Rattle.bf_live.specs.Drafts.{drafted_at, name_of_rows, with_rows_of}
use Rattle.bf_live.specs.Live.{NamedHeap, NamedRows, TableRows, rows_in}
use Rattle.bf_live.proofs.Heaps.{changed}
use Rattle.bf_live.proofs.Held.{OneEach}

abbrev pub table_of : TableRows → Table
table_of t = t.0

abbrev pub named : TableRows → NamedRows
named t = (t.0.name, t.1)

abbrev pub paired : List Table → List NamedRows → List TableRows
paired tables rows = zip tables (values_of rows)

pub tables_paired : (tables : List Table) (rows : List NamedRows) → OneEach tables rows → map table_of (paired tables rows) ≡ tables
tables_paired [] rows one_each = refl
tables_paired (t ∷ ts) [] one_each = absurd cc
tables_paired (t ∷ ts) (r ∷ rs) one_each =
    let rest : OneEach ts rs = cc in
    ap (λ ts. t ∷ ts) (tables_paired ts rs rest)

pub rows_paired : (tables : List Table) (rows : List NamedRows) → OneEach tables rows → map named (paired tables rows) ≡ rows
rows_paired [] [] one_each = refl
rows_paired [] (r ∷ rs) one_each = absurd cc
rows_paired (t ∷ ts) [] one_each = absurd cc
rows_paired (t ∷ ts) (r ∷ rs) one_each =
    let here : r.0 ≡ t.name = cc in
    let rest : OneEach ts rs = cc in
    ap₂ (λ n rs. (n, r.1) ∷ rs) (sym here) (rows_paired ts rs rest)

pub paired_again : (all : List TableRows) → paired (map table_of all) (map named all) ≡ all
paired_again [] = refl
paired_again (t ∷ ts) = ap (λ ts. t ∷ ts) (paired_again ts)

pub one_each_again : (all : List TableRows) → OneEach (map table_of all) (map named all)
one_each_again [] = refl
one_each_again (t ∷ ts) = ap (λ ns. t.0.name ∷ ns) (one_each_again ts)

-- the rows of a new heap among those of the others
pub rows_inserted : (n : List ℕ) (x : Rows) (heaps : List NamedHeap) → rows_in (insert_entry name_cmp heaps n x) ≡ insert_entry name_cmp (rows_in heaps) n x.entries
rows_inserted n x [] = refl
rows_inserted n x (h ∷ hs) =
    elim (name_cmp n h.0) as (λ r. rows_in (match_ordering r ((n, x) ∷ h ∷ hs) ((h.0, x) ∷ hs) (h ∷ insert_entry name_cmp hs n x))
    ≡ match_ordering r ((n, x.entries) ∷ (h.0, h.1.entries) ∷ rows_in hs) ((h.0, x.entries) ∷ rows_in hs) ((h.0, h.1.entries) ∷ insert_entry name_cmp (rows_in hs) n x.entries)) [
      | Less ↦ refl
      | Equal ↦ refl
      | Greater ↦ ap (λ (rows : List NamedRows). (h.0, h.1.entries) ∷ rows) (rows_inserted n x hs)
    ]

-- ---- one table more
module _ (t : Table) where
  -- a table of another name comes before this one, or behind it
  pub before_or_behind : (u : Table) (rest : Option Table) → cond (same_name u.name t.name) (Some u) rest ≡ None → (name_cmp t.name u.name ≡ Equal → ⊥) × (rest ≡ None)
  before_or_behind u rest none = elim (name_cmp t.name u.name) as (λ r. name_cmp t.name u.name ≡ r → (name_cmp t.name u.name ≡ Equal → ⊥) × (rest ≡ None)) [
    | Less ↦ λ is.
        let other : same_name u.name t.name ≡ false = same_name-tie_back u.name t.name ∙ ap is_eq is in
        (λ tied. absurd cc, sym (ap (λ b. cond b (Some u) rest) other) ∙ none)
    | Equal ↦ λ is.
        let same : same_name u.name t.name ≡ true = same_name-tie_back u.name t.name ∙ ap is_eq is in
        let found : Some u ≡ None = sym (ap (λ b. cond b (Some u) rest) same) ∙ none in
        absurd cc
    | Greater ↦ λ is.
        let other : same_name u.name t.name ≡ false = same_name-tie_back u.name t.name ∙ ap is_eq is in
        (λ tied. absurd cc, sym (ap (λ b. cond b (Some u) rest) other) ∙ none)
  ] refl

  module _ (entries : List Entry) where
    tables_new : (all : List TableRows) → drafted_at all t.name ≡ None → find (λ (u : Table). same_name u.name t.name) (map table_of all) ≡ None
    tables_new [] none = refl
    tables_new (u ∷ us) none =
        elim (same_name u.0.name t.name) as (λ b. cond b (Some u) (drafted_at us t.name) ≡ None → cond b (Some u.0) (find (λ (u : Table). same_name u.name t.name) (map table_of us)) ≡ None) [
          | true ↦ λ h. absurd cc
          | false ↦ λ h. tables_new us h
        ] none

    rows_placed : (all : List TableRows) → find (λ (u : Table). same_name u.name t.name) (map table_of all) ≡ None
        → insert_entry name_cmp (map named all) t.name entries ≡ map named (placed name_cmp name_of_rows all (t, entries))
    rows_placed [] none = refl
    rows_placed (u ∷ us) none =
        let others = before_or_behind u.0 (find (λ (u : Table). same_name u.name t.name) (map table_of us)) none in
        let behind = rows_placed us others.1 in
        elim (name_cmp t.name u.0.name) as (λ o. name_cmp t.name u.0.name ≡ o → insert_entry name_cmp (map named (u ∷ us)) t.name entries ≡ map named (placed name_cmp name_of_rows (u ∷ us) (t, entries))) [
          | Less ↦ λ is. rw is refl
          | Equal ↦ λ is. absurd (others.0 is)
          | Greater ↦ λ is. rw is (ap (λ (rs : List NamedRows). named u ∷ rs) behind)
        ] refl

module _ (P : TableRows → Type 0) where
  pub all_placed : (t : TableRows) (tables : List TableRows) → P t → All P tables → All P (placed name_cmp name_of_rows tables t)
  all_placed t [] here all = All-cons P t [] here all
  all_placed t (u ∷ us) here all = elim (is_lt (name_cmp t.0.name u.0.name)) as (λ b. All P (cond b (t ∷ u ∷ us) (u ∷ placed name_cmp name_of_rows us t))) [
    | true ↦ All-cons P t (u ∷ us) here all
    | false ↦ All-cons P u (placed name_cmp name_of_rows us t) (all 0 u (omega arith)) (all_placed t us here (λ k d below. all (suc k) d (omega arith)))
  ]

module _ (tables : List Table) (rows : List NamedRows) (one_each : OneEach tables rows) (all : List TableRows) (is : paired tables rows ≡ all) where
  tables_are : tables ≡ map table_of all
  tables_are = sym (tables_paired tables rows one_each) ∙ ap (map table_of) is

  rows_are : rows ≡ map named all
  rows_are = sym (rows_paired tables rows one_each) ∙ ap (map named) is

  -- tables and rows that are those of other tables with their rows
  module _ (next : List TableRows) (tables' : List Table) (rows' : List NamedRows) (tables_next : tables' ≡ map table_of next) (rows_next : rows' ≡ map named next) where
    one_each_next : OneEach tables' rows'
    one_each_next = ap keys_of rows_next ∙ one_each_again next ∙ ap (map (λ t. t.name)) (sym tables_next)

    paired_next : paired tables' rows' ≡ next
    paired_next = ap₂ paired tables_next rows_next ∙ paired_again next

  module _ (t : Table) (entries : List Entry) (new : drafted_at all t.name ≡ None) where
    pub table_not_there : find (λ (u : Table). same_name u.name t.name) tables ≡ None
    table_not_there = ap (find (λ (u : Table). same_name u.name t.name)) tables_are ∙ tables_new t entries all new

    abbrev pub with_it : List TableRows
    with_it = placed name_cmp name_of_rows all (t, entries)

    tables_with : placed name_cmp (λ (t : Table). t.name) tables t ≡ map table_of with_it
    tables_with = ap (λ ts. placed name_cmp (λ (t : Table). t.name) ts t) tables_are ∙ sym (map-placed name_cmp_total name_of_rows (λ (t : Table). t.name) table_of (λ x. refl) all (t, entries))

    rows_with : insert_entry name_cmp rows t.name entries ≡ map named with_it
    rows_with = ap (λ rs. insert_entry name_cmp rs t.name entries) rows_are ∙ rows_placed t entries all (tables_new t entries all new)

    module _ (tables' : List Table) (rows' : List NamedRows) (placed_is : tables' ≡ placed name_cmp (λ (t : Table). t.name) tables t) (inserted_is : rows' ≡ insert_entry name_cmp rows t.name entries) where
      pub one_each_with : OneEach tables' rows'
      one_each_with = one_each_next with_it tables' rows' (placed_is ∙ tables_with) (inserted_is ∙ rows_with)

      pub paired_with : paired tables' rows' ≡ with_it
      paired_with = paired_next with_it tables' rows' (placed_is ∙ tables_with) (inserted_is ∙ rows_with)

  -- ---- other rows under a name
  module _ (name : List ℕ) (entries : List Entry) where
    abbrev pub put : List TableRows → List TableRows
    put ts = with_rows_of ((name, entries) ∷ []) ts

    tables_put : (ts : List TableRows) → map table_of (put ts) ≡ map table_of ts
    tables_put [] = refl
    tables_put (t ∷ ts) = ap (λ ts. t.0 ∷ ts) (tables_put ts)

    rows_put : (ts : List TableRows) → changed name (λ es. entries) (map named ts) ≡ map named (put ts)
    rows_put [] = refl
    rows_put (t ∷ ts) = ap (λ rs. (t.0.name, cond (same_name name t.0.name) entries t.1) ∷ rs) (rows_put ts)

    module _ (rows' : List NamedRows) (put_is : rows' ≡ changed name (λ es. entries) rows) where
      pub one_each_put : OneEach tables rows'
      one_each_put = one_each_next (put all) tables rows' (tables_are ∙ sym (tables_put all)) (put_is ∙ ap (changed name (λ es. entries)) rows_are ∙ rows_put all)

      pub paired_put : paired tables rows' ≡ put all
      paired_put = paired_next (put all) tables rows' (tables_are ∙ sym (tables_put all)) (put_is ∙ ap (changed name (λ es. entries)) rows_are ∙ rows_put all)
