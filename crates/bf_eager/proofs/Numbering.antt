-- Rows are sorted into the tables of their numbers.
use Rattle.std.proofs.Common.{◌≡◌, ℕ, zero, suc, ◌+◌, ◌<◌, Bool, true, false, ◌==◌, if◌then◌else◌, List, [], ◌∷◌, ◌++◌, Option, Some, None, map, filter, get_or, length, slice_get, refl, sym, ap, ap₂, ◌∙◌, arith, append_assoc}
use Rattle.std.specs.Global.{Vec}
use Rattle.std.specs.List.{enumerate_from, slice_set}
use Rattle.std.proofs.lemmas.Bool.Decides.{nat_tests}
use Rattle.std.proofs.lemmas.List.{append-nil}
use Rattle.std.proofs.lemmas.Option.{same_Some}
use Rattle.bf_base.specs.declared.table.Table.{Table}
use Rattle.bf_base.specs.declared.value.Value.{Value}
use Rattle.bf_eager.specs.Flips.{Made}
use Rattle.bf_eager.specs.Gathering.{Numbered}
use Rattle.bf_eager.specs.Sorting.{Sorted, rows_made, table_alone, with_row, with_rows}

abbrev with_row_from : ℕ → List Sorted → Numbered → List Sorted
with_row_from n tables row = map (λ (t : ℕ × Sorted). (t.1.0, if t.0 == row.0 then t.1.1 ++ row.1 ∷ [] else t.1.1)) (enumerate_from n tables)

-- a row of an earlier number changes no table
unchanged : (n : ℕ) (tables : List Sorted) (row : Numbered) → row.0 < n → with_row_from n tables row ≡ tables
unchanged n [] row below = refl
unchanged n (t ∷ tables) row below =
    let other : (n == row.0) ≡ false = search (arith, nat_tests) in
    ap₂ (λ (b : Bool) (ts : List Sorted). (t.0, if b then t.1 ++ row.1 ∷ [] else t.1) ∷ ts) other (unchanged (n + 1) tables row (omega (arith, below)))

-- nor does one of a number that no table has
absent_from : (n i : ℕ) (made : List Made) (row : Numbered) → row.0 ≡ n + i → None ≡ slice_get made i → with_row_from n (rows_made made) row ≡ rows_made made
absent_from n i [] row at none = refl
absent_from n zero (x ∷ made) row at none = absurd cc
absent_from n (suc i) (x ∷ made) row at none =
    let other : (n == row.0) ≡ false = search (arith, nat_tests) in
    ap₂ (λ (b : Bool) (ts : List Sorted). (x.0, if b then x.1.items ++ row.1 ∷ [] else x.1.items) ∷ ts) other (absent_from (n + 1) i made row (omega (arith, at)) none)

-- a row goes behind those of the table of its number
added_from : (n i : ℕ) (made : List Made) (row : Numbered) (x : Made) (rows : Vec (List Value)) → row.0 ≡ n + i → Some x ≡ slice_get made i → rows.items ≡ x.1.items ++ row.1 ∷ []
    → rows_made (slice_set made i (x.0, rows)) ≡ with_row_from n (rows_made made) row
added_from n i [] row x rows at some is = absurd cc
added_from n zero (y ∷ made) row x rows at some is =
    let one : x ≡ y = same_Some x y some in
    let here : (n == row.0) ≡ true = search (arith, nat_tests) in
    let head : (x.0, rows.items) ≡ (y.0, if (n == row.0) then y.1.items ++ row.1 ∷ [] else y.1.items) =
    ap₂ (λ (table : Table) (rows : List (List Value)). let s : Sorted = (table, rows) in s) (ap (λ (m : Made). m.0) one)
    (is ∙ (ap (λ (m : Made). m.1.items ++ row.1 ∷ []) one ∙ ap (λ (b : Bool). if b then y.1.items ++ row.1 ∷ [] else y.1.items) (sym here))) in
    ap₂ (λ (s : Sorted) (ss : List Sorted). s ∷ ss) head (sym (unchanged (n + 1) (rows_made made) row (omega (arith, at))))
added_from n (suc i) (y ∷ made) row x rows at some is =
    let other : (n == row.0) ≡ false = search (arith, nat_tests) in
    ap₂ (λ (b : Bool) (ss : List Sorted). (y.0, if b then y.1.items ++ row.1 ∷ [] else y.1.items) ∷ ss) (sym other) (added_from (n + 1) i made row x rows (omega (arith, at)) some is)

pub row_absent : (made : List Made) (row : Numbered) → None ≡ slice_get made row.0 → with_row (rows_made made) row ≡ rows_made made
row_absent made row none = absent_from 0 row.0 made row (omega arith) none

pub row_added : (made : List Made) (row : Numbered) (x : Made) (rows : Vec (List Value)) → Some x ≡ slice_get made row.0 → rows.items ≡ x.1.items ++ row.1 ∷ []
    → rows_made (slice_set made row.0 (x.0, rows)) ≡ with_row (rows_made made) row
row_added made row x rows some is = added_from 0 row.0 made row x rows (omega arith) some is

-- ---- so each table has the rows of its number
abbrev pub rows_numbered : ℕ → List Numbered → List (List Value)
rows_numbered n rows = map (λ (p : Numbered). p.1) (filter (λ (p : Numbered). n == p.0) rows)

-- an item that is there, or none
pub some_at : {X : Type 0} (xs : List X) (i : ℕ) (x : X) → x ≡ get_or xs i x → i < length xs → Some x ≡ slice_get xs i
some_at [] i x is within = absurd (omega (arith, within))
some_at (y ∷ xs) zero x is within = ap Some is
some_at (y ∷ xs) (suc i) x is within = some_at xs i x is (omega (arith, within))

pub within_if : {X : Type 0} (xs : List X) (i : ℕ) (y : X) → slice_get xs i ≡ Some y → i < length xs
within_if [] zero y is = absurd cc
within_if [] (suc i) y is = absurd cc
within_if (x ∷ xs) zero y is = omega arith
within_if (x ∷ xs) (suc i) y is = omega (arith, within_if xs i y is)

pub none_at : {X : Type 0} (xs : List X) (i : ℕ) → (i < length xs → ⊥) → None ≡ slice_get xs i
none_at xs i beyond = by_item (slice_get xs i) refl
  where
    by_item : (o : Option _) → slice_get xs i ≡ o → None ≡ o
    by_item None is = refl
    by_item (Some y) is = absurd (beyond (within_if xs i y is))

abbrev pub sorted_from : ℕ → List Table → List Numbered → List Sorted
sorted_from n tables rows = map (λ (t : ℕ × Table). (t.1, rows_numbered t.0 rows)) (enumerate_from n tables)

numbered_more : (n : ℕ) (rows : List Numbered) (row : Numbered) → (if (n == row.0) then rows_numbered n rows ++ row.1 ∷ [] else rows_numbered n rows) ≡ rows_numbered n (rows ++ row ∷ [])
numbered_more n [] row = elim (n == row.0) as (λ b. (if b then row.1 ∷ [] else []) ≡ map (λ (p : Numbered). p.1) (if b then row ∷ [] else [])) [
  | true ↦ refl
  | false ↦ refl
]
numbered_more n (p ∷ rows) row =
    elim (n == p.0) as (λ b. (if (n == row.0) then map (λ (p : Numbered). p.1) (if b then p ∷ filter (λ (p : Numbered). n == p.0) rows else filter (λ (p : Numbered). n == p.0) rows) ++ row.1 ∷ [] else map (λ (p : Numbered). p.1) (if b then p ∷ filter (λ (p : Numbered). n == p.0) rows else filter (λ (p : Numbered). n == p.0) rows))
    ≡ map (λ (p : Numbered). p.1) (if b then p ∷ filter (λ (p : Numbered). n == p.0) (rows ++ row ∷ []) else filter (λ (p : Numbered). n == p.0) (rows ++ row ∷ []))) [
      | true ↦ pulled (n == row.0) ∙ ap (λ (rs : List (List Value)). p.1 ∷ rs) (numbered_more n rows row)
      | false ↦ numbered_more n rows row
    ]
  where
    pulled : (b : Bool) → (if b then (p.1 ∷ rows_numbered n rows) ++ row.1 ∷ [] else p.1 ∷ rows_numbered n rows) ≡ p.1 ∷ (if b then rows_numbered n rows ++ row.1 ∷ [] else rows_numbered n rows)
    pulled true = refl
    pulled false = refl

none_sorted : (n : ℕ) (tables : List Table) → map table_alone tables ≡ sorted_from n tables []
none_sorted n [] = refl
none_sorted n (t ∷ tables) = ap (λ (ss : List Sorted). (t, []) ∷ ss) (none_sorted (n + 1) tables)

one_sorted : (n : ℕ) (tables : List Table) (rows : List Numbered) (row : Numbered) → with_row_from n (sorted_from n tables rows) row ≡ sorted_from n tables (rows ++ row ∷ [])
one_sorted n [] rows row = refl
one_sorted n (t ∷ tables) rows row = ap₂ (λ (own : List (List Value)) (ss : List Sorted). (t, own) ∷ ss) (numbered_more n rows row) (one_sorted (n + 1) tables rows row)

all_sorted : (tables : List Table) (before rows : List Numbered) → with_rows (sorted_from 0 tables before) rows ≡ sorted_from 0 tables (before ++ rows)
all_sorted tables before [] = ap (sorted_from 0 tables) (sym (append-nil before))
all_sorted tables before (row ∷ rows) =
    ap (λ (ts : List Sorted). with_rows ts rows) (one_sorted 0 tables before row)
    ∙ (all_sorted tables (before ++ row ∷ []) rows ∙ ap (sorted_from 0 tables) (append_assoc before (row ∷ []) rows))

pub sorted_all : (tables : List Table) (rows : List Numbered) → with_rows (map table_alone tables) rows ≡ sorted_from 0 tables rows
sorted_all tables rows = ap (λ (ts : List Sorted). with_rows ts rows) (none_sorted 0 tables) ∙ all_sorted tables [] rows
