-- Rows that are put into a heap one after the other.
use Rattle.std.proofs.Common.{◌≡◌, ℕ, suc, ◌-◌, ◌≤◌, true, false, not, ◌&&◌, if◌then◌else◌, List, [], ◌∷◌, ◌++◌, map, Less, Equal, Greater, is_lt, is_eq, refl, sym, ap, ◌∙◌, arith}
use Rattle.std.specs.List.{AllByRecursion, list_all}
use Rattle.std.proofs.lemmas.Bool.{and_parts, not-true, or_parts}
use Rattle.std.proofs.lemmas.Grind.{fold-append}
use Rattle.std.proofs.lemmas.List.{map-append}
use Rattle.std.proofs.lemmas.List.Folds.{list_any-append}
use Rattle.bf_base.specs.declared.table.Table.{Table}
use Rattle.bf_base.specs.declared.value.Value.{Value}
use Rattle.bf_base.specs.Lists.{has, in_order, placed, same_key}
use Rattle.bf_base.specs.Maps.{beside}
use Rattle.bf_base.specs.Tables.{key_of, IsKeyWithin}
use Rattle.bf_base.specs.Values.{key_cmp}
use Rattle.bf_base.proofs.Apart.{are_apart, are_apart-same_items}
use Rattle.bf_base.proofs.Items.{between, mapped}
use Rattle.bf_base.proofs.Order.{has-with_placed}
use Rattle.bf_base.specs.Values.{key_cmp_total}
use Rattle.bf_heap.specs.Heaps.{Entry, Rows, has_row, spare_after, with_row}
use Rattle.bf_sql.specs.Database.{is_admitted, is_within}
use Rattle.bf_live.specs.Meanings.{entries_of}
use Rattle.bf_live.proofs.querying.Binding.{row_within}
use Rattle.bf_eager.specs.Starting.{entries_in_order, have_different_keys}

-- what holds of all holds of one in the midst
pub in_midst : {X : Type 0} (P : X → Type 0) (xs ys : List X) (x : X) → AllByRecursion P (xs ++ x ∷ ys) → P x
in_midst P [] ys x all = all.0
in_midst P (z ∷ xs) ys x all = in_midst P xs ys x all.1

module _ (table : Table) where
  pub different-apart : (rows : List (List Value)) → have_different_keys table rows ≡ are_apart same_key (map (key_of table) rows)
  different-apart [] = refl
  different-apart (row ∷ rows) = ap (λ b. not (has same_key (map (key_of table) rows) (key_of table row)) && b) (different-apart rows)

  -- a row of a new key is put in its place
  put_placed : (rows : List (List Value)) (row : List Value) → has same_key (map (key_of table) rows) (key_of table row) ≡ false
      → with_row (entries_of table rows) (key_of table row) row ≡ entries_of table (placed key_cmp (key_of table) rows row)
  put_placed [] row new = refl
  put_placed (y ∷ rows) row new =
      let parts = or_parts _ _ new in
      let key = key_of table row in
      elim (key_cmp key (key_of table y)) as (λ r. is_eq r ≡ false → beside r (key_of table y, y) (entries_of table rows) (key, row) (with_row (entries_of table rows) key row)
      ≡ entries_of table (if is_lt r then row ∷ y ∷ rows else y ∷ placed key_cmp (key_of table) rows row)) [
        | Less ↦ λ a. refl
        | Equal ↦ λ a. absurd cc
        | Greater ↦ λ a. ap (λ (es : List Entry). (key_of table y, y) ∷ es) (put_placed rows row parts.1)
      ] parts.0

  -- the next row has a new key
  new_key : (before rest : List (List Value)) (row : List Value) → have_different_keys table (before ++ row ∷ rest) ≡ true
      → has same_key (map (key_of table) (in_order key_cmp (key_of table) before)) (key_of table row) ≡ false
  new_key before rest row different =
      let key = key_of table row in
      let apart : are_apart same_key (map (key_of table) (row ∷ (before ++ rest))) ≡ true =
      are_apart-same_items key_cmp_total (mapped (key_of table) (between row before rest)) ∙ (sym (different-apart (before ++ row ∷ rest)) ∙ different) in
      let none : has same_key (map (key_of table) before ++ map (key_of table) rest) key ≡ false =
      ap (λ (ks : List (List Value)). has same_key ks key) (sym (map-append (key_of table) before rest)) ∙ not-true _ (and_parts _ _ apart).0 in
      has-with_placed key_cmp_total (key_of table) [] before key
      ∙ (or_parts _ _ (sym (list_any-append (same_key key) (map (key_of table) before) (map (key_of table) rest)) ∙ none)).0

  pub filled_more : (before rest : List (List Value)) (row : List Value) (entries : List Entry) → entries ≡ entries_in_order table before → have_different_keys table (before ++ row ∷ rest) ≡ true
      → with_row entries (key_of table row) row ≡ entries_in_order table (before ++ row ∷ [])
  filled_more before rest row entries filled different =
      ap (λ (es : List Entry). with_row es (key_of table row) row) filled
      ∙ (put_placed (in_order key_cmp (key_of table) before) row (new_key before rest row different)
      ∙ ap (entries_of table) (sym (fold-append (placed key_cmp (key_of table)) [] before (row ∷ []))))

-- room for one row less is left
pub room_left : (heap : Rows) (key : List Value) (left before : ℕ) → before ≤ heap.spare → before ≡ suc left → left ≤ spare_after heap key
room_left heap key left before within one = elim (has_row heap.entries key) as (λ b. left ≤ (if b then heap.spare else heap.spare - 1)) [
  | true ↦ omega (arith, within, one)
  | false ↦ omega (arith, within, one)
]

-- admitted rows have the columns of the key
pub all_within : (table : Table) → is_within table table.key ≡ true → (rows : List (List Value)) → list_all (is_admitted table) rows ≡ true → AllByRecursion (IsKeyWithin table) rows
all_within table key [] admitted = tt
all_within table key (row ∷ rows) admitted =
    let parts = and_parts (is_admitted table row) (list_all (is_admitted table) rows) admitted in
    (row_within table key row parts.0, all_within table key rows parts.1)
