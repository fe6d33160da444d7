-- A row that copies cells of an old one, and satisfies a condition, tells what the old row satisfies.
use Rattle.std.proofs.Common.{◌≡◌, ℕ, ◌-◌, ◌<◌, ◌≤◌, Bool, true, false, ◌&&◌, nat_le, nat_lt, List, ◌++◌, map, Option, Some, None, length, option_map, is_eq, refl, sym, ap, ◌∙◌, arith}
use Rattle.std.specs.Prelude.{if◌then◌else◌, slice_get, pos}
use Rattle.std.specs.Option.{option_and_then}
use Rattle.std.proofs.lemmas.Bool.{and_from, and_parts}
use Rattle.std.proofs.lemmas.Bool.Decides.{nat_tests}
use Rattle.std.proofs.lemmas.Option.{get_or_from_slice_get, slice_get-map}
use Rattle.bf_base.specs.declared.value.Value.{Value}
use Rattle.bf_base.specs.declared.value.Value.TheVariants.{Int}
use Rattle.bf_base.specs.Tables.{cell}
use Rattle.bf_base.specs.Values.{value_cmp, value_cmp_total}
use Rattle.bf_base.proofs.Order.{symmetric}
use Rattle.bf_tree.specs.declared.compare.Compare.TheVariants as compare
use Rattle.bf_tree.specs.declared.plan.PlacedItem.{PlacedItem}
use Rattle.bf_tree.specs.declared.plan.PlacedItem.TheVariants as placed
use Rattle.bf_tree.specs.Evaluation.{holds_on}
use Rattle.bf_tree.specs.Trees.{literal, column, Cond, compared, both}
use Rattle.bf_sql.specs.migrations.Images.{first_row}
use Rattle.bf_sql.specs.migrations.Placed.{placed_over}
use Rattle.bf_image.proofs.making.Arms.{cell_left, cell_right}
use Rattle.bf_transpose.specs.Transposed.{column_copied, fixing, place_copied, transposed}

module _ (new old : List Value) (copied : ℕ → Option ℕ) (same : (at place : ℕ) → copied at ≡ Some place → cell new at ≡ cell old place) where
  fixing_held : (o : Option ℕ) (at : ℕ) (v : Value) → copied at ≡ o → is_eq (value_cmp (cell new at) v) ≡ true → holds_on (cell old) (fixing o v) ≡ true
  fixing_held None at v is holds = refl
  fixing_held (Some place) at v is holds = ap (λ x. is_eq (value_cmp x v)) (sym (same at place is)) ∙ holds

  -- TRANSPOSED: so the old row satisfies the transposed condition
  pub transposed_held : (c : Cond ℕ) → holds_on (cell new) c ≡ true → holds_on (cell old) (transposed copied c) ≡ true
  transposed_held (both c d) holds = and_from _ _ (transposed_held c (and_parts _ _ holds).0) (transposed_held d (and_parts _ _ holds).1)
  transposed_held (compared compare.Equal (column at) (literal v)) holds = fixing_held (copied at) at v refl holds
  transposed_held (compared compare.Equal (literal v) (column at)) holds = fixing_held (copied at) at v refl (symmetric value_cmp_total (cell new at) v ∙ holds)
  transposed_held c holds = refl

-- what an item gives that copies a place
pub item_copies : (rows : List (List Value)) (item : PlacedItem) (place : ℕ) → place_copied item ≡ Some place → placed_over rows item ≡ cell (first_row rows) place
item_copies rows (placed.Column at) place is = let same : at ≡ place = cc in ap (cell (first_row rows)) same
item_copies rows (placed.Value (column at)) place is = let same : at ≡ place = cc in ap (cell (first_row rows)) same
item_copies rows item place is = absurd cc

-- the cell of a row that an arm makes
pub made_cell : (items : List PlacedItem) (rows : List (List Value)) (at : ℕ) (item : PlacedItem) → slice_get items at ≡ Some item → cell (map (placed_over rows) items) at ≡ placed_over rows item
made_cell items rows at item there =
    get_or_from_slice_get (map (placed_over rows) items) at (placed_over rows item) (Int (pos 0)) (slice_get-map (placed_over rows) items at ∙ ap (option_map (placed_over rows)) there)

module _ (items : List PlacedItem) (first count : ℕ) where
  -- the place of an arm's rows that the new table's column at a place copies, and the column of the old table that stands there
  pub record IsCopied (at old_place : ℕ) : Type 0 where
    pub item : PlacedItem
    pub place : ℕ
    pub there : slice_get items at ≡ Some item
    pub copies : place_copied item ≡ Some place
    pub behind : first ≤ place
    pub within : place - first < count
    pub old_is : old_place ≡ place - first

  pub copied_by : (at old_place : ℕ) → column_copied items first count at ≡ Some old_place → IsCopied at old_place
  copied_by at old_place is = of (slice_get items at) refl is
    where
      within : (item : PlacedItem) (place : ℕ) → slice_get items at ≡ Some item → place_copied item ≡ Some place
          → (b : Bool) → (nat_le first place && nat_lt (place - first) count) ≡ b → (if b then Some (place - first) else None) ≡ Some old_place → IsCopied at old_place
      within item place there copies true test is =
          let parts = and_parts (nat_le first place) (nat_lt (place - first) count) test in
          let behind : first ≤ place = let t : nat_le first place ≡ true = parts.0 in grind (arith, nat_tests) in
          let inside : place - first < count = let t : nat_lt (place - first) count ≡ true = parts.1 in grind (arith, nat_tests) in
          let same : place - first ≡ old_place = cc in
          record { item = item; place = place; there = there; copies = copies; behind = behind; within = inside; old_is = sym same }
      within item place there copies false test is = absurd cc

      of_place : (item : PlacedItem) (o : Option ℕ) → slice_get items at ≡ Some item → place_copied item ≡ o
          → option_and_then (λ place. if nat_le first place && nat_lt (place - first) count then Some (place - first) else None) o ≡ Some old_place → IsCopied at old_place
      of_place item None there copies is = absurd cc
      of_place item (Some place) there copies is = within item place there copies (nat_le first place && nat_lt (place - first) count) refl is

      of : (o : Option PlacedItem) → slice_get items at ≡ o
          → option_and_then (λ place. if nat_le first place && nat_lt (place - first) count then Some (place - first) else None) (option_and_then place_copied o) ≡ Some old_place → IsCopied at old_place
      of None there is = absurd cc
      of (Some item) there is = of_place item (place_copied item) there refl is

  -- MADE: where the first row that an arm makes a row of has an old one's cells at the old table's columns, the old row satisfies the
  -- transposed condition
  pub made_held : (rows : List (List Value)) (old : List Value) (wanted : Cond ℕ)
      → ((place : ℕ) → first ≤ place → place - first < count → cell (first_row rows) place ≡ cell old (place - first))
      → holds_on (cell (map (placed_over rows) items)) wanted ≡ true → holds_on (cell old) (transposed (column_copied items first count) wanted) ≡ true
  made_held rows old wanted stands holds =
      transposed_held (map (placed_over rows) items) old (column_copied items first count)
      (λ at old_place is.
      let by = copied_by at old_place is in
      made_cell items rows at by.item by.there ∙ item_copies rows by.item by.place by.copies ∙ stands by.place by.behind by.within ∙ ap (cell old) (sym by.old_is))
      wanted holds

-- an old row that stands in front, or behind one of so many cells
pub stands_alone : (r : List Value) (count : ℕ) → (place : ℕ) → 0 ≤ place → place - 0 < count → cell r place ≡ cell r (place - 0)
stands_alone r count place behind within = let same : place ≡ place - 0 = omega arith in ap (cell r) same

pub stands_left : (r s : List Value) (count : ℕ) → length r ≡ count → (place : ℕ) → 0 ≤ place → place - 0 < count → cell (r ++ s) place ≡ cell r (place - 0)
stands_left r s count as_long place behind within =
    let less : nat_lt place count ≡ true = grind (arith, nat_tests) in
    cell_left r s count place as_long less ∙ stands_alone r count place behind within

pub stands_right : (r s : List Value) (first count : ℕ) → length r ≡ first → (place : ℕ) → first ≤ place → place - first < count → cell (r ++ s) place ≡ cell s (place - first)
stands_right r s first count as_long place behind within =
    let past : nat_lt place first ≡ false = grind (arith, nat_tests) in
    cell_right r s first place as_long past
