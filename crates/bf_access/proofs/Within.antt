-- A row that satisfies a condition has its key in the range that the condition leaves.
use Rattle.std.proofs.Common.{◌≡◌, ℕ, Bool, true, false, not, ◌&&◌, List, [], ◌∷◌, ◌++◌, fold, flat_map, Ordering, Less, Equal, Greater, Some, None, option_map, unwrap_or, refl, sym, ap, subst, ◌∙◌, inl, inr, is_eq, is_lt, is_le, is_gt, is_ge, arith}
use Rattle.std.specs.Prelude.{◌==◌, if◌then◌else◌}
use Rattle.std.specs.List.{list_all}
use Rattle.std.specs.Ordering.{ordering_reverse, ordering_then}
use Rattle.std.specs.declared.ops.Bound.{Bound}
use Rattle.std.specs.declared.ops.Bound.TheVariants.{Included, Excluded, Unbounded}
use Rattle.std.proofs.lemmas.Bool.{and_parts, and_from, cases_Bool}
use Rattle.std.proofs.lemmas.Cmp.{tied_itself}
use Rattle.std.proofs.lemmas.List.{append_assoc}
use Rattle.std.proofs.lemmas.List.Folds.{list_all-append}
use Rattle.bf_base.specs.declared.table.Table.{Table}
use Rattle.bf_base.specs.declared.value.Value.{Value}
use Rattle.bf_base.specs.Tables.{cell, cells, key_of}
use Rattle.bf_base.specs.Values.{value_cmp, value_cmp_total}
use Rattle.bf_heap.specs.declared.key_range.KeyRange.{KeyRange}
use Rattle.bf_heap.specs.KeyRanges.{front_cmp, is_before, is_behind, is_within}
use Rattle.bf_tree.specs.declared.compare.Compare.{Compare}
use Rattle.bf_tree.specs.declared.compare.Compare.TheVariants as compare
use Rattle.bf_tree.specs.Evaluation.{compares, holds_on}
use Rattle.bf_tree.specs.Trees.{literal, column, Cond, compared, between}
use Rattle.bf_access.specs.declared.range.Side.{Side}
use Rattle.bf_access.specs.declared.range.Side.TheVariants.{Low, High}
use Rattle.bf_tree.specs.Fixed.{column_fixed, conjuncts}
use Rattle.bf_access.specs.Ranges.{turned, comparisons, end_of, toward, narrower, column_end, end_behind, range_behind, key_range_of}
use Rattle.bf_sql.proofs.FixedKey.{same_place, conjuncts_hold, first_held}

-- a comparison whose sides change places
compares_turned : (op : Compare) (r : Ordering) → compares (turned op) (ordering_reverse r) ≡ compares op r
compares_turned compare.Equal r = elim r as (λ r. is_eq (ordering_reverse r) ≡ is_eq r) [ Less ↦ refl | Equal ↦ refl | Greater ↦ refl ]
compares_turned op r = grind arith

abbrev pub is_true_of : Value → Compare × Value → Bool
is_true_of x c = compares c.0 (value_cmp x c.1)

turned_true : (op : Compare) (x v : Value) → compares op (value_cmp v x) ≡ true → is_true_of x (turned op, v) ≡ true
turned_true op x v h = ap (compares (turned op)) (value_cmp_total.antisymm x v) ∙ compares_turned op (value_cmp v x) ∙ h

-- a value that an end on a side admits
abbrev pub meets : Side → Bound Value → Value → Bool
meets side (Included v) x = is_ge (toward side x v)
meets side (Excluded v) x = is_gt (toward side x v)
meets side Unbounded x = true

tied_ge : (r : Ordering) → is_eq r ≡ true → is_ge r ≡ true
tied_ge r e = grind arith

tied_ge_back : (r : Ordering) → is_eq r ≡ true → is_ge (ordering_reverse r) ≡ true
tied_ge_back r e = grind arith

-- the end of a comparison admits the values that satisfy it
end_meets : (side : Side) (op : Compare) (x v : Value) → compares op (value_cmp x v) ≡ true → meets side (end_of side op v) x ≡ true
end_meets Low compare.Equal x v h = tied_ge (value_cmp x v) h
end_meets High compare.Equal x v h = ap is_ge (value_cmp_total.antisymm v x) ∙ tied_ge_back (value_cmp x v) h
end_meets Low compare.GreaterEqual x v h = h
end_meets Low compare.Greater x v h = h
end_meets High compare.LessEqual x v h = ap is_ge (value_cmp_total.antisymm v x) ∙ compares_turned compare.LessEqual (value_cmp x v) ∙ h
end_meets High compare.Less x v h = ap is_gt (value_cmp_total.antisymm v x) ∙ compares_turned compare.Less (value_cmp x v) ∙ h
end_meets side op x v h = refl

narrower_meets : (side : Side) (a b : Bound Value) (x : Value) → meets side a x ≡ true → meets side b x ≡ true → meets side (narrower side a b) x ≡ true
narrower_meets side Unbounded b x h g = g
narrower_meets side (Included v) Unbounded x h g = h
narrower_meets side (Included v) (Included w) x h g = elim (is_lt (toward side v w)) as (λ c. meets side (if c then Included w else Included v) x ≡ true) [ true ↦ g | false ↦ h ]
narrower_meets side (Included v) (Excluded w) x h g = elim (is_gt (toward side v w)) as (λ c. meets side (if c then Included v else Excluded w) x ≡ true) [ true ↦ h | false ↦ g ]
narrower_meets side (Excluded v) Unbounded x h g = h
narrower_meets side (Excluded v) (Included w) x h g = elim (is_lt (toward side v w)) as (λ c. meets side (if c then Included w else Excluded v) x ≡ true) [ true ↦ g | false ↦ h ]
narrower_meets side (Excluded v) (Excluded w) x h g = elim (is_lt (toward side v w)) as (λ c. meets side (if c then Excluded w else Excluded v) x ≡ true) [ true ↦ g | false ↦ h ]

all_meet : (side : Side) (x : Value) (cs : List (Compare × Value)) (end : Bound Value) → list_all (is_true_of x) cs ≡ true → meets side end x ≡ true → meets side (fold (λ e c. narrower side e (end_of side c.0 c.1)) end cs) x ≡ true
all_meet side x [] end all h = h
all_meet side x (c ∷ cs) end all h =
    let parts = and_parts (is_true_of x c) (list_all (is_true_of x) cs) all in
    all_meet side x cs (narrower side end (end_of side c.0 c.1)) parts.1 (narrower_meets side end (end_of side c.0 c.1) x h (end_meets side c.0 x c.1 parts.0))

module _ (row : List Value) where
  -- a conjunct that is true makes true comparisons of a column
  comparisons_hold : (place : ℕ) (c : Cond ℕ) → holds_on (cell row) c ≡ true → list_all (is_true_of (cell row place)) (comparisons place c) ≡ true
  comparisons_hold place (compared op (column at) (literal v)) h = elim (cases_Bool (at == place)) [
    | inl same ↦ rw same (and_from _ _ (subst (λ n. compares op (value_cmp (cell row n) v) ≡ true) (same_place at place same) h) refl)
    | inr other ↦ rw other refl
  ]
  comparisons_hold place (compared op (literal v) (column at)) h = elim (cases_Bool (at == place)) [
    | inl same ↦ rw same (and_from _ _ (turned_true op (cell row place) v (subst (λ n. compares op (value_cmp v (cell row n)) ≡ true) (same_place at place same) h)) refl)
    | inr other ↦ rw other refl
  ]
  comparisons_hold place (between (column at) (literal low) (literal high)) h = elim (cases_Bool (at == place)) [
    | inl same ↦
        let here = subst (λ n. is_le (value_cmp low (cell row n)) && is_le (value_cmp (cell row n) high) ≡ true) (same_place at place same) h in
        let parts = and_parts _ _ here in
        rw same (and_from _ _ (turned_true compare.LessEqual (cell row place) low parts.0) (and_from _ _ parts.1 refl))
    | inr other ↦ rw other refl
  ]
  comparisons_hold place c h = refl

  all_hold : (place : ℕ) (cs : List (Cond ℕ)) → list_all (holds_on (cell row)) cs ≡ true → list_all (is_true_of (cell row place)) (flat_map (comparisons place) cs) ≡ true
  all_hold place [] h = refl
  all_hold place (c ∷ cs) h =
      let parts = and_parts (holds_on (cell row) c) (list_all (holds_on (cell row)) cs) h in
      list_all-append (is_true_of (cell row place)) (comparisons place c) (flat_map (comparisons place) cs)
      ∙ and_from _ _ (comparisons_hold place c parts.0) (all_hold place cs parts.1)

  -- so its columns' values are admitted by their ends
  column_meets : (side : Side) (place : ℕ) (c : Cond ℕ) → holds_on (cell row) c ≡ true → meets side (column_end side place c) (cell row place) ≡ true
  column_meets side place c h = all_meet side (cell row place) (flat_map (comparisons place) (conjuncts c)) Unbounded (all_hold place (conjuncts c) (conjuncts_hold row c h)) refl

-- a key that begins with the values of an end ties with it
front_ties : (front rest : List Value) → front_cmp (front ++ rest) front ≡ Equal
front_ties [] rest = refl
front_ties (w ∷ front) rest = rw (tied_itself value_cmp_total w) (front_ties front rest)

-- and beside an end with one more value, that value decides
next_decides : (front rest : List Value) (x v : Value) → front_cmp (front ++ x ∷ rest) (front ++ v ∷ []) ≡ value_cmp x v
next_decides [] rest x v = elim (value_cmp x v) as (λ r. ordering_then r Equal ≡ r) [ Less ↦ refl | Equal ↦ refl | Greater ↦ refl ]
next_decides (w ∷ front) rest x v = rw (tied_itself value_cmp_total w) (next_decides front rest x v)

ge_not_lt : (r : Ordering) → is_ge r ≡ true → not (is_lt r) ≡ true
ge_not_lt r e = grind arith

gt_not_le : (r : Ordering) → is_gt r ≡ true → not (is_le r) ≡ true
gt_not_le r e = grind arith

ge_not_gt_back : (r : Ordering) → is_ge r ≡ true → not (is_gt (ordering_reverse r)) ≡ true
ge_not_gt_back r e = grind arith

gt_not_ge_back : (r : Ordering) → is_gt r ≡ true → not (is_ge (ordering_reverse r)) ≡ true
gt_not_ge_back r e = grind arith

not_before : (front rest : List Value) (end : Bound Value) (x : Value) → meets Low end x ≡ true → not (is_before (end_behind front end) (front ++ x ∷ rest)) ≡ true
not_before front rest (Included v) x h = ap (λ r. not (is_lt r)) (next_decides front rest x v) ∙ ge_not_lt (value_cmp x v) h
not_before front rest (Excluded v) x h = ap (λ r. not (is_le r)) (next_decides front rest x v) ∙ gt_not_le (value_cmp x v) h
not_before [] rest Unbounded x h = refl
not_before (w ∷ front) rest Unbounded x h = ap (λ r. not (is_lt r)) (front_ties (w ∷ front) (x ∷ rest))

not_behind : (front rest : List Value) (end : Bound Value) (x : Value) → meets High end x ≡ true → not (is_behind (end_behind front end) (front ++ x ∷ rest)) ≡ true
not_behind front rest (Included v) x h = ap (λ r. not (is_gt r)) (next_decides front rest x v ∙ value_cmp_total.antisymm x v) ∙ ge_not_gt_back (value_cmp v x) h
not_behind front rest (Excluded v) x h = ap (λ r. not (is_ge r)) (next_decides front rest x v ∙ value_cmp_total.antisymm x v) ∙ gt_not_ge_back (value_cmp v x) h
not_behind [] rest Unbounded x h = refl
not_behind (w ∷ front) rest Unbounded x h = ap (λ r. not (is_gt r)) (front_ties (w ∷ front) (x ∷ rest))

module _ (row : List Value) (c : Cond ℕ) (h : holds_on (cell row) c ≡ true) where
  within_behind : (front : List Value) (places : List ℕ) → is_within (range_behind c front places) (front ++ cells places row) ≡ true
  within_behind front [] =
      let ties = front_ties front [] in
      and_from _ _ (ap (λ r. not (is_lt r)) ties) (ap (λ r. not (is_gt r)) ties)
  within_behind front (place ∷ places) =
      let open_range : KeyRange = record { low = end_behind front (column_end Low place c); high = end_behind front (column_end High place c) } in
      let x = cell row place in
      elim (column_fixed place c) as (λ o. column_fixed place c ≡ o → is_within (unwrap_or (option_map (λ v. range_behind c (front ++ v ∷ []) places) o) open_range) (front ++ x ∷ cells places row) ≡ true) [
        | Some v ↦ λ is.
            let same : x ≡ v = first_held row place (conjuncts c) v is (conjuncts_hold row c h) in
            subst (λ (key : List Value). is_within (range_behind c (front ++ v ∷ []) places) key ≡ true) (append_assoc front (v ∷ []) (cells places row) ∙ ap (λ w. front ++ w ∷ cells places row) (sym same)) (within_behind (front ++ v ∷ []) places)
        | None ↦ λ is.
            and_from _ _ (not_before front (cells places row) (column_end Low place c) x (column_meets row Low place c h)) (not_behind front (cells places row) (column_end High place c) x (column_meets row High place c h))
      ] refl

-- the row's key is in the range
pub key_within : (table : Table) (c : Cond ℕ) (row : List Value) → holds_on (cell row) c ≡ true → is_within (key_range_of table c) (key_of table row) ≡ true
key_within table c row h = within_behind row c h [] table.key
