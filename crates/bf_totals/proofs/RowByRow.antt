-- Totals row by row are the totals of all rows.
use Rattle.std.proofs.Common.{◌≡◌, refl, ℕ, ◌+◌, ◌<◌, ◌^◌, pos, ◌+ℤ◌, List, [], ◌∷◌, ◌++◌, map, fold, length, zero, suc, arith, subst, sym, ap, ◌∙◌, get_or, take, Some}
use Rattle.std.specs.List.{reduce, flat_map, All}
use Rattle.std.proofs.lemmas.List.{length_push, map_push, map_more}
use Rattle.std.proofs.lemmas.List.Folds.{flat_map-map}
use Rattle.bf_base.specs.declared.value.Value.{Value}
use Rattle.bf_base.specs.Tables.{cell}
use Rattle.bf_tree.specs.Trees.{Expr}
use Rattle.bf_tree.specs.Evaluation.{sure_value, number_of}
use Rattle.bf_tree.specs.declared.items.Aggregate.{Aggregate}
use Rattle.bf_tree.specs.declared.items.Aggregate.TheVariants.{Count, Sum, Min, Max}
use Rattle.bf_tree.specs.ValueObjections.{argument_objections, sum_objections}
use Rattle.bf_tree.specs.Totals.{lesser, greater, values_of, total_of}
use Rattle.bf_tree.proofs.Steps.{map_map}
use Rattle.bf_totals.specs.RunningTotals.{RunningTotal, running_total_after, advanced, picked, row_objections, end_objections, total_cell, IsCountable}

fold_push : {A B : Type 0} (f : B → A → B) (b : B) (xs : List A) (x : A) → fold f b (xs ++ x ∷ []) ≡ f (fold f b xs) x
fold_push f b [] x = refl
fold_push f b (y ∷ xs) x = fold_push f (f b y) xs x

reduce_push : (pick : Value → Value → Value) (xs : List Value) (x : Value) → reduce pick (xs ++ x ∷ []) ≡ Some (picked pick (reduce pick xs) x)
reduce_push pick [] x = refl
reduce_push pick (y ∷ xs) x = rw (fold_push pick y xs x)

module _ (rows : List (List Value)) (row : List Value) where
  values_push : (e : Expr (ℕ)) → values_of cell (rows ++ row ∷ []) e ≡ values_of cell rows e ++ sure_value (cell row) e ∷ []
  values_push e = map_push (λ r. sure_value (cell r) e) rows row

  advanced-running_total_after : (t : Aggregate (Expr (ℕ))) → advanced row (running_total_after rows t) ≡ running_total_after (rows ++ row ∷ []) t
  advanced-running_total_after Count = rw (length_push rows row)
  advanced-running_total_after (Sum e) = rw (length_push rows row, values_push e, fold_push (λ sum v. sum +ℤ number_of v) (pos 0) (values_of cell rows e) (sure_value (cell row) e))
  advanced-running_total_after (Min e) = rw (values_push e, reduce_push lesser (values_of cell rows e) (sure_value (cell row) e))
  advanced-running_total_after (Max e) = rw (values_push e, reduce_push greater (values_of cell rows e) (sure_value (cell row) e))

  row_objections-running_total_after : (t : Aggregate (Expr (ℕ))) → row_objections row (running_total_after rows t) ≡ argument_objections cell row t
  row_objections-running_total_after Count = refl
  row_objections-running_total_after (Sum e) = refl
  row_objections-running_total_after (Min e) = refl
  row_objections-running_total_after (Max e) = refl

module _ (rows : List (List Value)) where
  end_objections-running_total_after : (t : Aggregate (Expr (ℕ))) → end_objections (running_total_after rows t) ≡ sum_objections cell rows t
  end_objections-running_total_after Count = refl
  end_objections-running_total_after (Sum e) = refl
  end_objections-running_total_after (Min e) = refl
  end_objections-running_total_after (Max e) = refl

total_cell-running_total_after : (rows : List (List Value)) (t : Aggregate (Expr (ℕ))) → total_cell (running_total_after rows t) ≡ total_of cell rows t
total_cell-running_total_after rows Count = refl
total_cell-running_total_after [] (Sum e) = refl
total_cell-running_total_after (row ∷ rows) (Sum e) = refl
total_cell-running_total_after rows (Min e) = refl
total_cell-running_total_after rows (Max e) = refl

running_total_after-IsCountable : (rows : List (List Value)) → length rows < 2 ^ 63 → (t : Aggregate (Expr (ℕ))) → IsCountable (running_total_after rows t)
running_total_after-IsCountable rows few Count = few
running_total_after-IsCountable rows few (Sum e) = few
running_total_after-IsCountable rows few (Min e) = tt
running_total_after-IsCountable rows few (Max e) = tt

flat_map-same : {X Y : Type 0} (f g : X → List Y) → ((x : X) → f x ≡ g x) → (xs : List X) → flat_map f xs ≡ flat_map g xs
flat_map-same f g same [] = refl
flat_map-same f g same (x ∷ xs) = rw (same x, flat_map-same f g same xs)

map-same : {X Y : Type 0} (f g : X → Y) → ((x : X) → f x ≡ g x) → (xs : List X) → map f xs ≡ map g xs
map-same f g same [] = refl
map-same f g same (x ∷ xs) = rw (same x, map-same f g same xs)

All-of_map : {X Y : Type 0} (P : Y → Type 0) (f : X → Y) → ((x : X) → P (f x)) → (xs : List X) → All P (map f xs)
All-of_map P f each [] k d lt = absurd (omega arith)
All-of_map P f each (x ∷ xs) zero d lt = each x
All-of_map P f each (x ∷ xs) (suc k) d lt = All-of_map P f each xs k d (omega arith)

-- totals of which some rows are known
module _ (rows : List (List Value)) (totals : List (Aggregate (Expr (ℕ)))) (running : List RunningTotal) (are : running ≡ map (running_total_after rows) totals) where
  pub all_countable : length rows < 2 ^ 63 → All IsCountable running
  all_countable few = subst (λ (ss : List RunningTotal). All IsCountable ss) (sym are) (All-of_map IsCountable (running_total_after rows) (running_total_after-IsCountable rows few) totals)

  pub all_advanced : (row : List Value) → map (advanced row) running ≡ map (running_total_after (rows ++ row ∷ [])) totals
  all_advanced row = rw (are, map_map (advanced row) (running_total_after rows) totals) (map-same _ _ (advanced-running_total_after rows row) totals)

  pub all_row_objections : (row : List Value) → flat_map (row_objections row) running ≡ flat_map (argument_objections cell row) totals
  all_row_objections row = rw (are, flat_map-map (row_objections row) (running_total_after rows) totals) (flat_map-same _ _ (row_objections-running_total_after rows row) totals)

  pub all_end_objections : flat_map end_objections running ≡ flat_map (sum_objections cell rows) totals
  all_end_objections = rw (are, flat_map-map end_objections (running_total_after rows) totals) (flat_map-same _ _ (end_objections-running_total_after rows) totals)

  pub all_cells : map total_cell running ≡ map (total_of cell rows) totals
  all_cells = rw (are, map_map total_cell (running_total_after rows) totals) (map-same _ _ (total_cell-running_total_after rows) totals)

-- totals after one more row, which v reads of an item
pub next_after : {X : Type 0} (v : X → List Value) (xs : List X) (i : ℕ) (x : X) → i < length xs → x ≡ get_or xs i x → (totals : List (Aggregate (Expr (ℕ)))) (before after : List RunningTotal) →
    before ≡ map (running_total_after (map v (take i xs))) totals → after ≡ map (advanced (v x)) before → after ≡ map (running_total_after (map v (take (i + 1) xs))) totals
next_after v xs i x lt is totals before after are next =
    let sofar = map v (take i xs) in
    let more : map v (take (i + 1) xs) ≡ sofar ++ v x ∷ [] = map_more v xs i x lt ∙ ap (λ y. sofar ++ v y ∷ []) (sym is) in
    rw more (next ∙ all_advanced sofar totals before are (v x))
