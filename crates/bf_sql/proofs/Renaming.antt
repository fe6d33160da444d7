-- Queries over places in a row mean what they mean over columns that stand for those places.
use Rattle.std.proofs.Common.{◌≡◌, ℕ, List, [], ◌∷◌, ◌++◌, map, fold, filter, refl, ap, ap₂, ◌∙◌}
use Rattle.std.specs.Prelude.{flat_map, pos, slice_set, not}
use Rattle.std.specs.Result.{result_unwrap_or}
use Rattle.std.specs.List.{reduce}
use Rattle.std.proofs.Math.Path.{fun_ext}
use Rattle.std.proofs.lemmas.List.Folds.{flat_map-map, fold-map}
use Rattle.std.proofs.lemmas.Simd.{map-map}
use Rattle.bf_base.specs.declared.value.Value.{Value}
use Rattle.bf_base.specs.declared.value.Value.TheVariants.{Int}
use Rattle.bf_base.specs.declared.table.Admit.{Admit}
use Rattle.bf_base.specs.Lists.{when}
use Rattle.bf_base.specs.Tables.{cell}
use Rattle.bf_base.specs.Limits.{is_int}
use Rattle.bf_tree.specs.Trees.{Expr, Cond, expr_over, cond_over}
use Rattle.bf_tree.specs.Evaluation.{value_of, sure_value}
use Rattle.bf_tree.proofs.Renamed.{value_of-expr_over, holds_on-cond_over}
use Rattle.bf_tree.specs.declared.items.Aggregate.{Aggregate}
use Rattle.bf_tree.specs.declared.items.Aggregate.TheVariants.{Count, Sum, Min, Max}
use Rattle.bf_tree.specs.declared.items.Items.{Items}
use Rattle.bf_tree.specs.declared.items.Items.TheVariants.{All, Exprs, Aggregates}
use Rattle.bf_tree.specs.declared.reply.Cell.TheVariants as cells
use Rattle.bf_tree.specs.declared.reply.Refusal.{Refusal}
use Rattle.bf_tree.specs.declared.reply.Refusal.TheVariants.{OutOfRange}
use Rattle.bf_sql.specs.Bound.{total_over, items_over}
use Rattle.bf_sql.specs.Queries.{selected, answer_of, changed}
use Rattle.bf_sql.specs.RowObjections.{unfit_objections, change_objections}
use Rattle.bf_tree.specs.ValueObjections.{value_objections, argument_objections, sum_objections, answer_objections}
use Rattle.bf_tree.specs.Totals.{lesser, greater, or_null, exact_sum, sum_of, values_of, total_of}

module _ {R : Type 0} (to : R → ℕ) where
  -- a row's value of a column
  abbrev pub read : List Value → R → Value
  read row r = cell row (to r)

  sure_value-over : (row : List Value) (e : Expr R) → sure_value (cell row) (expr_over to e) ≡ sure_value (read row) e
  sure_value-over row e = ap (λ v. result_unwrap_or v (Int (pos 0))) (value_of-expr_over (cell row) to e)

  objections-over : (row : List Value) (e : Expr R) → value_objections (value_of (cell row) (expr_over to e)) ≡ value_objections (value_of (read row) e)
  objections-over row e = ap value_objections (value_of-expr_over (cell row) to e)

  pub selected-over : (c : Cond R) (rows : List (List Value)) → selected cell (cond_over to c) rows ≡ selected read c rows
  selected-over c rows = ap (λ test. filter test rows) (fun_ext (λ row. holds_on-cond_over (cell row) to c))

  values_of-over : (rows : List (List Value)) (e : Expr R) → values_of cell rows (expr_over to e) ≡ values_of read rows e
  values_of-over rows e = ap (λ f. map f rows) (fun_ext (λ row. sure_value-over row e))

  total_of-over : (rows : List (List Value)) (t : Aggregate (Expr R)) → total_of cell rows (total_over to t) ≡ total_of read rows t
  total_of-over rows Count = refl
  total_of-over rows (Sum e) = ap (λ vs. or_null (sum_of vs)) (values_of-over rows e)
  total_of-over rows (Min e) = ap (λ vs. or_null (reduce lesser vs)) (values_of-over rows e)
  total_of-over rows (Max e) = ap (λ vs. or_null (reduce greater vs)) (values_of-over rows e)

  argument_objections-over : (row : List Value) (t : Aggregate (Expr R)) → argument_objections cell row (total_over to t) ≡ argument_objections read row t
  argument_objections-over row Count = refl
  argument_objections-over row (Sum e) = objections-over row e
  argument_objections-over row (Min e) = objections-over row e
  argument_objections-over row (Max e) = objections-over row e

  sum_objections-over : (rows : List (List Value)) (t : Aggregate (Expr R)) → sum_objections cell rows (total_over to t) ≡ sum_objections read rows t
  sum_objections-over rows Count = refl
  sum_objections-over rows (Sum e) = ap (λ vs. when (not (is_int (exact_sum vs))) OutOfRange) (values_of-over rows e)
  sum_objections-over rows (Min e) = refl
  sum_objections-over rows (Max e) = refl

  -- over renamed items
  flat_map-over : {X Y Z : Type 0} (name : X → Y) (f : Y → List Z) (g : X → List Z) → ((x : X) → f (name x) ≡ g x) → (xs : List X) → flat_map f (map name xs) ≡ flat_map g xs
  flat_map-over name f g same xs = flat_map-map f name xs ∙ ap (λ h. flat_map h xs) (fun_ext same)

  map-over : {X Y Z : Type 0} (name : X → Y) (f : Y → Z) (g : X → Z) → ((x : X) → f (name x) ≡ g x) → (xs : List X) → map f (map name xs) ≡ map g xs
  map-over name f g same xs = map-map f name xs ∙ ap (λ h. map h xs) (fun_ext same)

  pub answer_objections-over : (items : Items (Expr R)) (rows : List (List Value)) → answer_objections cell (items_over to items) rows ≡ answer_objections read items rows
  answer_objections-over All rows = refl
  answer_objections-over (Exprs exprs) rows =
      ap (λ f. flat_map f rows) (fun_ext (λ row. flat_map-over (expr_over to) (λ e. value_objections (value_of (cell row) e)) (λ e. value_objections (value_of (read row) e)) (objections-over row) exprs))
  answer_objections-over (Aggregates totals) rows =
      ap₂ (λ (xs ys : List Refusal). xs ++ ys)
      (ap (λ f. flat_map f rows) (fun_ext (λ row. flat_map-over (total_over to) (argument_objections cell row) (argument_objections read row) (argument_objections-over row) totals)))
      (flat_map-over (total_over to) (sum_objections cell rows) (sum_objections read rows) (sum_objections-over rows) totals)

  pub answer_of-over : (items : Items (Expr R)) (rows : List (List Value)) → answer_of cell (items_over to items) rows ≡ answer_of read items rows
  answer_of-over All rows = refl
  answer_of-over (Exprs exprs) rows =
      ap (λ f. map f rows) (fun_ext (λ row. map-over (expr_over to) (λ e. cells.Value (sure_value (cell row) e)) (λ e. cells.Value (sure_value (read row) e)) (λ e. ap cells.Value (sure_value-over row e)) exprs))
  answer_of-over (Aggregates totals) rows = ap (λ cs. cs ∷ []) (map-over (total_over to) (total_of cell rows) (total_of read rows) (total_of-over rows) totals)

  -- sets of columns that are named otherwise still
  module _ {C : Type 0} (place : C → ℕ) where
    abbrev pub set_over : C × Expr R → ℕ × Expr ℕ
    set_over set = (place set.0, expr_over to set.1)

    pub changed-over : (sets : List (C × Expr R)) (row : List Value) → changed cell (λ place. place) (map set_over sets) row ≡ changed read place sets row
    changed-over sets row =
        fold-map (λ (new : List Value) (set : ℕ × Expr ℕ). slice_set new set.0 (sure_value (cell row) set.1)) set_over row sets
        ∙ ap (λ (f : List Value → C × Expr R → List Value). fold f row sets) (fun_ext (λ new. fun_ext (λ set. ap (slice_set new (place set.0)) (sure_value-over row set.1))))

    pub change_objections-over : (admit : ℕ → Admit) (admit' : C → Admit) → ((c : C) → admit (place c) ≡ admit' c) → (sets : List (C × Expr R)) (row : List Value)
        → change_objections cell admit (map set_over sets) row ≡ change_objections read admit' sets row
    change_objections-over admit admit' same sets row =
        flat_map-over set_over (λ set. value_objections (value_of (cell row) set.1) ++ unfit_objections (admit set.0) (sure_value (cell row) set.1))
        (λ set. value_objections (value_of (read row) set.1) ++ unfit_objections (admit' set.0) (sure_value (read row) set.1))
        (λ set. ap₂ (λ (xs ys : List Refusal). xs ++ ys) (objections-over row set.1) (ap₂ unfit_objections (same set.0) (sure_value-over row set.1))) sets
