-- Rows that a table admits: tuples that nothing is objected to, and rows with sets that nothing is objected to.
use Rattle.std.proofs.Common.{◌≡◌, ℕ, zero, suc, Bool, true, false, not, cond, List, [], ◌∷◌, ◌++◌, map, fold, length, zip, refl, ap, ◌∙◌, ◌==◌}
use Rattle.std.specs.Prelude.{flat_map, slice_index_or, slice_set}
use Rattle.std.specs.List.{AllByRecursion, list_all}
use Rattle.std.proofs.lemmas.Bool.{and_parts, and_from, not-false}
use Rattle.std.proofs.lemmas.List.{length-set}
use Rattle.bf_base.specs.declared.value.Value.{Value}
use Rattle.bf_base.specs.declared.table.Admit.TheVariants as admits
use Rattle.bf_base.specs.declared.table.Column.{Column}
use Rattle.bf_base.specs.declared.table.Fit.{Fit}
use Rattle.bf_base.specs.declared.table.Fit.TheVariants.{Fits, WrongKind, OutOfRange, TooLong}
use Rattle.bf_base.specs.declared.table.Table.{Table}
use Rattle.bf_base.specs.Lists.{when, with_before_from}
use Rattle.bf_base.specs.Tables.{cell, fit_of}
use Rattle.bf_tree.specs.Trees.{Expr}
use Rattle.bf_tree.specs.Evaluation.{value_of, sure_value}
use Rattle.bf_tree.specs.declared.reply.Refusal.TheVariants as refusal
use Rattle.bf_sql.specs.Database.{is_admitted, is_fit}
use Rattle.bf_sql.specs.Objections.{tuple_objections}
use Rattle.bf_sql.specs.Queries.{changed}
use Rattle.bf_sql.specs.RowObjections.{fit_objections, unfit_objections, unfit_row_objections, taken_key_objections, change_objections}
use Rattle.bf_tree.specs.ValueObjections.{value_objections}
use Rattle.bf_live.specs.Replies.{admitted_at}
use Rattle.bf_live.proofs.querying.Effects.{nothing_before, not_when}
use Rattle.bf_live.proofs.querying.Inserting.{objections_to}

abbrev pub IsAdmitted : Table → List Value → Type 0
IsAdmitted table row = is_admitted table row ≡ true

-- each value fits its column
abbrev all_fit : List Column → List Value → Bool
all_fit columns row = list_all (λ p. is_fit (fit_of p.0.admits p.1)) (zip columns row)

abbrev is_counted : Table → List Value → Bool
is_counted table row = length row == length table.columns

admitted_if : (table : Table) (row : List Value) → is_counted table row ≡ true → all_fit table.columns row ≡ true
    → IsAdmitted table row
admitted_if table row counted fit = rw counted fit

both_if : (b c : Bool) → cond b c false ≡ true → (b ≡ true) × (c ≡ true)
both_if true c e = (refl, e)
both_if false c e = absurd cc

fits_where_none : (fit : Fit) → fit_objections fit ≡ [] → is_fit fit ≡ true
fits_where_none Fits e = refl
fits_where_none WrongKind e = absurd cc
fits_where_none OutOfRange e = absurd cc
fits_where_none TooLong e = absurd cc

-- TUPLES
all_fit_where_none : (columns : List Column) (tuple : List Value)
    → flat_map (λ p. unfit_objections p.0.admits p.1) (zip columns tuple) ≡ [] → all_fit columns tuple ≡ true
all_fit_where_none [] tuple none = refl
all_fit_where_none (c ∷ columns) [] none = refl
all_fit_where_none (c ∷ columns) (v ∷ tuple) none =
    let parts = nothing_before (unfit_objections c.admits v) (flat_map (λ p. unfit_objections p.0.admits p.1) (zip columns tuple)) none in
    and_from _ _ (fits_where_none (fit_of c.admits v) parts.0) (all_fit_where_none columns tuple parts.1)

tuple_admitted : (table : Table) (tuple : List Value) → tuple_objections table tuple ≡ []
    → unfit_row_objections table tuple ≡ [] → IsAdmitted table tuple
tuple_admitted table tuple none fit =
    let wrong = when (not (is_counted table tuple)) refusal.WrongCount in
    let counted = not-false _ (not_when _ _ (nothing_before wrong _ none).0) in
    admitted_if table tuple counted (all_fit_where_none table.columns tuple fit)

pub tuples_admitted : (table : Table) (rows seen tuples : List (List Value))
    → flat_map (tuple_objections table) tuples ≡ []
    → flat_map (objections_to table rows) (with_before_from seen tuples) ≡ []
    → AllByRecursion (IsAdmitted table) tuples
tuples_admitted table rows seen [] none new = tt
tuples_admitted table rows seen (tuple ∷ tuples) none new =
    let parts = nothing_before (tuple_objections table tuple) (flat_map (tuple_objections table) tuples) none in
    let news = nothing_before (objections_to table rows (seen, tuple)) _ new in
    let fit = nothing_before (unfit_row_objections table tuple) (taken_key_objections table (rows ++ seen) tuple) news.0 in
    (tuple_admitted table tuple parts.0 fit.0, tuples_admitted table rows (seen ++ tuple ∷ []) tuples parts.1 news.1)

-- SETS
-- a value that the column at a place admits, in that place
all_fit-set : (v : Value) (columns : List Column) (row : List Value) (place : ℕ)
    → is_fit (fit_of (slice_index_or (map (λ c. c.admits) columns) place admits.Int) v) ≡ true
    → all_fit columns row ≡ true → all_fit columns (slice_set row place v) ≡ true
all_fit-set v [] row place fits all = refl
all_fit-set v (c ∷ columns) [] place fits all = refl
all_fit-set v (c ∷ columns) (w ∷ row) zero fits all = and_from _ _ fits (and_parts (is_fit (fit_of c.admits w)) (all_fit columns row) all).1
all_fit-set v (c ∷ columns) (w ∷ row) (suc place) fits all =
    let parts = and_parts (is_fit (fit_of c.admits w)) (all_fit columns row) all in
    and_from _ _ parts.0 (all_fit-set v columns row place fits parts.1)

set_admitted : (table : Table) (row : List Value) (place : ℕ) (v : Value)
    → is_fit (fit_of (admitted_at table place) v) ≡ true → IsAdmitted table row
    → IsAdmitted table (slice_set row place v)
set_admitted table row place v fits is =
    let parts = both_if (is_counted table row) (all_fit table.columns row) is in
    let counted = ap (λ n. n == length table.columns) (length-set row place v) ∙ parts.0 in
    admitted_if table (slice_set row place v) counted (all_fit-set v table.columns row place fits parts.1)

module _ (table : Table) where
  sets_admitted : (row new : List Value) (sets : List (ℕ × Expr ℕ))
      → change_objections cell (admitted_at table) sets row ≡ [] → IsAdmitted table new
      → IsAdmitted table (fold (λ new set. slice_set new set.0 (sure_value (cell row) set.1)) new sets)
  sets_admitted row new [] none is = is
  sets_admitted row new (set ∷ sets) none is =
      let v = sure_value (cell row) set.1 in
      let failed = value_objections (value_of (cell row) set.1) in
      let parts = nothing_before (failed ++ unfit_objections (admitted_at table set.0) v) (change_objections cell (admitted_at table) sets row) none in
      let fits = fits_where_none (fit_of (admitted_at table set.0) v) (nothing_before failed (unfit_objections (admitted_at table set.0) v) parts.0).1 in
      sets_admitted row (slice_set new set.0 v) sets parts.1 (set_admitted table new set.0 v fits is)

  -- rows with sets
  pub changed_admitted : (sets : List (ℕ × Expr ℕ)) (rows : List (List Value))
      → flat_map (change_objections cell (admitted_at table) sets) rows ≡ [] → AllByRecursion (IsAdmitted table) rows
      → AllByRecursion (λ row. IsAdmitted table (changed cell (λ place. place) sets row)) rows
  changed_admitted sets [] none all = tt
  changed_admitted sets (row ∷ rows) none all =
      let parts = nothing_before (change_objections cell (admitted_at table) sets row) _ none in
      (sets_admitted row row sets parts.0 all.0, changed_admitted sets rows parts.1 all.1)
