-- A total over rows lies within its span, and the rows have no objection to one whose extent is not beyond.
use Rattle.std.proofs.Common.{◌≡◌, ℕ, ◌≤◌, ℤ, pos, ◌*ℤ◌, ◌≤ℤ◌, int_le, nat_le, Bool, true, false, not, ◌&&◌, if◌then◌else◌, List, [], ◌∷◌, ◌++◌, flat_map, length, fold, Result, Ok, Err, refl, sym, ap, ◌∙◌, arith}
use Rattle.std.specs.Int.{int_min, int_max}
use Rattle.std.specs.List.{list_all, AllByRecursion}
use Rattle.std.specs.Ordering.{is_lt}
use Rattle.std.specs.Result.{result_unwrap_or}
use Rattle.std.proofs.lemmas.Bool.{and_parts, and_from, false≢true}
use Rattle.std.proofs.lemmas.Bool.Decides.{nat_tests}
use Rattle.std.proofs.lemmas.Int.{ints, clamps}
use Rattle.std.proofs.lemmas.List.{length-map}
use Rattle.bf_base.specs.declared.value.Value.{Value}
use Rattle.bf_base.specs.declared.value.Value.TheVariants.{Int}
use Rattle.bf_base.specs.declared.table.Admit.{Admit}
use Rattle.bf_base.specs.Lists.{when}
use Rattle.bf_base.specs.Values.{value_cmp}
use Rattle.bf_base.specs.Limits.{is_int, least_int, greatest_int, most_rows}
use Rattle.bf_tree.specs.declared.evaluation.Fail.{Fail}
use Rattle.bf_tree.specs.Trees.{Expr}
use Rattle.bf_tree.specs.Evaluation.{value_of, sure_value}
use Rattle.bf_tree.specs.declared.items.Aggregate.{Aggregate}
use Rattle.bf_tree.specs.declared.items.Aggregate.TheVariants.{Count, Sum, Min, Max}
use Rattle.bf_tree.specs.declared.reply.Refusal.{Refusal}
use Rattle.bf_tree.specs.declared.reply.Refusal.TheVariants.{OutOfRange}
use Rattle.bf_tree.specs.ValueObjections.{value_objections, argument_objections, sum_objections}
use Rattle.bf_tree.specs.Totals.{lesser, greater, or_null, exact_sum, sum_of, values_of, total_of}
use Rattle.bf_sql.specs.migrations.Extents.{Extent, numbers, texts, beyond, extent_summed, extent_of, extent_of_total, may_fail}
use Rattle.bf_sql.specs.migrations.Within.{is_within, is_held, cell_within, spanned, span_of_total}
use Rattle.bf_sql.proofs.extents.Order.{tells, tests}
use Rattle.bf_sql.proofs.extents.Sums.{sum_between, times_between, times_from_none}
use Rattle.bf_sql.proofs.extents.Within.{gives_within, value_given}

pub sure_within : (e : Extent) (r : Result Value Fail) → gives_within e r ≡ true → is_within e (result_unwrap_or r (Int (pos 0))) ≡ true
sure_within e (Ok v) h = h
sure_within (numbers a b) (Err f) h = absurd (false≢true h)
sure_within (texts m) (Err f) h = absurd (false≢true h)
sure_within beyond (Err f) h = refl

unobjected : (e : Extent) (r : Result Value Fail) → gives_within e r ≡ true → may_fail e ≡ false → value_objections r ≡ []
unobjected e (Ok v) h safe = refl
unobjected (numbers a b) (Err f) h safe = absurd (false≢true h)
unobjected (texts m) (Err f) h safe = absurd (false≢true h)
unobjected beyond (Err f) h safe = absurd (false≢true (sym safe))

-- the lesser and the greater of two values are one of them
lesser_within : (e : Extent) (a b : Value) → is_within e a ≡ true → is_within e b ≡ true → is_within e (lesser a b) ≡ true
lesser_within e a b p q = of (is_lt (value_cmp b a))
  where
    of : (c : Bool) → is_within e (if c then b else a) ≡ true
    of true = q
    of false = p

greater_within : (e : Extent) (a b : Value) → is_within e a ≡ true → is_within e b ≡ true → is_within e (greater a b) ≡ true
greater_within e a b p q = of (is_lt (value_cmp a b))
  where
    of : (c : Bool) → is_within e (if c then b else a) ≡ true
    of true = q
    of false = p

folded_within : (e : Extent) (f : Value → Value → Value) → ((a b : Value) → is_within e a ≡ true → is_within e b ≡ true → is_within e (f a b) ≡ true)
    → (v : Value) (vs : List Value) → is_within e v ≡ true → list_all (is_within e) vs ≡ true → is_within e (fold f v vs) ≡ true
folded_within e f keeps v [] p all = p
folded_within e f keeps v (w ∷ vs) p all =
    let each = and_parts (is_within e w) (list_all (is_within e) vs) all in
    folded_within e f keeps (f v w) vs (keeps v w p each.0) each.1

-- a sum of some values, and at most as many as there may be rows
sum_within : (low high : ℤ) (b : Bool) (v : Value) (vs : List Value) → list_all (is_within (numbers low high)) (v ∷ vs) ≡ true → length (v ∷ vs) ≤ most_rows
    → is_within (spanned (numbers low high) (if b then numbers (pos most_rows *ℤ low) (pos most_rows *ℤ high) else beyond)) (Int (exact_sum (v ∷ vs))) ≡ true
sum_within low high false v vs all few = refl
sum_within low high true v vs all few =
    let sum = sum_between low high (v ∷ vs) all in
    let least = (times_between (length (v ∷ vs)) most_rows low (omega arith) few).0 in
    let greatest = (times_between (length (v ∷ vs)) most_rows high (omega arith) few).1 in
    let low_end = sum.0 in
    let high_end = sum.1 in
    and_from _ _
    (tests (int_min low (pos most_rows *ℤ low)) (exact_sum (v ∷ vs)) (omega (arith, ints)))
    (tests (exact_sum (v ∷ vs)) (int_max high (pos most_rows *ℤ high)) (omega (arith, ints)))

summed_within : (e : Extent) (vs : List Value) → list_all (is_within e) vs ≡ true → length vs ≤ most_rows → cell_within (spanned e (extent_summed e)) (or_null (sum_of vs)) ≡ true
summed_within e [] all few = refl
summed_within (numbers low high) (v ∷ vs) all few = sum_within low high (is_int (pos most_rows *ℤ low) && is_int (pos most_rows *ℤ high)) v vs all few
summed_within (texts m) (v ∷ vs) all few = refl
summed_within beyond (v ∷ vs) all few = refl

-- a sum is an INT where the most rows' sums of the ends are
int_between : (n low high : ℤ) → is_int low ≡ true → is_int high ≡ true → int_min (pos 0) low ≤ℤ n → n ≤ℤ int_max (pos 0) high → is_int n ≡ true
int_between n low high p q f g =
    let least = tells least_int low (and_parts (int_le least_int low) (int_le low greatest_int) p).0 in
    let greatest = tells high greatest_int (and_parts (int_le least_int high) (int_le high greatest_int) q).1 in
    and_from _ _ (tests least_int n (omega (arith, ints, clamps))) (tests n greatest_int (omega (arith, ints, clamps)))

sum_is_int : (e : Extent) (vs : List Value) → list_all (is_within e) vs ≡ true → length vs ≤ most_rows → may_fail (extent_summed e) ≡ false → is_int (exact_sum vs) ≡ true
sum_is_int (texts m) vs all few safe = absurd (false≢true (sym safe))
sum_is_int beyond vs all few safe = absurd (false≢true (sym safe))
sum_is_int (numbers low high) vs all few safe = of (is_int (pos most_rows *ℤ low) && is_int (pos most_rows *ℤ high)) refl safe
  where
    of : (b : Bool) → (is_int (pos most_rows *ℤ low) && is_int (pos most_rows *ℤ high)) ≡ b
        → may_fail (if b then numbers (pos most_rows *ℤ low) (pos most_rows *ℤ high) else beyond) ≡ false → is_int (exact_sum vs) ≡ true
    of false e safe = absurd (false≢true (sym safe))
    of true e safe =
        let ends = and_parts (is_int (pos most_rows *ℤ low)) (is_int (pos most_rows *ℤ high)) e in
        let sum = sum_between low high vs all in
        let least = (times_from_none (length vs) most_rows low few).0 in
        let greatest = (times_from_none (length vs) most_rows high few).1 in
        let low_end = sum.0 in
        let high_end = sum.1 in
        int_between (exact_sum vs) (pos most_rows *ℤ low) (pos most_rows *ℤ high) ends.0 ends.1 (omega (arith, ints)) (omega (arith, ints))

none_of : {X : Type 0} (f : X → List Refusal) (xs : List X) → AllByRecursion (λ x. f x ≡ []) xs → flat_map f xs ≡ []
none_of f [] each = refl
none_of f (x ∷ xs) each = ap (λ first. first ++ flat_map f xs) each.0 ∙ none_of f xs each.1

module _ {R : Type 0} (admitted : R → Admit) (read : List Value → R → Value) where
  -- what is read of a row is what is admitted
  abbrev pub IsRead : List Value → Type 0
  IsRead row = (r : R) → is_held (admitted r) (read row r) ≡ true

  values_within : (e : Expr R) (rows : List (List Value)) → AllByRecursion IsRead rows → list_all (is_within (extent_of admitted e)) (values_of read rows e) ≡ true
  values_within e [] each = refl
  values_within e (row ∷ rows) each =
      and_from _ _ (sure_within (extent_of admitted e) (value_of (read row) e) (value_given admitted (read row) each.0 e)) (values_within e rows each.1)

  least_within : (e : Expr R) (rows : List (List Value)) → AllByRecursion IsRead rows → cell_within (extent_of admitted e) (total_of read rows (Min e)) ≡ true
  least_within e [] each = refl
  least_within e (row ∷ rows) each =
      let all = and_parts (is_within (extent_of admitted e) (sure_value (read row) e)) (list_all (is_within (extent_of admitted e)) (values_of read rows e)) (values_within e (row ∷ rows) each) in
      folded_within (extent_of admitted e) lesser (lesser_within (extent_of admitted e)) (sure_value (read row) e) (values_of read rows e) all.0 all.1

  greatest_within : (e : Expr R) (rows : List (List Value)) → AllByRecursion IsRead rows → cell_within (extent_of admitted e) (total_of read rows (Max e)) ≡ true
  greatest_within e [] each = refl
  greatest_within e (row ∷ rows) each =
      let all = and_parts (is_within (extent_of admitted e) (sure_value (read row) e)) (list_all (is_within (extent_of admitted e)) (values_of read rows e)) (values_within e (row ∷ rows) each) in
      folded_within (extent_of admitted e) greater (greater_within (extent_of admitted e)) (sure_value (read row) e) (values_of read rows e) all.0 all.1

  as_many : (e : Expr R) (rows : List (List Value)) → length rows ≤ most_rows → length (values_of read rows e) ≤ most_rows
  as_many e rows few = omega (arith, length-map rows (λ row. sure_value (read row) e))

  pub total_within : (rows : List (List Value)) → AllByRecursion IsRead rows → length rows ≤ most_rows → (total : Aggregate (Expr R))
      → cell_within (span_of_total admitted total) (total_of read rows total) ≡ true
  total_within rows each few Count = of (length rows) few
    where
      of : (n : ℕ) → n ≤ most_rows → (nat_le 0 n && nat_le n most_rows) ≡ true
      of n few = grind (arith, nat_tests)
  total_within rows each few (Sum e) = summed_within (extent_of admitted e) (values_of read rows e) (values_within e rows each) (as_many e rows few)
  total_within rows each few (Min e) = least_within e rows each
  total_within rows each few (Max e) = greatest_within e rows each

  values_unobjected : (e : Expr R) (rows : List (List Value)) → AllByRecursion IsRead rows → may_fail (extent_of admitted e) ≡ false
      → AllByRecursion (λ row. value_objections (value_of (read row) e) ≡ []) rows
  values_unobjected e [] each safe = tt
  values_unobjected e (row ∷ rows) each safe =
      (unobjected (extent_of admitted e) (value_of (read row) e) (value_given admitted (read row) each.0 e) safe, values_unobjected e rows each.1 safe)

  -- where a sum can't fail, nor can what is summed
  part_safe : (e : Extent) → may_fail (extent_summed e) ≡ false → may_fail e ≡ false
  part_safe (numbers low high) safe = refl
  part_safe (texts m) safe = absurd (false≢true (sym safe))
  part_safe beyond safe = absurd (false≢true (sym safe))

  abbrev objections : List (List Value) → Aggregate (Expr R) → List Refusal
  objections rows total = flat_map (λ row. argument_objections read row total) rows ++ sum_objections read rows total

  arguments_unobjected : (e : Expr R) (rows : List (List Value)) → AllByRecursion IsRead rows → may_fail (extent_of admitted e) ≡ false
      → flat_map (λ row. value_objections (value_of (read row) e)) rows ++ [] ≡ []
  arguments_unobjected e rows each safe =
      ap (λ first. first ++ []) (none_of (λ row. value_objections (value_of (read row) e)) rows (values_unobjected e rows each safe))

  counted : (rows : List (List Value)) → AllByRecursion {X = List Value} (λ row. argument_objections read row Count ≡ []) rows
  counted [] = tt
  counted (row ∷ rows) = (refl, counted rows)

  pub total_unobjected : (rows : List (List Value)) → AllByRecursion IsRead rows → length rows ≤ most_rows → (total : Aggregate (Expr R))
      → may_fail (extent_of_total admitted total) ≡ false → objections rows total ≡ []
  total_unobjected rows each few Count safe = ap (λ first. first ++ []) (none_of (λ row. argument_objections read row Count) rows (counted rows))
  total_unobjected rows each few (Sum e) safe =
      let sum = sum_is_int (extent_of admitted e) (values_of read rows e) (values_within e rows each) (as_many e rows few) safe in
      ap (λ b. flat_map (λ row. value_objections (value_of (read row) e)) rows ++ when (not b) OutOfRange) sum
      ∙ arguments_unobjected e rows each (part_safe (extent_of admitted e) safe)
  total_unobjected rows each few (Min e) safe = arguments_unobjected e rows each safe
  total_unobjected rows each few (Max e) safe = arguments_unobjected e rows each safe
