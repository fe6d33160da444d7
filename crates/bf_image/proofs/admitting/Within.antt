-- A value fits the column that is made for its extent.
use Rattle.std.proofs.Common.{◌≡◌, ℕ, ◌≤◌, max, Bool, true, false, not, ◌&&◌, nat_le, int_le, if◌then◌else◌, List, ◌∷◌, ◌++◌, [], flat_map, fold, length, Result, Ok, Err, refl, sym, ap, arith}
use Rattle.std.specs.Prelude.{◌^◌, ℤ, pos, neg_ℤ, ◌+ℤ◌, ◌-ℤ◌, ◌*ℤ◌}
use Rattle.std.specs.List.{list_all, AllByRecursion}
use Rattle.std.specs.Result.{result_unwrap_or}
use Rattle.std.specs.Ordering.{is_lt}
use Rattle.std.proofs.lemmas.Bool.{and_parts, and_from, not-false, false≢true}
use Rattle.std.proofs.lemmas.Bool.Decides.{nat_tests}
use Rattle.std.proofs.lemmas.Int.{ints}
use Rattle.bf_base.specs.declared.value.Value.{Value}
use Rattle.bf_base.specs.declared.value.Value.TheVariants.{Int, Text}
use Rattle.bf_base.specs.declared.table.Admit.{Admit}
use Rattle.bf_base.specs.declared.table.Admit.TheVariants as admits
use Rattle.bf_base.specs.declared.table.Fit.TheVariants.{Fits, OutOfRange, TooLong}
use Rattle.bf_base.specs.Values.{value_cmp}
use Rattle.bf_base.specs.Tables.{fit_of}
use Rattle.bf_base.specs.Limits.{is_int, least_int, greatest_int, most_rows}
use Rattle.bf_tree.specs.declared.evaluation.Fail.{Fail}
use Rattle.bf_tree.specs.declared.evaluation.Fail.TheVariants as fail
use Rattle.bf_tree.specs.Trees.{Expr, literal, column, negated, plus, minus, times, joined}
use Rattle.bf_tree.specs.Evaluation.{◌>>=◌, number_of, bytes_of, exact, short, value_of, sure_value}
use Rattle.bf_tree.specs.declared.items.Aggregate.{Aggregate}
use Rattle.bf_tree.specs.declared.items.Aggregate.TheVariants.{Count, Sum, Min, Max}
use Rattle.bf_tree.specs.declared.reply.Refusal.TheVariants as refusal
use Rattle.bf_sql.specs.Database.{is_fit}
use Rattle.bf_tree.specs.ValueObjections.{argument_objections}
use Rattle.bf_sql.specs.migrations.Extents.{Extent, numbers, texts, beyond, extent_between, least_of, greatest_of, extent_negated, extent_plus, extent_minus, extent_times, extent_summed, extent_of, extent_of_total, may_fail, admit_of_extent}
use Rattle.bf_sql.specs.migrations.Images.{value_or_nought}
use Rattle.bf_tree.specs.Totals.{lesser, greater, exact_sum, values_of, total_of}
use Rattle.bf_sql.specs.migrations.Within.{is_within, is_held}
use Rattle.bf_sql.proofs.extents.Order.{tests}
use Rattle.bf_sql.proofs.extents.Within.{fits_where, value_given}
use Rattle.bf_sql.proofs.extents.Totals.{sure_within, total_unobjected}
use Rattle.bf_image.proofs.items.Lists.{none_right, none_when}

abbrev pub fits : Admit → Value → Bool
fits a v = is_fit (fit_of a v)

abbrev pub is_numeric : Extent → Bool
is_numeric (numbers low high) = true
is_numeric (texts most) = false
is_numeric beyond = true

pub between_numeric : (low high : ℤ) → is_numeric (extent_between low high) ≡ true
between_numeric low high = of (is_int low && is_int high)
  where
    of : (b : Bool) → is_numeric (if b then numbers low high else beyond) ≡ true
    of true = refl
    of false = refl

pub negated_numeric : (e : Extent) → is_numeric (extent_negated e) ≡ true
negated_numeric (numbers a b) = between_numeric (neg_ℤ b) (neg_ℤ a)
negated_numeric (texts m) = refl
negated_numeric beyond = refl

pub plus_numeric : (e f : Extent) → is_numeric (extent_plus e f) ≡ true
plus_numeric (numbers a b) (numbers c d) = between_numeric (a +ℤ c) (b +ℤ d)
plus_numeric (numbers a b) (texts n) = refl
plus_numeric (numbers a b) beyond = refl
plus_numeric (texts m) f = refl
plus_numeric beyond f = refl

pub minus_numeric : (e f : Extent) → is_numeric (extent_minus e f) ≡ true
minus_numeric (numbers a b) (numbers c d) = between_numeric (a -ℤ d) (b -ℤ c)
minus_numeric (numbers a b) (texts n) = refl
minus_numeric (numbers a b) beyond = refl
minus_numeric (texts m) f = refl
minus_numeric beyond f = refl

pub times_numeric : (e f : Extent) → is_numeric (extent_times e f) ≡ true
times_numeric (numbers a b) (numbers c d) = between_numeric (least_of (a *ℤ c) (a *ℤ d) (b *ℤ c) (b *ℤ d)) (greatest_of (a *ℤ c) (a *ℤ d) (b *ℤ c) (b *ℤ d))
times_numeric (numbers a b) (texts n) = refl
times_numeric (numbers a b) beyond = refl
times_numeric (texts m) f = refl
times_numeric beyond f = refl

pub summed_numeric : (e : Extent) → is_numeric (extent_summed e) ≡ true
summed_numeric (numbers a b) = between_numeric (pos (2 ^ 20) *ℤ a) (pos (2 ^ 20) *ℤ b)
summed_numeric (texts m) = refl
summed_numeric beyond = refl

int_fits : (n : ℤ) → is_int n ≡ true → fits admits.Int (Int n) ≡ true
int_fits n e = ap (λ b. is_fit (if b then Fits else OutOfRange)) e

-- a number that a column admits is an INT
pub held_int : (a : Admit) (v : Value) → fits a v ≡ true → is_int (number_of v) ≡ true
held_int admits.Int (Int n) e = fits_where (is_int n) OutOfRange refl e
held_int (admits.Checked low high) (Int n) e =
    let ends = and_parts (is_int n && int_le low n) (int_le n high) (fits_where (is_int n && int_le low n && int_le n high) OutOfRange refl e) in
    (and_parts (is_int n) (int_le low n) ends.0).0
held_int (admits.Varchar m) (Int n) e = absurd (false≢true e)
held_int admits.Int (Text t) e = refl
held_int (admits.Checked low high) (Text t) e = refl
held_int (admits.Varchar m) (Text t) e = refl

-- so a column without a check admits it too
pub unchecked_fits : (a : Admit) (n : ℤ) → fits a (Int n) ≡ true → fits admits.Int (Int n) ≡ true
unchecked_fits a n e = int_fits n (held_int a (Int n) e)

-- the numbers among results are INTs
abbrev int_given : Result Value Fail → Bool
int_given (Ok v) = is_int (number_of v)
int_given (Err f) = true

exact_int : (n : ℤ) → int_given (exact n) ≡ true
exact_int n = of (is_int n) refl
  where
    of : (b : Bool) → is_int n ≡ b → int_given (if b then Ok (Int n) else Err fail.OutOfRange) ≡ true
    of true e = e
    of false e = refl

short_int : (t : List ℕ) → int_given (short t) ≡ true
short_int t = of (nat_le (length t) 255)
  where
    of : (b : Bool) → int_given (if b then Ok (Text t) else Err fail.TooLong) ≡ true
    of true = refl
    of false = refl

then_int : (r : Result Value Fail) (f : Value → Result Value Fail) → ((v : Value) → int_given (f v) ≡ true) → int_given (r >>= f) ≡ true
then_int (Ok v) f each = each v
then_int (Err g) f each = refl

two_int : (r s : Result Value Fail) (f : Value → Value → Result Value Fail) → ((x y : Value) → int_given (f x y) ≡ true) → int_given (r >>= (λ x. s >>= (λ y. f x y))) ≡ true
two_int r s f each = then_int r (λ x. s >>= (λ y. f x y)) (λ x. then_int s (λ y. f x y) (each x))

sure_int : (r : Result Value Fail) → int_given r ≡ true → is_int (number_of (result_unwrap_or r (Int (pos 0)))) ≡ true
sure_int (Ok v) e = e
sure_int (Err f) e = refl

literal_int : (n : ℤ) → may_fail (extent_between n n) ≡ false → is_int n ≡ true
literal_int n safe = of (is_int n) safe
  where
    of : (b : Bool) → may_fail (if b && b then numbers n n else beyond) ≡ false → b ≡ true
    of true safe = refl
    of false safe = absurd (false≢true (sym safe))

-- a column made for an extent takes an INT or a text within it
made_fits : (e : Extent) (v : Value) → may_fail e ≡ false → is_within e v ≡ true → is_int (number_of v) ≡ true → fits (admit_of_extent e) v ≡ true
made_fits (numbers a b) (Int n) safe h int = int_fits n int
made_fits (numbers a b) (Text t) safe h int = absurd (false≢true h)
made_fits (texts m) (Int n) safe h int = absurd (false≢true h)
made_fits (texts m) (Text t) safe h int =
    let less : nat_le (length t) (max 1 m) ≡ true = grind (arith, nat_tests) in
    ap (λ b. is_fit (if b then Fits else TooLong)) less
made_fits beyond v safe h int = absurd (false≢true (sym safe))

module _ {R : Type 0} (admitted : R → Admit) (read : R → Value) (ok : (r : R) → fits (admitted r) (read r) ≡ true) where
  given_int : (e : Expr R) → may_fail (extent_of admitted e) ≡ false → int_given (value_of read e) ≡ true
  given_int (literal (Int n)) safe = literal_int n safe
  given_int (literal (Text t)) safe = refl
  given_int (column r) safe = held_int (admitted r) (read r) (ok r)
  given_int (negated a) safe = then_int (value_of read a) (λ x. exact (neg_ℤ (number_of x))) (λ x. exact_int (neg_ℤ (number_of x)))
  given_int (plus a b) safe = two_int (value_of read a) (value_of read b) (λ x y. exact (number_of x +ℤ number_of y)) (λ x y. exact_int (number_of x +ℤ number_of y))
  given_int (minus a b) safe = two_int (value_of read a) (value_of read b) (λ x y. exact (number_of x -ℤ number_of y)) (λ x y. exact_int (number_of x -ℤ number_of y))
  given_int (times a b) safe = two_int (value_of read a) (value_of read b) (λ x y. exact (number_of x *ℤ number_of y)) (λ x y. exact_int (number_of x *ℤ number_of y))
  given_int (joined a b) safe = two_int (value_of read a) (value_of read b) (λ x y. short (bytes_of x ++ bytes_of y)) (λ x y. short_int (bytes_of x ++ bytes_of y))

  -- the value of an expression on a row whose columns admit its values
  pub value_fits : (e : Expr R) → may_fail (extent_of admitted e) ≡ false → fits (admit_of_extent (extent_of admitted e)) (sure_value read e) ≡ true
  value_fits e safe =
      made_fits (extent_of admitted e) (sure_value read e) safe (sure_within (extent_of admitted e) (value_of read e) (value_given admitted read ok e)) (sure_int (value_of read e) (given_int e safe))

-- the lesser and the greater of two values are one of them
lesser_one : (p : Value → Bool) (a b : Value) → p a ≡ true → p b ≡ true → p (lesser a b) ≡ true
lesser_one p a b h k = of (is_lt (value_cmp b a))
  where
    of : (c : Bool) → p (if c then b else a) ≡ true
    of true = k
    of false = h

greater_one : (p : Value → Bool) (a b : Value) → p a ≡ true → p b ≡ true → p (greater a b) ≡ true
greater_one p a b h k = of (is_lt (value_cmp a b))
  where
    of : (c : Bool) → p (if c then b else a) ≡ true
    of true = k
    of false = h

folded_one : (p : Value → Bool) (f : Value → Value → Value) → ((a b : Value) → p a ≡ true → p b ≡ true → p (f a b) ≡ true) → (v : Value) (vs : List Value) → p v ≡ true → list_all p vs ≡ true → p (fold f v vs) ≡ true
folded_one p f keeps v [] h all = h
folded_one p f keeps v (w ∷ vs) h all = folded_one p f keeps (f v w) vs (keeps v w h (and_parts _ _ all).0) (and_parts _ _ all).1

count_int : (n : ℕ) → n ≤ most_rows → is_int (pos n) ≡ true
count_int n few = and_from _ _ (tests least_int (pos n) (omega (arith, ints))) (tests (pos n) greatest_int (omega (arith, ints)))

summed_fits : (e : Extent) (n : ℤ) → is_int n ≡ true → fits (admit_of_extent (extent_summed e)) (Int n) ≡ true
summed_fits e n int = of (extent_summed e) (summed_numeric e)
  where
    of : (s : Extent) → is_numeric s ≡ true → fits (admit_of_extent s) (Int n) ≡ true
    of (numbers a b) num = int_fits n int
    of (texts m) num = absurd (false≢true num)
    of beyond num = int_fits n int

module _ {R : Type 0} (admitted : R → Admit) (read : List Value → R → Value) (good : List Value → Bool) (ok : (row : List Value) → good row ≡ true → (r : R) → fits (admitted r) (read row r) ≡ true) where
  each_read : (rows : List (List Value)) → list_all good rows ≡ true → AllByRecursion (λ row. (r : R) → is_held (admitted r) (read row r) ≡ true) rows
  each_read [] all = tt
  each_read (row ∷ rows) all = (ok row (and_parts _ _ all).0, each_read rows (and_parts _ _ all).1)

  values_fit : (e : Expr R) → may_fail (extent_of admitted e) ≡ false → (rows : List (List Value)) → list_all good rows ≡ true → list_all (fits (admit_of_extent (extent_of admitted e))) (values_of read rows e) ≡ true
  values_fit e safe [] all = refl
  values_fit e safe (row ∷ rows) all = and_from _ _ (value_fits admitted (read row) (ok row (and_parts _ _ all).0) e safe) (values_fit e safe rows (and_parts _ _ all).1)

  -- no objection to a sum says that it is an INT
  sum_int : (e : Expr R) (rows : List (List Value)) → may_fail (extent_of_total admitted (Sum e)) ≡ false → list_all good rows ≡ true → length rows ≤ most_rows → is_int (exact_sum (values_of read rows e)) ≡ true
  sum_int e rows safe all few =
      not-false (is_int (exact_sum (values_of read rows e)))
      (none_when (not (is_int (exact_sum (values_of read rows e)))) refusal.OutOfRange
      (none_right (flat_map (λ row. argument_objections read row (Sum e)) rows) _ (total_unobjected admitted read rows (each_read rows all) few (Sum e) safe)))

  -- a total over a group that is not empty
  pub total_fits : (row : List Value) (rows : List (List Value)) (total : Aggregate (Expr R)) → may_fail (extent_of_total admitted total) ≡ false → list_all good (row ∷ rows) ≡ true → length (row ∷ rows) ≤ most_rows
      → fits (admit_of_extent (extent_of_total admitted total)) (value_or_nought (total_of read (row ∷ rows) total)) ≡ true
  total_fits row rows Count safe all few = int_fits (pos (length (row ∷ rows))) (count_int (length (row ∷ rows)) few)
  total_fits row rows (Sum e) safe all few = summed_fits (extent_of admitted e) (exact_sum (values_of read (row ∷ rows) e)) (sum_int e (row ∷ rows) safe all few)
  total_fits row rows (Min e) safe all few =
      let each = values_fit e safe (row ∷ rows) all in
      let fit = fits (admit_of_extent (extent_of admitted e)) in
      folded_one fit lesser (lesser_one fit) (sure_value (read row) e) (values_of read rows e) (and_parts _ _ each).0 (and_parts _ _ each).1
  total_fits row rows (Max e) safe all few =
      let each = values_fit e safe (row ∷ rows) all in
      let fit = fits (admit_of_extent (extent_of admitted e)) in
      folded_one fit greater (greater_one fit) (sure_value (read row) e) (values_of read rows e) (and_parts _ _ each).0 (and_parts _ _ each).1
