-- The value of an expression lies within its extent.
use Rattle.std.proofs.Common.{◌≡◌, ℕ, ◌+◌, ℤ, ◌+ℤ◌, ◌-ℤ◌, ◌*ℤ◌, neg_ℤ, ◌≤ℤ◌, int_le, nat_le, Bool, true, false, ◌&&◌, if◌then◌else◌, List, ◌++◌, length, Result, Ok, Err, IsOkAnd, refl, sym, ap, ◌∙◌, arith}
use Rattle.std.proofs.lemmas.Bool.{and_parts, and_from, false≢true}
use Rattle.std.proofs.lemmas.Bool.Decides.{nat_tests}
use Rattle.std.proofs.lemmas.Int.{ints}
use Rattle.std.proofs.lemmas.List.{length-append}
use Rattle.bf_base.specs.declared.value.Value.{Value}
use Rattle.bf_base.specs.declared.value.Value.TheVariants.{Int, Text}
use Rattle.bf_base.specs.declared.table.Admit.{Admit}
use Rattle.bf_base.specs.declared.table.Admit.TheVariants as admits
use Rattle.bf_base.specs.declared.table.Fit.{Fit}
use Rattle.bf_base.specs.declared.table.Fit.TheVariants.{Fits, OutOfRange, TooLong}
use Rattle.bf_base.specs.Limits.{longest_text, is_int, least_int, greatest_int}
use Rattle.bf_tree.specs.declared.evaluation.Fail.{Fail}
use Rattle.bf_tree.specs.declared.evaluation.Fail.TheVariants as fail
use Rattle.bf_tree.specs.Trees.{Expr, literal, column, negated, plus, minus, times, joined}
use Rattle.bf_tree.specs.Evaluation.{◌>>=◌, number_of, bytes_of, exact, short, value_of}
use Rattle.bf_sql.specs.Database.{is_fit}
use Rattle.bf_sql.specs.migrations.Extents.{may_fail, Extent, numbers, texts, beyond, extent_between, least_of, greatest_of, extent_of_admit, extent_negated, extent_plus, extent_minus, extent_times, extent_joined, extent_of}
use Rattle.bf_sql.specs.migrations.Within.{IsWithin, is_within, is_held}
use Rattle.bf_sql.proofs.extents.Order.{tells, tests, product_between}

-- a result is a value within an extent; only of what is beyond it may be a failure
abbrev pub gives_within : Extent → Result Value Fail → Bool
gives_within e (Ok v) = is_within e v
gives_within (numbers low high) (Err f) = false
gives_within (texts most) (Err f) = false
gives_within beyond (Err f) = true

beyond_given : (r : Result Value Fail) → gives_within beyond r ≡ true
beyond_given (Ok v) = refl
beyond_given (Err f) = refl

-- a number between two ends is the result where both are INTs, since it is an INT too
between_given : (low high n : ℤ) → low ≤ℤ n → n ≤ℤ high → gives_within (extent_between low high) (exact n) ≡ true
between_given low high n p q = of (is_int low && is_int high) refl
  where
    of : (b : Bool) → (is_int low && is_int high) ≡ b → gives_within (if b then numbers low high else beyond) (exact n) ≡ true
    of false e = beyond_given (exact n)
    of true e =
        let ends = and_parts (is_int low) (is_int high) e in
        let least = tells least_int low (and_parts (int_le least_int low) (int_le low greatest_int) ends.0).0 in
        let greatest = tells high greatest_int (and_parts (int_le least_int high) (int_le high greatest_int) ends.1).1 in
        let int : is_int n ≡ true = and_from _ _ (tests least_int n (omega (arith, ints))) (tests n greatest_int (omega (arith, ints))) in
        ap (λ b. gives_within (numbers low high) (if b then Ok (Int n) else Err fail.OutOfRange)) int ∙ and_from _ _ (tests low n p) (tests n high q)

negated_given : (e : Extent) (r : Result Value Fail) → gives_within e r ≡ true → gives_within (extent_negated e) (r >>= (λ x. exact (neg_ℤ (number_of x)))) ≡ true
negated_given (numbers a b) (Ok (Int n)) p =
    let ends = and_parts (int_le a n) (int_le n b) p in
    let low = tells a n ends.0 in
    let high = tells n b ends.1 in
    between_given (neg_ℤ b) (neg_ℤ a) (neg_ℤ n) (omega (arith, ints)) (omega (arith, ints))
negated_given (numbers a b) (Ok (Text t)) p = absurd (false≢true p)
negated_given (numbers a b) (Err f) p = absurd (false≢true p)
negated_given (texts m) r p = beyond_given (r >>= (λ x. exact (neg_ℤ (number_of x))))
negated_given beyond r p = beyond_given (r >>= (λ x. exact (neg_ℤ (number_of x))))

-- of two parts whose extents are not both of numbers nothing is asked
module _ (f : ℤ → ℤ → ℤ) where
  abbrev both : Result Value Fail → Result Value Fail → Result Value Fail
  both r s = r >>= (λ x. s >>= (λ y. exact (f (number_of x) (number_of y))))

  -- an operation stays between two ends where it does so on all numbers between the ends of its parts
  numbers_given : (a b c d low high : ℤ) (r s : Result Value Fail)
      → ((n m : ℤ) → a ≤ℤ n → n ≤ℤ b → c ≤ℤ m → m ≤ℤ d → (low ≤ℤ f n m) × (f n m ≤ℤ high))
      → gives_within (numbers a b) r ≡ true → gives_within (numbers c d) s ≡ true → gives_within (extent_between low high) (both r s) ≡ true
  numbers_given a b c d low high (Ok (Int n)) (Ok (Int m)) keeps p q =
      let left = and_parts (int_le a n) (int_le n b) p in
      let right = and_parts (int_le c m) (int_le m d) q in
      let kept = keeps n m (tells a n left.0) (tells n b left.1) (tells c m right.0) (tells m d right.1) in
      between_given low high (f n m) kept.0 kept.1
  numbers_given a b c d low high (Ok (Int n)) (Ok (Text u)) keeps p q = absurd (false≢true q)
  numbers_given a b c d low high (Ok (Int n)) (Err g) keeps p q = absurd (false≢true q)
  numbers_given a b c d low high (Ok (Text t)) s keeps p q = absurd (false≢true p)
  numbers_given a b c d low high (Err g) s keeps p q = absurd (false≢true p)

plus_given : (e f : Extent) (r s : Result Value Fail) → gives_within e r ≡ true → gives_within f s ≡ true → gives_within (extent_plus e f) (both (λ n m. n +ℤ m) r s) ≡ true
plus_given (numbers a b) (numbers c d) r s p q =
    numbers_given (λ n m. n +ℤ m) a b c d (a +ℤ c) (b +ℤ d) r s (λ n m f g h k. (omega (arith, ints), omega (arith, ints))) p q
plus_given (numbers a b) (texts n) r s p q = beyond_given (both (λ n m. n +ℤ m) r s)
plus_given (numbers a b) beyond r s p q = beyond_given (both (λ n m. n +ℤ m) r s)
plus_given (texts m) f r s p q = beyond_given (both (λ n m. n +ℤ m) r s)
plus_given beyond f r s p q = beyond_given (both (λ n m. n +ℤ m) r s)

minus_given : (e f : Extent) (r s : Result Value Fail) → gives_within e r ≡ true → gives_within f s ≡ true → gives_within (extent_minus e f) (both (λ n m. n -ℤ m) r s) ≡ true
minus_given (numbers a b) (numbers c d) r s p q =
    numbers_given (λ n m. n -ℤ m) a b c d (a -ℤ d) (b -ℤ c) r s (λ n m f g h k. (omega (arith, ints), omega (arith, ints))) p q
minus_given (numbers a b) (texts n) r s p q = beyond_given (both (λ n m. n -ℤ m) r s)
minus_given (numbers a b) beyond r s p q = beyond_given (both (λ n m. n -ℤ m) r s)
minus_given (texts m) f r s p q = beyond_given (both (λ n m. n -ℤ m) r s)
minus_given beyond f r s p q = beyond_given (both (λ n m. n -ℤ m) r s)

times_given : (e f : Extent) (r s : Result Value Fail) → gives_within e r ≡ true → gives_within f s ≡ true → gives_within (extent_times e f) (both (λ n m. n *ℤ m) r s) ≡ true
times_given (numbers a b) (numbers c d) r s p q =
    numbers_given (λ n m. n *ℤ m) a b c d (least_of (a *ℤ c) (a *ℤ d) (b *ℤ c) (b *ℤ d)) (greatest_of (a *ℤ c) (a *ℤ d) (b *ℤ c) (b *ℤ d)) r s
    (λ n m f g h k. product_between a b c d n m f g h k) p q
times_given (numbers a b) (texts n) r s p q = beyond_given (both (λ n m. n *ℤ m) r s)
times_given (numbers a b) beyond r s p q = beyond_given (both (λ n m. n *ℤ m) r s)
times_given (texts m) f r s p q = beyond_given (both (λ n m. n *ℤ m) r s)
times_given beyond f r s p q = beyond_given (both (λ n m. n *ℤ m) r s)

joined_texts : (m n : ℕ) (t u : List ℕ) → nat_le (length t) m ≡ true → nat_le (length u) n ≡ true → gives_within (extent_joined (texts m) (texts n)) (short (t ++ u)) ≡ true
joined_texts m n t u p q = of (nat_le (m + n) 255) refl
  where
    of : (b : Bool) → nat_le (m + n) 255 ≡ b → gives_within (if b then texts (m + n) else beyond) (short (t ++ u)) ≡ true
    of true e =
        let long = length-append t u in
        let few : nat_le (length (t ++ u)) 255 ≡ true = grind (arith, nat_tests) in
        let less : nat_le (length (t ++ u)) (m + n) ≡ true = grind (arith, nat_tests) in
        ap (λ b. gives_within (texts (m + n)) (if b then Ok (Text (t ++ u)) else Err fail.TooLong)) few ∙ less
    of false e = beyond_given (short (t ++ u))

abbrev behind : Result Value Fail → Result Value Fail → Result Value Fail
behind r s = r >>= (λ x. s >>= (λ y. short (bytes_of x ++ bytes_of y)))

joined_given : (e f : Extent) (r s : Result Value Fail) → gives_within e r ≡ true → gives_within f s ≡ true → gives_within (extent_joined e f) (behind r s) ≡ true
joined_given (texts m) (texts n) (Ok (Text t)) (Ok (Text u)) p q = joined_texts m n t u p q
joined_given (texts m) (texts n) (Ok (Text t)) (Ok (Int j)) p q = absurd (false≢true q)
joined_given (texts m) (texts n) (Ok (Text t)) (Err f) p q = absurd (false≢true q)
joined_given (texts m) (texts n) (Ok (Int i)) s p q = absurd (false≢true p)
joined_given (texts m) (texts n) (Err f) s p q = absurd (false≢true p)
joined_given (texts m) (numbers c d) r s p q = beyond_given (behind r s)
joined_given (texts m) beyond r s p q = beyond_given (behind r s)
joined_given (numbers a b) f r s p q = beyond_given (behind r s)
joined_given beyond f r s p q = beyond_given (behind r s)

literal_given : {R : Type 0} (admitted : R → Admit) (v : Value) → gives_within (extent_of admitted (literal v)) (Ok v) ≡ true
literal_given admitted (Int n) = of (is_int n && is_int n)
  where
    of : (b : Bool) → gives_within (if b then numbers n n else beyond) (Ok (Int n)) ≡ true
    of true = let same : n ≤ℤ n = omega (arith, ints) in and_from _ _ (tests n n same) (tests n n same)
    of false = refl
literal_given admitted (Text t) = of (nat_le (length t) longest_text)
  where
    of : (b : Bool) → gives_within (if b then texts (length t) else beyond) (Ok (Text t)) ≡ true
    of true = let long : nat_le (length t) (length t) ≡ true = grind (arith, nat_tests) in long
    of false = refl

-- where a test decides whether a value fits, it holds of what does
pub fits_where : (test : Bool) (other : Fit) → is_fit other ≡ false → is_fit (if test then Fits else other) ≡ true → test ≡ true
fits_where true other unfit e = refl
fits_where false other unfit e = absurd (false≢true (sym unfit ∙ e))

column_within : (a : Admit) (v : Value) → is_held a v ≡ true → is_within (extent_of_admit a) v ≡ true
column_within admits.Int (Int n) h = fits_where (is_int n) OutOfRange refl h
column_within admits.Int (Text t) h = absurd (false≢true h)
column_within (admits.Checked low high) (Int n) h =
    let ends = and_parts (is_int n && int_le low n) (int_le n high) (fits_where (is_int n && int_le low n && int_le n high) OutOfRange refl h) in
    and_from _ _ (and_parts (is_int n) (int_le low n) ends.0).1 ends.1
column_within (admits.Checked low high) (Text t) h = absurd (false≢true h)
column_within (admits.Varchar m) (Int n) h = absurd (false≢true h)
column_within (admits.Varchar m) (Text t) h = fits_where (nat_le (length t) m) TooLong refl h

answered : (e : Extent) (r : Result Value Fail) → gives_within e r ≡ true → may_fail e ≡ false → IsOkAnd r (IsWithin e)
answered e (Ok v) h safe = h
answered (numbers a b) (Err f) h safe = absurd (false≢true h)
answered (texts m) (Err f) h safe = absurd (false≢true h)
answered beyond (Err f) h safe = absurd (false≢true (sym safe))

module _ {R : Type 0} (admitted : R → Admit) (read : R → Value) (ok : (r : R) → is_held (admitted r) (read r) ≡ true) where
  -- an expression's value lies within its extent
  pub value_given : (e : Expr R) → gives_within (extent_of admitted e) (value_of read e) ≡ true
  value_given (literal v) = literal_given admitted v
  value_given (column r) = column_within (admitted r) (read r) (ok r)
  value_given (negated a) = negated_given (extent_of admitted a) (value_of read a) (value_given a)
  value_given (plus a b) = plus_given (extent_of admitted a) (extent_of admitted b) (value_of read a) (value_of read b) (value_given a) (value_given b)
  value_given (minus a b) = minus_given (extent_of admitted a) (extent_of admitted b) (value_of read a) (value_of read b) (value_given a) (value_given b)
  value_given (times a b) = times_given (extent_of admitted a) (extent_of admitted b) (value_of read a) (value_of read b) (value_given a) (value_given b)
  value_given (joined a b) = joined_given (extent_of admitted a) (extent_of admitted b) (value_of read a) (value_of read b) (value_given a) (value_given b)

  -- where it is not beyond, there is a value
  pub value_within : (e : Expr R) → may_fail (extent_of admitted e) ≡ false → IsOkAnd (value_of read e) (IsWithin (extent_of admitted e))
  value_within e safe = answered (extent_of admitted e) (value_of read e) (value_given e) safe
