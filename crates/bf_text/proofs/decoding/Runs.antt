-- Where a number or a name ends in a text: before the first byte that is of none.
use Rattle.std.proofs.Common.{◌≡◌, ℕ, suc, ◌^◌, ◌<◌, ◌≤◌, Bool, true, false, ◌||◌, ◌&&◌, ◌==◌, nat_le, IsTrue, List, [], ◌∷◌, ◌++◌, length, drop, ℤ, pos, negsuc, unsigned_abs, refl, sym, ap, subst, arith}
use Rattle.std.specs.List.{list_all}
use Rattle.std.specs.Fmt.{decimal, signed_decimal}
use Rattle.std.specs.Str.Parse.{AllDigits}
use Rattle.std.proofs.lemmas.Fmt.{decimal_is_IsNumeral, decimal_injective}
use Rattle.std.proofs.lemmas.Str.Parse.{digit_from_value}
use Rattle.std.proofs.lemmas.Bool.{and_parts, and_from, both_ways, ltb-true}
use Rattle.std.proofs.lemmas.Bool.Decides.{nat_tests}
use Rattle.bf_base.specs.Names.{is_name, is_name_byte, is_lower}
use Rattle.bf_text.specs.Numbers.{is_u64}

-- a byte of a number or a name
abbrev pub is_inner : ℕ → Bool
is_inner b = is_name_byte b || b == 45

-- a byte behind a list: a space, a line's end or a bracket
abbrev pub is_stop : ℕ → Bool
is_stop b = b == 32 || b == 10 || b == 41

-- a byte behind one of a list
abbrev pub is_end : ℕ → Bool
is_end b = b == 44 || is_stop b

-- the first byte passes a test
abbrev pub Begins : (ℕ → Bool) → List ℕ → Type 0
Begins test [] = ⊥
Begins test (b ∷ bs) = IsTrue (test b)

-- two things and what follows them are told by their texts, where a byte that passes a test follows
abbrev pub Splits : {A : Type 0} → (A → List ℕ) → (ℕ → Bool) → A → A → Type 0
Splits text test a b = (r s : List ℕ) → Begins test r → Begins test s → text a ++ r ≡ text b ++ s → (a ≡ b) × (r ≡ s)

pub Begins-append : (test : ℕ → Bool) (x r : List ℕ) → Begins test x → Begins test (x ++ r)
Begins-append test [] r h = absurd h
Begins-append test (b ∷ x) r h = h

pub Begins-weaker : (test other : ℕ → Bool) → ((b : ℕ) → IsTrue (test b) → IsTrue (other b)) → (x : List ℕ)
    → Begins test x → Begins other x
Begins-weaker test other weaker [] h = absurd h
Begins-weaker test other weaker (b ∷ x) h = weaker b h

-- a byte passes one of two tests that exclude each other
pub begins_apart : (test other : ℕ → Bool) → ((b : ℕ) → IsTrue (test b) → other b ≡ false) → (x : List ℕ)
    → Begins test x → Begins other x → ⊥
begins_apart test other apart [] h k = h
begins_apart test other apart (b ∷ x) h k = both_ways (other b) (apart b h) k

pub end_outside : (b : ℕ) → IsTrue (is_end b) → is_inner b ≡ false
end_outside b h = grind (arith, nat_tests)

pub stop_ends : (b : ℕ) → IsTrue (is_stop b) → IsTrue (is_end b)
stop_ends b h = grind (arith, nat_tests)

run_first : (test : ℕ → Bool) (x : List ℕ) → 0 < length x → IsTrue (list_all test x) → Begins test x
run_first test [] l h = absurd (omega arith)
run_first test (b ∷ x) l h = (and_parts (test b) (list_all test x) h).0

-- two runs of bytes that pass a test, with bytes behind them that do not
pub run_splits : (test other : ℕ → Bool) → ((b : ℕ) → IsTrue (other b) → test b ≡ false) → (x y : List ℕ)
    → IsTrue (list_all test x) → IsTrue (list_all test y) → Splits (λ z. z) other x y
run_splits test other apart [] [] p q r s h k e = (refl, e)
run_splits test other apart [] (c ∷ y) p q r s h k e = absurd
    (begins_apart other test apart r h (subst (Begins test) (sym e) (and_parts (test c) (list_all test y) q).0))
run_splits test other apart (b ∷ x) [] p q r s h k e = absurd
    (begins_apart other test apart s k (subst (Begins test) e (and_parts (test b) (list_all test x) p).0))
run_splits test other apart (b ∷ x) (c ∷ y) p q r s h k e =
    let more = run_splits test other apart x y (and_parts (test b) (list_all test x) p).1
    (and_parts (test c) (list_all test y) q).1 r s h k (ap (drop 1) e) in
    let same : b ≡ c = cc in
    let whole : b ∷ x ≡ c ∷ y = cc (same, more.0) in
    (whole, more.1)

digit_inside : (c : ℕ) → 48 ≤ c → c ≤ 57 → IsTrue (is_inner c)
digit_inside c l h = grind (arith, nat_tests)

digits_inside : (ds : List ℕ) → AllDigits 10 ds → IsTrue (list_all is_inner ds)
digits_inside [] d = refl
digits_inside (c ∷ ds) d = let range = digit_from_value c d.0 in
    and_from (is_inner c) (list_all is_inner ds) (digit_inside c (omega arith) (omega arith)) (digits_inside ds d.1)

name_byte_inside : (b : ℕ) → IsTrue (is_name_byte b) → IsTrue (is_inner b)
name_byte_inside b h = grind (arith, nat_tests)

name_bytes_inside : (x : List ℕ) → IsTrue (list_all is_name_byte x) → IsTrue (list_all is_inner x)
name_bytes_inside [] h = refl
name_bytes_inside (b ∷ x) h =
    let parts = and_parts (is_name_byte b) (list_all is_name_byte x) h in
    and_from (is_inner b) (list_all is_inner x) (name_byte_inside b parts.0) (name_bytes_inside x parts.1)

lower_inside : (b : ℕ) → IsTrue (is_lower b) → IsTrue (is_inner b)
lower_inside b h = grind (arith, nat_tests)

first_and_last : (p q r : Bool) → (p && q && r) ≡ true → (p ≡ true) × (r ≡ true)
first_and_last true true true h = (refl, refl)
first_and_last true true false h = absurd cc
first_and_last true false r h = absurd cc
first_and_last false q r h = absurd cc

name_inside : (x : List ℕ) → IsTrue (is_name x) → IsTrue (list_all is_inner x)
name_inside [] h = absurd cc
name_inside (b ∷ x) h =
    let parts = first_and_last (is_lower b) (nat_le (length x) 62) (list_all is_name_byte x) h in
    and_from (is_inner b) (list_all is_inner x) (lower_inside b parts.0) (name_bytes_inside x parts.1)

pub decimal_inside : (n : ℕ) → IsTrue (is_u64 n) → IsTrue (list_all is_inner (decimal n))
decimal_inside n h = digits_inside (decimal n) (decimal_is_IsNumeral n (ltb-true n (2 ^ 64) h)).0.1

pub name_splits : (x y : List ℕ) → IsTrue (is_name x) → IsTrue (is_name y) → Splits (λ z. z) is_end x y
name_splits x y p q = run_splits is_inner is_end end_outside x y (name_inside x p) (name_inside y q)

pub number_splits : (m n : ℕ) → IsTrue (is_u64 m) → IsTrue (is_u64 n) → Splits decimal is_end m n
number_splits m n p q r s h k e =
    let both = run_splits is_inner is_end end_outside (decimal m) (decimal n) (decimal_inside m p)
    (decimal_inside n q) r s h k e in
    (decimal_injective m n (ltb-true m (2 ^ 64) p) (ltb-true n (2 ^ 64) q) both.0, both.1)

signed_inside : (z : ℤ) → IsTrue (is_u64 (unsigned_abs z)) → IsTrue (list_all is_inner (signed_decimal z))
signed_inside (pos n) h = decimal_inside n h
signed_inside (negsuc n) h = decimal_inside (suc n) h

pub signed_begins : (z : ℤ) → IsTrue (is_u64 (unsigned_abs z)) → Begins is_inner (signed_decimal z)
signed_begins (pos n) h = run_first is_inner (decimal n) (decimal_is_IsNumeral n (ltb-true n (2 ^ 64) h)).0.0
    (decimal_inside n h)
signed_begins (negsuc n) h = refl

no_minus : (n : ℕ) (ds : List ℕ) → n < 2 ^ 64 → decimal n ≡ 45 ∷ ds → ⊥
no_minus n ds h e = let range = digit_from_value 45 (subst (AllDigits 10) e (decimal_is_IsNumeral n h).0.1).0 in
    omega arith

signed_same : (y z : ℤ) → unsigned_abs y < 2 ^ 64 → unsigned_abs z < 2 ^ 64 → signed_decimal y ≡ signed_decimal z
    → y ≡ z
signed_same (pos m) (pos n) p q e = ap pos (decimal_injective m n p q e)
signed_same (pos m) (negsuc n) p q e = absurd (no_minus m (decimal (suc n)) p e)
signed_same (negsuc m) (pos n) p q e = absurd (no_minus n (decimal (suc m)) q (sym e))
signed_same (negsuc m) (negsuc n) p q e =
    ap negsuc (omega (arith, decimal_injective (suc m) (suc n) p q (ap (drop 1) e)))

pub signed_splits : (y z : ℤ) → IsTrue (is_u64 (unsigned_abs y)) → IsTrue (is_u64 (unsigned_abs z))
    → Splits signed_decimal is_end y z
signed_splits y z p q r s h k e =
    let both = run_splits is_inner is_end end_outside (signed_decimal y) (signed_decimal z) (signed_inside y p)
    (signed_inside z q) r s h k e in
    (signed_same y z (ltb-true (unsigned_abs y) (2 ^ 64) p) (ltb-true (unsigned_abs z) (2 ^ 64) q) both.0, both.1)
