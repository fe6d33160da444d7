-- Which digits are a number within limits.
use Rattle.std.proofs.Common.{◌≡◌, ℕ, ◌≤◌, ◌&&◌, Bool, true, false, List, [], ◌∷◌, length, Some, None, refl, nat_lt, lt-ltb, le-leb}
use Rattle.std.specs.Prelude.{nat_le}
use Rattle.std.specs.Char.{digit_value}
use Rattle.std.specs.List.{list_all}
use Rattle.std.specs.Str.Parse.{AllDigits, IsNumeral, digits_value}
use Rattle.std.proofs.lemmas.Bool.{and_parts, ltb-true, leb-true}
use Rattle.bf_words.specs.Numbers.{is_decimal, limited}

all_pass : (ds : List ℕ) → AllDigits 10 ds → list_all (λ d. nat_lt (digit_value d) 10) ds ≡ true
all_pass [] h = refl
all_pass (d ∷ ds) h = rw (lt-ltb (digit_value d) 10 h.0) (all_pass ds h.1)

all_from : (ds : List ℕ) → list_all (λ d. nat_lt (digit_value d) 10) ds ≡ true → AllDigits 10 ds
all_from [] e = tt
all_from (d ∷ ds) e =
    let parts = and_parts (nat_lt (digit_value d) 10) (list_all (λ x. nat_lt (digit_value x) 10) ds) e in
    (ltb-true (digit_value d) 10 parts.0, all_from ds parts.1)

pub is_limited : (least most : ℕ) (ds : List ℕ) (n : ℕ) → IsNumeral 10 ds → n ≡ digits_value 10 ds → least ≤ n → n ≤ most → Some n ≡ limited least most ds
is_limited least most ds n h e low high =
    rw (lt-ltb 0 (length ds) h.0, all_pass ds h.1, ← e, le-leb least n low, le-leb n most high) refl

abbrev is_within : ℕ → ℕ → List ℕ → Bool
is_within least most ds =
    nat_le least (digits_value 10 ds) && nat_le (digits_value 10 ds) most

pub none_limited : (least most : ℕ) (ds : List ℕ) → (IsNumeral 10 ds → least ≤ digits_value 10 ds → digits_value 10 ds ≤ most → ⊥) → None ≡ limited least most ds
none_limited least most ds excluded = go (is_decimal ds && is_within least most ds) refl
  where
    go : (t : Bool) → (is_decimal ds && is_within least most ds) ≡ t → None ≡ limited least most ds
    go false t = rw t refl
    go true t =
        let outer = and_parts (is_decimal ds) (is_within least most ds) t in
        let digits = and_parts (nat_lt 0 (length ds)) (list_all (λ d. nat_lt (digit_value d) 10) ds) outer.0 in
        let ends = and_parts (nat_le least (digits_value 10 ds)) (nat_le (digits_value 10 ds) most) outer.1 in
        absurd (excluded (ltb-true 0 (length ds) digits.0, all_from ds digits.1) (leb-true _ _ ends.0) (leb-true _ _ ends.1))
