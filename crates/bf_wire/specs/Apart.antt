-- No spelling is the front of another: the law that each field gives.
use Rattle.std.proofs.Common.{◌≡◌, ℕ, ℤ, pos, negsuc, ◌<◌, ◌^◌, ◌++◌, ◌∷◌, List, [], length, take, All, refl, sym, ap, ap₂, ◌∙◌, append_assoc, arith, SFits, leb, true}
use Rattle.std.specs.List.{flat_map}
use Rattle.std.specs.Int.{w64, cast_unsigned, cast_signed}
use Rattle.std.proofs.lemmas.Bool.{and_parts, leb-true}
use Rattle.std.proofs.lemmas.Int.{to_z-of_z}
use Rattle.std.proofs.lemmas.List.{append_cancel_left, take_at}
use Rattle.std.proofs.lemmas.List.Elements.{All-head, All-tail}
use Rattle.byteorder.specs.Endian.{little_number}
use Rattle.byteorder.specs.Numbers.{little_number-reads_back}
use Rattle.bf_base.specs.declared.value.Value.TheVariants.{Int, Text}
use Rattle.bf_base.specs.Texts.{IsText}
use Rattle.bf_wire.specs.Taking.{AreApart}
use Rattle.bf_wire.specs.Spellings.{IsByte, byte_spelling, IsWord, word_spelling, IsInt, int_spelling, IsName, name_spelling, text_spelling, IsValue, value_spelling, IsListed, list_spelling, AreValues, values_spelling, IsPair, pair_spelling}

pub bytes_apart : AreApart IsByte byte_spelling
bytes_apart a b xs ys is_a is_b same = cc

pub words_apart : AreApart IsWord word_spelling
unfolding word_spelling
words_apart a b xs ys is_a is_b same =
    sym (little_number-reads_back 4 a xs is_a) ∙ ap (little_number 4) same ∙ little_number-reads_back 4 b ys is_b

-- an INT fits the eight bytes of its two's complement
pub int_fits : (z : ℤ) → IsInt z → SFits w64 z
int_fits (pos n) is = record { sfits = omega (arith, leb-true n 9223372036854775807 is) }
int_fits (negsuc n) is =
    let low : leb n 9223372036854775807 ≡ true = (and_parts _ _ is).0 in
    record { sfits = omega (arith, leb-true n 9223372036854775807 low) }

int_bits : (z : ℤ) → IsInt z → cast_unsigned w64 z < 256 ^ 8
int_bits (pos n) is = omega (arith, leb-true n 9223372036854775807 is)
int_bits (negsuc n) is = omega arith

pub ints_apart : AreApart IsInt int_spelling
unfolding int_spelling
ints_apart a b xs ys is_a is_b same =
    let bits : cast_unsigned w64 a ≡ cast_unsigned w64 b =
    sym (little_number-reads_back 8 (cast_unsigned w64 a) xs (int_bits a is_a)) ∙ ap (little_number 8) same
    ∙ little_number-reads_back 8 (cast_unsigned w64 b) ys (int_bits b is_b) in
    sym (to_z-of_z w64 a (int_fits a is_a)) ∙ ap (cast_signed w64) bits ∙ to_z-of_z w64 b (int_fits b is_b)

-- bytes behind a byte with their number
pub counted_apart : (a b xs ys : List ℕ) → length a ∷ a ++ xs ≡ length b ∷ b ++ ys → a ≡ b
counted_apart a b xs ys same =
    let lengths : length a ≡ length b = cc in
    let behind : a ++ xs ≡ b ++ ys = cc in
    sym (take_at a xs (length a) refl) ∙ ap (take (length a)) behind ∙ take_at b ys (length a) (sym lengths)

pub names_apart : AreApart IsName name_spelling
names_apart a b xs ys is_a is_b same = counted_apart a b xs ys same

pub texts_apart : AreApart IsText text_spelling
texts_apart a b xs ys is_a is_b same = counted_apart a b xs ys same

pub values_apart : AreApart IsValue value_spelling
values_apart (Int a) (Int b) xs ys is_a is_b same = ap Int (ints_apart a b xs ys is_a is_b cc)
values_apart (Int a) (Text b) xs ys is_a is_b same = absurd cc
values_apart (Text a) (Int b) xs ys is_a is_b same = absurd cc
values_apart (Text a) (Text b) xs ys is_a is_b same = ap Text (texts_apart a b xs ys is_a is_b cc)

module _ {A : Type 0} (IsPart : A → Type 0) (part : A → List ℕ) (apart : AreApart IsPart part) where
  -- equal fronts are of equal values, and equal bytes stand behind them
  pub behind_apart : (a b : A) (xs ys : List ℕ) → IsPart a → IsPart b → part a ++ xs ≡ part b ++ ys → (a ≡ b) × (xs ≡ ys)
  behind_apart a b xs ys is_a is_b same =
      let equal : a ≡ b = apart a b xs ys is_a is_b same in
      (equal, append_cancel_left (part b) xs ys (ap (λ (c : A). part c ++ xs) (sym equal) ∙ same))

  parts_apart : (these those : List A) (xs ys : List ℕ) → length these ≡ length those → All IsPart these → All IsPart those
      → flat_map part these ++ xs ≡ flat_map part those ++ ys → these ≡ those
  parts_apart [] [] xs ys lengths all_a all_b same = refl
  parts_apart [] (b ∷ those) xs ys lengths all_a all_b same = absurd (omega arith)
  parts_apart (a ∷ these) [] xs ys lengths all_a all_b same = absurd (omega arith)
  parts_apart (a ∷ these) (b ∷ those) xs ys lengths all_a all_b same =
      let grouped : part a ++ (flat_map part these ++ xs) ≡ part b ++ (flat_map part those ++ ys) =
      sym (append_assoc (part a) (flat_map part these) xs) ∙ same ∙ append_assoc (part b) (flat_map part those) ys in
      let first = behind_apart a b _ _ (All-head IsPart a these all_a) (All-head IsPart b those all_b) grouped in
      ap₂ (λ (c : A) (cs : List A). c ∷ cs) first.0
      (parts_apart these those xs ys (omega arith) (All-tail IsPart a these all_a) (All-tail IsPart b those all_b) first.1)

  pub lists_apart : AreApart (IsListed IsPart) (list_spelling part)
  lists_apart these those xs ys is_a is_b same =
      let grouped : word_spelling (length these) ++ (flat_map part these ++ xs) ≡ word_spelling (length those) ++ (flat_map part those ++ ys) =
      sym (append_assoc (word_spelling (length these)) (flat_map part these) xs) ∙ same ∙ append_assoc (word_spelling (length those)) (flat_map part those) ys in
      let lengths = words_apart (length these) (length those) _ _ is_a.0 is_b.0 grouped in
      let behind = append_cancel_left (word_spelling (length those)) (flat_map part these ++ xs) (flat_map part those ++ ys)
      (ap (λ n. word_spelling n ++ (flat_map part these ++ xs)) (sym lengths) ∙ grouped) in
      parts_apart these those xs ys lengths is_a.1 is_b.1 behind

pub rows_apart : AreApart AreValues values_spelling
rows_apart = lists_apart IsValue value_spelling values_apart

pub pairs_apart : {A B : Type 0} (IsFirst : A → Type 0) (IsSecond : B → Type 0) (first : A → List ℕ) (second : B → List ℕ)
    → AreApart IsFirst first → AreApart IsSecond second → AreApart (IsPair IsFirst IsSecond) (pair_spelling first second)
pairs_apart IsFirst IsSecond first second firsts seconds a b xs ys is_a is_b same =
    let grouped : first a.0 ++ (second a.1 ++ xs) ≡ first b.0 ++ (second b.1 ++ ys) =
    sym (append_assoc (first a.0) (second a.1) xs) ∙ same ∙ append_assoc (first b.0) (second b.1) ys in
    let front = behind_apart IsFirst first firsts a.0 b.0 _ _ is_a.0 is_b.0 grouped in
    let back = seconds a.1 b.1 xs ys is_a.1 is_b.1 front.1 in
    ap₂ (λ x y. (x, y)) front.0 back
