-- The bytes of numbers, written and read.
use Rattle.std.proofs.Common.{◌≡◌, ◌≢◌, ℕ, ℤ, pos, negsuc, ◌≤◌, ◌<◌, ◌^◌, List, ◌++◌, length, take, drop, slice_index, sym, ap, ◌∙◌, arith, inl, inr, SFits}
use Rattle.std.specs.Int.{w32, w64, cast_signed, cast_unsigned, from_le_bytes}
use Rattle.std.proofs.lemmas.Bool.{cases_lt}
use Rattle.std.proofs.lemmas.Bool.Decides.{nat_tests}
use Rattle.std.proofs.Math.Facts.{sfits_to_z, Fits-of_lt}
use Rattle.std.proofs.lemmas.Int.{of_z-to_z}
use Rattle.std.proofs.lemmas.Nat.{le_bytes_4, le_bytes_8}
use Rattle.std.proofs.lemmas.List.{length-append, length-take, take-append-drop, get_or-take, get_or_past}
use Rattle.byteorder.specs.Endian.{little_number}
use Rattle.byteorder.specs.Numbers.{length-bytes_low_first, little_from-lt, little_from-take}
use Rattle.bf_wire.specs.Spellings.{IsWord, word_spelling, IsInt, int_spelling}
use Rattle.bf_wire.specs.Taking.{BeginWith}

pub length-word : (n : ℕ) → length (word_spelling n) ≡ 4
unfolding word_spelling
length-word n = length-bytes_low_first 0 4 n

pub length-int : (z : ℤ) → length (int_spelling z) ≡ 8
unfolding int_spelling
length-int z = length-bytes_low_first 0 8 (cast_unsigned w64 z)

abbrev pub IsBytes : List ℕ → Type 0
IsBytes bytes = (i : ℕ) → slice_index bytes i < 256

front_small : (n : ℕ) (bytes : List ℕ) → IsBytes bytes → IsBytes (take n bytes)
front_small n bytes small i =
    elim (cases_lt i n) [
      | inl below ↦ rw (get_or-take n bytes i 0 below) (small i)
      | inr past ↦ rw (get_or_past (take n bytes) i 0 (omega (arith, length-take n bytes))) (omega arith)
    ]

word_number : (bytes : List ℕ) → little_number 4 bytes ≡ from_le_bytes w32 bytes
word_number bytes = omega arith

int_number : (bytes : List ℕ) → little_number 8 bytes ≡ from_le_bytes w64 bytes
int_number bytes = omega arith

-- four bytes spell the number in them
pub word_begins : (bytes : List ℕ) (n : ℕ) → 4 ≤ length bytes → IsBytes bytes → n ≡ little_number 4 bytes → BeginWith IsWord word_spelling bytes n 4
unfolding word_spelling
word_begins bytes n long small is =
    let number : n ≡ from_le_bytes w32 (take 4 bytes) = is ∙ sym (little_from-take 0 4 4 bytes (omega arith)) ∙ word_number (take 4 bytes) in
    let again : word_spelling n ≡ take 4 bytes = le_bytes_4 (take 4 bytes) n (omega (arith, length-take 4 bytes)) (front_small 4 bytes small) number in
    record {
      has_spelling = rw is (little_from-lt 0 4 bytes small);
      taken = sym (length-word n);
      front = sym (ap (λ (front : List ℕ). front ++ drop 4 bytes) again ∙ take-append-drop 4 bytes);
    }

pub no_word : (bytes : List ℕ) → length bytes < 4 → (n : ℕ) (rest : List ℕ) → IsWord n → bytes ≢ word_spelling n ++ rest
no_word bytes short n rest is same = omega (arith, ap length same, length-append (word_spelling n) rest, length-word n)

is_int_from_fits : (z : ℤ) → SFits w64 z → IsInt z
is_int_from_fits (pos n) fits = grind (arith, nat_tests)
is_int_from_fits (negsuc n) fits = grind (arith, nat_tests)

is_int_of_bits : (n : ℕ) → n < 2 ^ 64 → IsInt (cast_signed w64 n)
is_int_of_bits n lt = is_int_from_fits (cast_signed w64 n) (sfits_to_z {w = w64} {n = n} (Fits-of_lt lt))

-- eight bytes spell the number in them
pub int_begins : (bytes : List ℕ) (z : ℤ) → 8 ≤ length bytes → IsBytes bytes → z ≡ cast_signed w64 (little_number 8 bytes) → BeginWith IsInt int_spelling bytes z 8
unfolding int_spelling
int_begins bytes z long small is =
    let fits : little_number 8 bytes < 2 ^ 64 = little_from-lt 0 8 bytes small in
    let bits : cast_unsigned w64 z ≡ little_number 8 bytes = ap (cast_unsigned w64) is ∙ of_z-to_z w64 (little_number 8 bytes) fits in
    let number : cast_unsigned w64 z ≡ from_le_bytes w64 (take 8 bytes) = bits ∙ sym (little_from-take 0 8 8 bytes (omega arith)) ∙ int_number (take 8 bytes) in
    let again : int_spelling z ≡ take 8 bytes = le_bytes_8 (take 8 bytes) (cast_unsigned w64 z) (omega (arith, length-take 8 bytes)) (front_small 8 bytes small) number in
    record {
      has_spelling = rw is (is_int_of_bits (little_number 8 bytes) fits);
      taken = sym (length-int z);
      front = sym (ap (λ (front : List ℕ). front ++ drop 8 bytes) again ∙ take-append-drop 8 bytes);
    }

pub no_int : (bytes : List ℕ) → length bytes < 8 → (z : ℤ) (rest : List ℕ) → IsInt z → bytes ≢ int_spelling z ++ rest
no_int bytes short z rest is same = omega (arith, ap length same, length-append (int_spelling z) rest, length-int z)
