-- How values are spelled as bytes, and which have a spelling: those that the types of the code hold. Numbers have their lowest byte first.
use Rattle.std.specs.Prelude.{ℕ, ℤ, ◌^◌, ◌<◌, IsTrue, List, [], ◌∷◌, ◌++◌, length, All}
use Rattle.std.specs.List.{flat_map}
use Rattle.std.specs.Int.{w64, cast_unsigned}
use Rattle.byteorder.specs.Endian.{little_bytes}
use Rattle.bf_base.specs.Limits.{is_int}
use Rattle.bf_base.specs.Names.{is_name}
use Rattle.bf_base.specs.Texts.{IsText}
use Rattle.bf_base.specs.declared.value.Value.{Value}
use Rattle.bf_base.specs.declared.value.Value.TheVariants.{Int, Text}

abbrev pub IsByte : ℕ → Type 0
IsByte n = n < 2 ^ 8

abbrev pub byte_spelling : ℕ → List ℕ
byte_spelling n = n ∷ []

abbrev pub IsWord : ℕ → Type 0
IsWord n = n < 2 ^ 32

-- four bytes
unfoldable pub word_spelling : ℕ → List ℕ
word_spelling n = little_bytes 4 n

abbrev pub IsInt : ℤ → Type 0
IsInt z = IsTrue (is_int z)

-- two's complement in eight bytes
unfoldable pub int_spelling : ℤ → List ℕ
int_spelling z = little_bytes 8 (cast_unsigned w64 z)

abbrev pub IsName : List ℕ → Type 0
IsName bytes = IsTrue (is_name bytes)

-- a byte with the length, and that many bytes
abbrev pub name_spelling : List ℕ → List ℕ
name_spelling bytes = length bytes ∷ bytes

abbrev pub text_spelling : List ℕ → List ℕ
text_spelling bytes = length bytes ∷ bytes

abbrev pub IsValue : Value → Type 0
IsValue (Int z) = IsInt z
IsValue (Text t) = IsText t

-- 1 and the number, or 2 and the text
abbrev pub value_spelling : Value → List ℕ
value_spelling (Int z) = 1 ∷ int_spelling z
value_spelling (Text t) = 2 ∷ text_spelling t

abbrev pub IsListed : {A : Type 0} → (A → Type 0) → List A → Type 0
IsListed IsPart xs = (length xs < 2 ^ 32) × All IsPart xs

-- the number of parts, and the parts
abbrev pub list_spelling : {A : Type 0} → (A → List ℕ) → List A → List ℕ
list_spelling part xs = word_spelling (length xs) ++ flat_map part xs

-- the values of a row or a key
abbrev pub AreValues : List Value → Type 0
AreValues values = IsListed IsValue values

abbrev pub values_spelling : List Value → List ℕ
values_spelling values = list_spelling value_spelling values

abbrev pub IsPair : {A B : Type 0} → (A → Type 0) → (B → Type 0) → A × B → Type 0
IsPair IsFirst IsSecond pair = IsFirst pair.0 × IsSecond pair.1

-- one behind the other
abbrev pub pair_spelling : {A B : Type 0} → (A → List ℕ) → (B → List ℕ) → A × B → List ℕ
pair_spelling first second pair = first pair.0 ++ second pair.1
