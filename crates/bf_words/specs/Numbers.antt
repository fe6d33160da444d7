-- What a number on the command line is.
use Rattle.std.specs.Prelude.{ℕ, Bool, ◌&&◌, nat_le, nat_lt, List, length, Option, None, Some, if◌then◌else◌}
use Rattle.std.specs.Char.{digit_value}
use Rattle.std.specs.List.{list_all}
use Rattle.std.specs.Str.Parse.{digits_value, without_leading_plus}

-- whether a text is decimal digits, one or more
abbrev pub is_decimal : List ℕ → Bool
is_decimal digits = nat_lt 0 (length digits) && list_all (λ d. nat_lt (digit_value d) 10) digits

-- the number that decimal digits write, where it is one from `least` to `most`
abbrev pub limited : ℕ → ℕ → List ℕ → Option ℕ
limited least most digits =
    if is_decimal digits && (nat_le least (digits_value 10 digits) && nat_le (digits_value 10 digits) most)
    then Some (digits_value 10 digits) else None

-- the number that a word writes, from `least` to `most`: decimal digits, behind one `+` or none
abbrev pub number_within : ℕ → ℕ → List ℕ → Option ℕ
number_within least most word = limited least most (without_leading_plus word)
