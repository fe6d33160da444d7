-- What digits write.
use Rattle.std.proofs.Common.{◌≡◌, ℕ, suc, ◌+◌, ◌-◌, ◌*◌, ◌^◌, ◌<◌, ◌≤◌, List, [], ◌∷◌, length, get_or, drop, drop-cons, leb, Some, None, Ok, Err, arith, refl, sym, ap, ◌∙◌, inl, inr}
use Rattle.std.proofs.lemmas.Bool.{cases_Bool, lt-leb}
use Rattle.std.proofs.lemmas.Option.{cond_some}
use Rattle.bf_lex.specs.declared.fault.ScriptKind.TheVariants as kind
use Rattle.bf_lex.specs.declared.token.TokenKind.TheVariants as token
use Rattle.bf_lex.specs.Lexemes.{Digits, number_from, token_of}
use Rattle.bf_lex.specs.Reading.{number_within}

number_from-no_less : (high : ℕ) (ds : List ℕ) → high ≤ number_from high ds
number_from-no_less high [] = omega arith
number_from-no_less high (d ∷ ds) = omega (arith, number_from-no_less (high * 10 + (d - 48)) ds)

-- a number that is too wide before its digits end
pub too_wide : (value i : ℕ) (ds : List ℕ) → number_from 0 ds ≡ number_from value (drop i ds) → i < length ds → 2 ^ 63 < value * 10 + (get_or ds i 0 - 48) → number_within ds ≡ None
too_wide value i ds so_far inside wide =
    let next : number_from 0 ds ≡ number_from (value * 10 + (get_or ds i 0 - 48)) (drop (suc i) ds) = so_far ∙ ap (λ (z : List ℕ). number_from value z) (drop-cons ds i 0 inside) in
    let big : 2 ^ 63 < number_from 0 ds = omega (arith, next, number_from-no_less (value * 10 + (get_or ds i 0 - 48)) (drop (suc i) ds)) in
    rw (lt-leb (number_from 0 ds) (2 ^ 63) big) refl

pub number_token : (digits : List ℕ) (value : ℕ) → Some value ≡ number_within digits → token_of Digits digits ≡ Ok (token.Number value)
number_token digits value e =
    let within = cond_some (leb (number_from 0 digits) (2 ^ 63)) (number_from 0 digits) value (sym e) in
    rw (within.0, within.1) refl

pub no_number_token : (digits : List ℕ) → None ≡ number_within digits → token_of Digits digits ≡ Err (kind.NumberTooWide, 0)
no_number_token digits e = elim (cases_Bool (leb (number_from 0 digits) (2 ^ 63))) [
  | inl within ↦ let d : None ≡ Some (number_from 0 digits) = rw within at e in absurd cc
  | inr wide ↦ rw wide refl
]
