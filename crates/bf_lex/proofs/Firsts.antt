-- What the first byte of a text tells of the lexeme that stands there.
use Rattle.std.proofs.Common.{◌≡◌, ℕ, ◌<◌, true, false, if◌then◌else◌, List, [], ◌∷◌, ◌++◌, length, drop, flat_map, Some, None, refl, sym, subst, ap, ◌∙◌, inl, inr, arith}
use Rattle.std.proofs.lemmas.Bool.{and_parts, eqb-true}
use Rattle.std.proofs.lemmas.Bool.Decides.{nat_tests}
use Rattle.std.proofs.lemmas.Option.{none-some}
use Rattle.bf_base.specs.Names.{is_digit}
use Rattle.bf_lex.specs.declared.fault.ScriptKind.TheVariants.{BadByte, OpenString}
use Rattle.bf_lex.specs.declared.sign.Sign.{Sign}
use Rattle.bf_lex.specs.Bytes.{is_letter, quote, is_quote, begins}
use Rattle.bf_lex.specs.Lexemes.{Lexeme, Word, Digits, Quoted, Mark, StandsIn, doubled}
use Rattle.bf_lex.specs.Lexing.{IsStray, IsWrong, NoneStands}
use Rattle.bf_lex.specs.Reading.{begins_gap, IsOpen, long_sign, short_sign, sized, sign_front}
use Rattle.bf_lex.proofs.Gaps.{no_gap, no_last_gap}
use Rattle.bf_lex.proofs.Quotes.{is_never_closed}
use Rattle.bf_lex.proofs.Signs.{mark_front, sized_is, short_is}

pub data Start : Type 0 where
  Letter : Start
  Digit : Start
  Quote : Start
  Other : Start

abbrev start_of : ℕ → Start
start_of byte = if is_letter byte then Letter else (if is_digit byte then Digit else (if is_quote byte then Quote else Other))

abbrev pub starts_as : Lexeme → Start
starts_as Word = Letter
starts_as Digits = Digit
starts_as (Quoted content) = Quote
starts_as (Mark sign) = Other

digit_starts : (b : ℕ) → is_digit b ≡ true → start_of b ≡ Digit
digit_starts b e = grind (arith, nat_tests)

short_starts : (a : ℕ) (s : Sign) → short_sign a ≡ Some s → start_of a ≡ Other
short_starts a s e = grind (arith, nat_tests)

long_starts : (a c : ℕ) (s : Sign) → long_sign a c ≡ Some s → start_of a ≡ Other
long_starts a c s e = grind (arith, nat_tests)

-- a sign that is read
record Signed (text : List ℕ) (size : ℕ) : Type 0 where
  byte : ℕ
  rest : List ℕ
  split : text ≡ byte ∷ rest
  other : start_of byte ≡ Other
  some : 0 < size

signed : (text : List ℕ) (s : Sign) (n : ℕ) → sign_front text ≡ Some (s, n) → Signed text n
signed [] s n e = absurd (none-some (s, n) e)
signed (a ∷ []) s n e =
    let found = short_is a s n e in
    record { byte = a; rest = []; split = refl; other = short_starts a s found.0; some = omega arith }
signed (a ∷ c ∷ bs) s n e = elim (sized_is (long_sign a c) 2 (sized (short_sign a) 1 None) s n e) [
  | inl found ↦ record { byte = a; rest = c ∷ bs; split = refl; other = long_starts a c s found.0; some = omega arith }
  | inr other ↦
      let found = short_is a s n other.1 in
      record { byte = a; rest = c ∷ bs; split = refl; other = short_starts a s found.0; some = omega arith }
]

-- the first byte of a lexeme
record Started (lexeme : Lexeme) (bytes : List ℕ) : Type 0 where
  first : ℕ
  rest : List ℕ
  split : bytes ≡ first ∷ rest
  start : start_of first ≡ starts_as lexeme

started : (lexeme : Lexeme) (bytes behind : List ℕ) → StandsIn lexeme bytes behind → Started lexeme bytes
started Word [] behind stands = absurd (let e = stands.spelled in cc)
started Word (b ∷ bs) behind stands =
    let letter : is_letter b ≡ true = (and_parts _ _ stands.spelled).0 in
    record { first = b; rest = bs; split = refl; start = rw letter refl }
started Digits [] behind stands = absurd (let e = stands.spelled in cc)
started Digits (b ∷ bs) behind stands = record { first = b; rest = bs; split = refl; start = digit_starts b (and_parts _ _ stands.spelled).0 }
started (Quoted content) bytes behind stands = record { first = quote; rest = flat_map doubled content ++ quote ∷ []; split = stands.spelled; start = refl }
started (Mark s) [] behind stands = let none = signed behind s 0 (mark_front s [] behind stands) in absurd (omega arith)
started (Mark s) (b ∷ bs) behind stands =
    let sign = signed ((b ∷ bs) ++ behind) s (length (b ∷ bs)) (mark_front s (b ∷ bs) behind stands) in
    let same : sign.byte ≡ b = cc in
    record { first = b; rest = bs; split = refl; start = ap start_of (sym same) ∙ sign.other }

starts_same : (lexeme : Lexeme) (bytes behind : List ℕ) (a : ℕ) (rest : List ℕ) → StandsIn lexeme bytes behind → a ∷ rest ≡ bytes ++ behind → start_of a ≡ starts_as lexeme
starts_same lexeme bytes behind a rest stands e =
    let s = started lexeme bytes behind stands in
    let split : a ∷ rest ≡ (s.first ∷ s.rest) ++ behind = e ∙ ap (λ (bs : List ℕ). bs ++ behind) s.split in
    let same : a ≡ s.first = cc in
    ap start_of same ∙ s.start

-- a byte with which no word, number or text begins, and no sign
no_sign_stands : (a : ℕ) (rest : List ℕ) → start_of a ≡ Other → sign_front (a ∷ rest) ≡ None → NoneStands (a ∷ rest)
no_sign_stands a rest other none Word bytes behind e stands = let s = sym other ∙ starts_same Word bytes behind a rest stands e in cc
no_sign_stands a rest other none Digits bytes behind e stands = let s = sym other ∙ starts_same Digits bytes behind a rest stands e in cc
no_sign_stands a rest other none (Quoted content) bytes behind e stands = let s = sym other ∙ starts_same (Quoted content) bytes behind a rest stands e in cc
no_sign_stands a rest other none (Mark s) bytes behind e stands = none-some (s, length bytes) (sym none ∙ ap sign_front e ∙ mark_front s bytes behind stands)

-- a quote that no other closes
no_text_stands : (rest : List ℕ) → IsOpen rest → NoneStands (quote ∷ rest)
no_text_stands rest o Word bytes behind e stands = let s = starts_same Word bytes behind quote rest stands e in cc
no_text_stands rest o Digits bytes behind e stands = let s = starts_same Digits bytes behind quote rest stands e in cc
no_text_stands rest o (Quoted content) bytes behind e stands =
    is_never_closed rest content behind o (e ∙ ap (λ (bs : List ℕ). bs ++ behind) stands.spelled) stands.ends
no_text_stands rest o (Mark s) bytes behind e stands = let s = starts_same (Mark s) bytes behind quote rest stands e in cc

stray : (a : ℕ) (rest : List ℕ) → begins_gap (a ∷ rest) ≡ false → NoneStands (a ∷ rest) → IsStray (a ∷ rest)
stray a rest g none = record {
  byte = a;
  rest = rest;
  split = refl;
  none_stands = none;
  no_gap = no_gap (a ∷ rest) g;
  no_last_gap = no_last_gap (a ∷ rest) (omega arith) g;
}

other_starts : (a : ℕ) → is_letter a ≡ false → is_digit a ≡ false → is_quote a ≡ false → start_of a ≡ Other
other_starts a no_letter no_digit no_quote = rw (no_letter, no_digit, no_quote) refl

pub bad_byte : (text : List ℕ) → 0 < length text → begins_gap text ≡ false → begins is_letter text ≡ false → begins is_digit text ≡ false → begins is_quote text ≡ false
    → sign_front text ≡ None → IsWrong text BadByte 0
bad_byte [] some g no_letter no_digit no_quote none = absurd (omega arith)
bad_byte (a ∷ rest) some g no_letter no_digit no_quote none =
    inr (stray a rest g (no_sign_stands a rest (other_starts a no_letter no_digit no_quote) none), refl, rw no_quote refl)

pub open_string : (text : List ℕ) → begins is_quote text ≡ true → IsOpen (drop 1 text) → IsWrong text OpenString 0
open_string [] e o = absurd cc
open_string (a ∷ rest) e o =
    let same : a ≡ quote = eqb-true a quote e in
    subst (λ (b : ℕ). IsWrong (b ∷ rest) OpenString 0) (sym same) (inr (stray quote rest refl (no_text_stands rest o), refl, refl))

-- lexemes at one front begin alike
pub one_start : (l m : Lexeme) (b c x y : List ℕ) → StandsIn l b x → StandsIn m c y → b ++ x ≡ c ++ y → starts_as l ≡ starts_as m
one_start l m b c x y s t e =
    let first = started l b x s in
    let split : first.first ∷ (first.rest ++ x) ≡ c ++ y = ap (λ (bs : List ℕ). bs ++ x) (sym first.split) ∙ e in
    sym first.start ∙ starts_same m c y first.first (first.rest ++ x) t split

pub some_bytes : (l : Lexeme) (bytes behind : List ℕ) → StandsIn l bytes behind → 0 < length bytes
some_bytes l bytes behind s = let first = started l bytes behind s in omega (arith, ap length first.split)
