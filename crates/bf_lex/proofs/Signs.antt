-- Signs: which one stands at the front of a text.
use Rattle.std.proofs.Common.{◌≡◌, ℕ, true, false, List, [], ◌∷◌, ◌++◌, length, Option, Some, None, refl, subst, ap, ◌⊎◌, inl, inr, arith}
use Rattle.std.proofs.lemmas.Bool.{false≢true, or_cases}
use Rattle.std.proofs.lemmas.Option.{none-some, some_pair_parts}
use Rattle.std.proofs.lemmas.Bool.Decides.{nat_tests}
use lib.Pointwise.{bytes_decides}
use Rattle.bf_base.specs.Lists.{same_name, has}
use Rattle.bf_lex.specs.declared.sign.Sign.{Sign}
use Rattle.bf_lex.specs.declared.sign.Sign.TheVariants as sign
use Rattle.bf_lex.specs.declared.token.TokenKind.TheVariants as token
use Rattle.bf_lex.specs.Bytes.{begins}
use Rattle.bf_lex.specs.Lexemes.{Mark, StandsIn, begins_longer}
use Rattle.bf_lex.specs.Reading.{begins_gap, IsTokenAt, long_sign, short_sign, sized, sign_front}
use Rattle.bf_lex.specs.Words.{spellings}

short_spelled : (a : ℕ) (s : Sign) → short_sign a ≡ Some s → has same_name (spellings s) (a ∷ []) ≡ true
short_spelled a s e = grind (arith, nat_tests)

long_spelled : (a c : ℕ) (s : Sign) → long_sign a c ≡ Some s → has same_name (spellings s) (a ∷ c ∷ []) ≡ true
long_spelled a c s e = grind (arith, nat_tests)

-- one byte does not go on where it is no sign with the next
short_ends : (a c : ℕ) → long_sign a c ≡ None → begins_gap (a ∷ c ∷ []) ≡ false → begins_longer (a ∷ []) c ≡ false
short_ends a c e g = grind (arith, nat_tests)

long_ends : (a c b : ℕ) → begins_longer (a ∷ c ∷ []) b ≡ false
long_ends a c b = grind (arith, nat_tests)

no_longer : (a c : ℕ) (bs : List ℕ) → begins (begins_longer (a ∷ c ∷ [])) bs ≡ false
no_longer a c [] = refl
no_longer a c (b ∷ bs) = long_ends a c b

short_token_at : (a : ℕ) (bs : List ℕ) (s : Sign) → short_sign a ≡ Some s → begins (begins_longer (a ∷ [])) bs ≡ false → IsTokenAt (a ∷ bs) (token.Sign s) 1
short_token_at a bs s e ends = record {
  lexeme = Mark s;
  some = omega arith;
  inside = omega arith;
  stands = record { spelled = short_spelled a s e; ends = ends };
  is_token = refl;
}

long_token_at : (a c : ℕ) (bs : List ℕ) (s : Sign) → long_sign a c ≡ Some s → IsTokenAt (a ∷ c ∷ bs) (token.Sign s) 2
long_token_at a c bs s e = record {
  lexeme = Mark s;
  some = omega arith;
  inside = omega arith;
  stands = record { spelled = long_spelled a c s e; ends = no_longer a c bs };
  is_token = refl;
}

pub sized_is : (o : Option Sign) (size : ℕ) (other : Option (Sign × ℕ)) (s : Sign) (n : ℕ) → sized o size other ≡ Some (s, n)
    → ((o ≡ Some s) × (size ≡ n)) ⊎ ((o ≡ None) × (other ≡ Some (s, n)))
sized_is None size other s n e = inr (refl, e)
sized_is (Some x) size other s n e = let same = some_pair_parts x s size n e in inl (ap Some same.0, same.1)

pub short_is : (a : ℕ) (s : Sign) (n : ℕ) → sized (short_sign a) 1 None ≡ Some (s, n) → (short_sign a ≡ Some s) × (1 ≡ n)
short_is a s n e = elim (sized_is (short_sign a) 1 None s n e) [
  | inl found ↦ found
  | inr none ↦ absurd (none-some (s, n) none.1)
]

-- the sign that is read stands at the front
pub sign_token_at : (text : List ℕ) (s : Sign) (n : ℕ) → begins_gap text ≡ false → sign_front text ≡ Some (s, n) → IsTokenAt text (token.Sign s) n
sign_token_at [] s n g e = absurd (none-some (s, n) e)
sign_token_at (a ∷ []) s n g e =
    let found = short_is a s n e in
    subst (IsTokenAt (a ∷ []) (token.Sign s)) found.1 (short_token_at a [] s found.0 refl)
sign_token_at (a ∷ c ∷ bs) s n g e = elim (sized_is (long_sign a c) 2 (sized (short_sign a) 1 None) s n e) [
  | inl found ↦ subst (IsTokenAt (a ∷ c ∷ bs) (token.Sign s)) found.1 (long_token_at a c bs s found.0)
  | inr other ↦
      let found = short_is a s n other.1 in
      subst (IsTokenAt (a ∷ c ∷ bs) (token.Sign s)) found.1 (short_token_at a (c ∷ bs) s found.0 (short_ends a c other.0 g))
]

one_spelling : (word bytes : List ℕ) → has same_name (word ∷ []) bytes ≡ true → bytes ≡ word
one_spelling word bytes e = elim (or_cases (same_name bytes word) false e) [
  | inl same ↦ (bytes_decides bytes word).0 same
  | inr none ↦ absurd (false≢true none)
]

two_spellings : (word other bytes : List ℕ) → has same_name (word ∷ other ∷ []) bytes ≡ true → (bytes ≡ word) ⊎ (bytes ≡ other)
two_spellings word other bytes e = elim (or_cases (same_name bytes word) _ e) [
  | inl same ↦ inl ((bytes_decides bytes word).0 same)
  | inr rest ↦ inr (one_spelling other bytes rest)
]

-- a sign of one byte is read whatever follows, unless a longer one stands there
alone : (a : ℕ) (s : Sign) (behind : List ℕ) → short_sign a ≡ Some s → ((c : ℕ) → begins_longer (a ∷ []) c ≡ false → long_sign a c ≡ None) → begins (begins_longer (a ∷ [])) behind ≡ false
    → sign_front (a ∷ behind) ≡ Some (s, 1)
alone a s [] e none ends = rw e refl
alone a s (c ∷ bs) e none ends = rw (none c ends, e) refl

pair : (a c : ℕ) (s : Sign) (behind : List ℕ) → long_sign a c ≡ Some s → sign_front (a ∷ c ∷ behind) ≡ Some (s, 2)
pair a c s behind e = rw e refl

-- the sign that stands at the front is read
spelled_front : (s : Sign) (bytes behind : List ℕ) → has same_name (spellings s) bytes ≡ true → begins (begins_longer bytes) behind ≡ false → sign_front (bytes ++ behind) ≡ Some (s, length bytes)
spelled_front sign.OpeningParenthesis bytes behind is ends = let e = one_spelling (40 ∷ []) bytes is in rw e (alone 40 sign.OpeningParenthesis behind refl (λ c other. refl) (rw e at ends))
spelled_front sign.ClosingParenthesis bytes behind is ends = let e = one_spelling (41 ∷ []) bytes is in rw e (alone 41 sign.ClosingParenthesis behind refl (λ c other. refl) (rw e at ends))
spelled_front sign.Comma bytes behind is ends = let e = one_spelling (44 ∷ []) bytes is in rw e (alone 44 sign.Comma behind refl (λ c other. refl) (rw e at ends))
spelled_front sign.Semicolon bytes behind is ends = let e = one_spelling (59 ∷ []) bytes is in rw e (alone 59 sign.Semicolon behind refl (λ c other. refl) (rw e at ends))
spelled_front sign.Point bytes behind is ends = let e = one_spelling (46 ∷ []) bytes is in rw e (alone 46 sign.Point behind refl (λ c other. refl) (rw e at ends))
spelled_front sign.Star bytes behind is ends = let e = one_spelling (42 ∷ []) bytes is in rw e (alone 42 sign.Star behind refl (λ c other. refl) (rw e at ends))
spelled_front sign.Plus bytes behind is ends = let e = one_spelling (43 ∷ []) bytes is in rw e (alone 43 sign.Plus behind refl (λ c other. refl) (rw e at ends))
spelled_front sign.Minus bytes behind is ends = let e = one_spelling (45 ∷ []) bytes is in rw e (alone 45 sign.Minus behind refl (λ c other. refl) (rw e at ends))
spelled_front sign.Equal bytes behind is ends = let e = one_spelling (61 ∷ []) bytes is in rw e (alone 61 sign.Equal behind refl (λ c other. refl) (rw e at ends))
spelled_front sign.Unequal bytes behind is ends = elim (two_spellings (60 ∷ 62 ∷ []) (33 ∷ 61 ∷ []) bytes is) [
  | inl e ↦ rw e (pair 60 62 sign.Unequal behind refl)
  | inr e ↦ rw e (pair 33 61 sign.Unequal behind refl)
]
spelled_front sign.Less bytes behind is ends = let e = one_spelling (60 ∷ []) bytes is in rw e (alone 60 sign.Less behind refl (λ c other. grind (arith, nat_tests)) (rw e at ends))
spelled_front sign.LessEqual bytes behind is ends = let e = one_spelling (60 ∷ 61 ∷ []) bytes is in rw e (pair 60 61 sign.LessEqual behind refl)
spelled_front sign.Greater bytes behind is ends = let e = one_spelling (62 ∷ []) bytes is in rw e (alone 62 sign.Greater behind refl (λ c other. grind (arith, nat_tests)) (rw e at ends))
spelled_front sign.GreaterEqual bytes behind is ends = let e = one_spelling (62 ∷ 61 ∷ []) bytes is in rw e (pair 62 61 sign.GreaterEqual behind refl)
spelled_front sign.Bars bytes behind is ends = let e = one_spelling (124 ∷ 124 ∷ []) bytes is in rw e (pair 124 124 sign.Bars behind refl)

pub mark_front : (s : Sign) (bytes behind : List ℕ) → StandsIn (Mark s) bytes behind → sign_front (bytes ++ behind) ≡ Some (s, length bytes)
mark_front s bytes behind stands = spelled_front s bytes behind stands.spelled stands.ends
