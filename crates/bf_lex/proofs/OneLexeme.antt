-- One lexeme stands at the front of a text, and it begins no gap.
use Rattle.std.proofs.Common.{◌≡◌, ℕ, Bool, true, false, List, [], ◌∷◌, ◌++◌, length, take, drop, Some, None, refl, sym, subst, ap, ◌∙◌, inl, inr, arith}
use Rattle.std.specs.List.{list_all}
use Rattle.std.proofs.lemmas.Bool.{and_parts, and_from, both_ways, false≢true}
use Rattle.std.proofs.lemmas.Bool.Decides.{nat_tests}
use Rattle.std.proofs.lemmas.List.{take_at, drop_at}
use Rattle.std.proofs.lemmas.Option.{some_pair_parts}
use Rattle.bf_base.specs.Names.{is_digit}
use Rattle.bf_lex.specs.declared.sign.Sign.{Sign}
use Rattle.bf_lex.specs.Bytes.{is_letter, is_word_byte, begins}
use Rattle.bf_lex.specs.Lexemes.{Lexeme, Word, Digits, Quoted, Mark, StandsIn, is_word, is_number, quoted, begins_longer}
use Rattle.bf_lex.specs.Reading.{begins_gap, long_sign, short_sign, sized, sign_front}
use Rattle.bf_lex.proofs.Firsts.{one_start}
use Rattle.bf_lex.proofs.Quotes.{same_quoted}
use Rattle.bf_lex.proofs.Signs.{mark_front, sized_is, short_is}

-- bytes that pass a test, as many as possible
pub one_longest : (test : ℕ → Bool) (b c x y : List ℕ) → b ++ x ≡ c ++ y → list_all test b ≡ true → list_all test c ≡ true → begins test x ≡ false → begins test y ≡ false
    → (b ≡ c) × (x ≡ y)
one_longest test [] [] x y e all every ends others = (refl, e)
one_longest test [] (d ∷ ds) x y e all every ends others =
    let begun : begins test (d ∷ (ds ++ y)) ≡ false = subst (λ (bs : List ℕ). begins test bs ≡ false) e ends in
    absurd (both_ways (test d) begun (and_parts _ _ every).0)
one_longest test (d ∷ ds) [] x y e all every ends others =
    let begun : begins test (d ∷ (ds ++ x)) ≡ false = subst (λ (bs : List ℕ). begins test bs ≡ false) (sym e) others in
    absurd (both_ways (test d) begun (and_parts _ _ all).0)
one_longest test (d ∷ ds) (f ∷ fs) x y e all every ends others =
    let first : d ≡ f = cc in
    let behind : ds ++ x ≡ fs ++ y = cc in
    let rest = one_longest test ds fs x y behind (and_parts _ _ all).1 (and_parts _ _ every).1 ends others in
    (ap (λ (b : ℕ). b ∷ ds) first ∙ ap (λ (bs : List ℕ). f ∷ bs) rest.0, rest.1)

word_bytes : (bytes : List ℕ) → is_word bytes ≡ true → list_all is_word_byte bytes ≡ true
word_bytes [] e = refl
word_bytes (b ∷ bs) e =
    let letter : is_letter b ≡ true = (and_parts _ _ e).0 in
    let first : is_word_byte b ≡ true = rw letter refl in
    and_from _ _ first (and_parts _ _ e).1

digits : (bytes : List ℕ) → is_number bytes ≡ true → list_all is_digit bytes ≡ true
digits [] e = refl
digits (b ∷ bs) e = e

same_size : (b c x y : List ℕ) → b ++ x ≡ c ++ y → length b ≡ length c → (b ≡ c) × (x ≡ y)
same_size b c x y e n = (
  sym (take_at b x (length b) refl) ∙ ap (take (length b)) e ∙ take_at c y (length b) (sym n),
  sym (drop_at b x (length b) refl) ∙ ap (drop (length b)) e ∙ drop_at c y (length b) (sym n),
)

-- what two lexemes at one front share
pub record SameLexeme (l m : Lexeme) (b c x y : List ℕ) : Type 0 where
  pub lexeme : l ≡ m
  pub bytes : b ≡ c
  pub behind : x ≡ y

pub one_lexeme : (l m : Lexeme) (b c x y : List ℕ) → StandsIn l b x → StandsIn m c y → b ++ x ≡ c ++ y → SameLexeme l m b c x y
one_lexeme Word Word b c x y s t e =
    let same = one_longest is_word_byte b c x y e (word_bytes b s.spelled) (word_bytes c t.spelled) s.ends t.ends in
    record { lexeme = refl; bytes = same.0; behind = same.1 }
one_lexeme Digits Digits b c x y s t e =
    let same = one_longest is_digit b c x y e (digits b s.spelled) (digits c t.spelled) s.ends t.ends in
    record { lexeme = refl; bytes = same.0; behind = same.1 }
one_lexeme (Quoted d) (Quoted f) b c x y s t e =
    let spelled : quoted d ++ x ≡ quoted f ++ y = ap (λ (bs : List ℕ). bs ++ x) (sym s.spelled) ∙ e ∙ ap (λ (bs : List ℕ). bs ++ y) t.spelled in
    let same = same_quoted d f x y spelled s.ends t.ends in
    record { lexeme = ap Quoted same.0; bytes = s.spelled ∙ ap quoted same.0 ∙ sym t.spelled; behind = same.1 }
one_lexeme (Mark p) (Mark q) b c x y s t e =
    let found = some_pair_parts p q (length b) (length c) (sym (mark_front p b x s) ∙ ap sign_front e ∙ mark_front q c y t) in
    let same = same_size b c x y e found.1 in
    record { lexeme = ap Mark found.0; bytes = same.0; behind = same.1 }
one_lexeme Word Digits b c x y s t e = absurd (let p = one_start Word Digits b c x y s t e in cc)
one_lexeme Word (Quoted f) b c x y s t e = absurd (let p = one_start Word (Quoted f) b c x y s t e in cc)
one_lexeme Word (Mark q) b c x y s t e = absurd (let p = one_start Word (Mark q) b c x y s t e in cc)
one_lexeme Digits Word b c x y s t e = absurd (let p = one_start Digits Word b c x y s t e in cc)
one_lexeme Digits (Quoted f) b c x y s t e = absurd (let p = one_start Digits (Quoted f) b c x y s t e in cc)
one_lexeme Digits (Mark q) b c x y s t e = absurd (let p = one_start Digits (Mark q) b c x y s t e in cc)
one_lexeme (Quoted d) Word b c x y s t e = absurd (let p = one_start (Quoted d) Word b c x y s t e in cc)
one_lexeme (Quoted d) Digits b c x y s t e = absurd (let p = one_start (Quoted d) Digits b c x y s t e in cc)
one_lexeme (Quoted d) (Mark q) b c x y s t e = absurd (let p = one_start (Quoted d) (Mark q) b c x y s t e in cc)
one_lexeme (Mark p) Word b c x y s t e = absurd (let p = one_start (Mark p) Word b c x y s t e in cc)
one_lexeme (Mark p) Digits b c x y s t e = absurd (let p = one_start (Mark p) Digits b c x y s t e in cc)
one_lexeme (Mark p) (Quoted f) b c x y s t e = absurd (let p = one_start (Mark p) (Quoted f) b c x y s t e in cc)

letter_no_gap : (b : ℕ) (bs : List ℕ) → is_letter b ≡ true → begins_gap (b ∷ bs) ≡ false
letter_no_gap b bs e = grind (arith, nat_tests)

digit_no_gap : (b : ℕ) (bs : List ℕ) → is_digit b ≡ true → begins_gap (b ∷ bs) ≡ false
digit_no_gap b bs e = grind (arith, nat_tests)

short_no_gap : (a : ℕ) (s : Sign) → short_sign a ≡ Some s → begins_gap (a ∷ []) ≡ false
short_no_gap a s e = grind (arith, nat_tests)

short_before_no_gap : (a c : ℕ) (bs : List ℕ) (s : Sign) → short_sign a ≡ Some s → begins_longer (a ∷ []) c ≡ false → begins_gap (a ∷ c ∷ bs) ≡ false
short_before_no_gap a c bs s e ends = grind (arith, nat_tests)

long_no_gap : (a c : ℕ) (bs : List ℕ) (s : Sign) → long_sign a c ≡ Some s → begins_gap (a ∷ c ∷ bs) ≡ false
long_no_gap a c bs s e = grind (arith, nat_tests)

mark_no_gap : (s : Sign) (bytes behind : List ℕ) → sign_front (bytes ++ behind) ≡ Some (s, length bytes) → begins (begins_longer bytes) behind ≡ false → begins_gap (bytes ++ behind) ≡ false
mark_no_gap s [] [] e ends = refl
mark_no_gap s [] (a ∷ []) e ends = absurd (let found = short_is a s 0 e in omega arith)
mark_no_gap s [] (a ∷ c ∷ bs) e ends = elim (sized_is (long_sign a c) 2 (sized (short_sign a) 1 None) s 0 e) [
  | inl found ↦ absurd (omega arith)
  | inr other ↦ absurd (let found = short_is a s 0 other.1 in omega arith)
]
mark_no_gap s (a ∷ []) [] e ends = short_no_gap a s (short_is a s 1 e).0
mark_no_gap s (a ∷ []) (c ∷ bs) e ends = elim (sized_is (long_sign a c) 2 (sized (short_sign a) 1 None) s 1 e) [
  | inl found ↦ absurd (omega arith)
  | inr other ↦ short_before_no_gap a c bs s (short_is a s 1 other.1).0 ends
]
mark_no_gap s (a ∷ c ∷ bs) behind e ends = elim (sized_is (long_sign a c) 2 (sized (short_sign a) 1 None) s (length (a ∷ c ∷ bs)) e) [
  | inl found ↦ long_no_gap a c (bs ++ behind) s found.0
  | inr other ↦ absurd (let found = short_is a s (length (a ∷ c ∷ bs)) other.1 in omega arith)
]

pub lexeme_no_gap : (l : Lexeme) (bytes behind : List ℕ) → StandsIn l bytes behind → begins_gap (bytes ++ behind) ≡ false
lexeme_no_gap Word [] behind s = absurd (false≢true s.spelled)
lexeme_no_gap Word (b ∷ bs) behind s = letter_no_gap b (bs ++ behind) (and_parts _ _ s.spelled).0
lexeme_no_gap Digits [] behind s = absurd (false≢true s.spelled)
lexeme_no_gap Digits (b ∷ bs) behind s = digit_no_gap b (bs ++ behind) (and_parts _ _ s.spelled).0
lexeme_no_gap (Quoted content) bytes behind s = subst (λ (bs : List ℕ). begins_gap (bs ++ behind) ≡ false) (sym s.spelled) refl
lexeme_no_gap (Mark sign) bytes behind s = mark_no_gap sign bytes behind (mark_front sign bytes behind s) s.ends
