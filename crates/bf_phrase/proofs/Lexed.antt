-- The tokens that a text is lexed as are tokens, and no more than its bytes.
use Rattle.std.proofs.Common.{◌≡◌, ℕ, suc, ◌+◌, ◌-◌, ◌≤◌, ◌^◌, Bool, true, false, not, cond, leb, List, [], ◌∷◌, ◌++◌, length, take, drop, flat_map, Option, Some, None, Ok, Err, refl, sym, ap, subst, ◌∙◌, inl, inr, arith, append_assoc, length-append}
use Rattle.std.proofs.Math.Seq.{take-append_seam, drop-append_seam}
use Rattle.std.proofs.Math.Numerals.{one-add}
use Rattle.std.proofs.lemmas.Bool.{and_parts, and_from, cases_eq, leb-true}
use Rattle.std.proofs.lemmas.List.{length-map, take_all}
use Rattle.std.proofs.lemmas.Bool.Decides.{nat_tests}
use Rattle.std.proofs.lemmas.List.Folds.{list_all-append}
use Rattle.std.specs.Prelude.{slice_range, position}
use Rattle.std.specs.List.{list_all, prefix_len}
use Rattle.bf_base.specs.Names.{is_lower, is_name, is_name_byte, lower_of, folded}
use Rattle.bf_base.specs.Texts.{is_text_byte, first_bad_of}
use Rattle.bf_lex.specs.declared.fault.ScriptKind.{ScriptKind}
use Rattle.bf_lex.specs.declared.fault.ScriptKind.TheVariants as kind
use Rattle.bf_lex.specs.declared.keyword.Keyword.{Keyword as KeywordCase}
use Rattle.bf_lex.specs.declared.token.Token.{Token}
use Rattle.bf_lex.specs.declared.token.TokenKind.{TokenKind}
use Rattle.bf_lex.specs.declared.token.TokenKind.TheVariants as token
use Rattle.bf_lex.specs.Bytes.{is_letter, is_word_byte, quote}
use Rattle.bf_lex.specs.Words.{keyword_of}
use Rattle.bf_lex.specs.Lexemes.{Lexeme, Word, Digits, Quoted, Mark, StandsIn, doubled, is_word, number_from, quoted, text_token, token_of, word_token}
use Rattle.bf_lex.specs.Lexing.{Front, IsLexed, IsNext}
use Rattle.bf_lex.proofs.Firsts.{some_bytes}
use Rattle.bf_lex.proofs.Fronts.{passes}
use Rattle.bf_lex.proofs.Quotes.{plain}
use Rattle.bf_phrase.specs.Tokens.{AreTokens, AreTokensAs, IsSpelling, IsTokenOf}

-- ---- what a token of each kind can be spelled as

letter_lower : (b : ℕ) → is_letter b ≡ true → is_lower (lower_of b) ≡ true
letter_lower b e = grind (arith, nat_tests)

byte_lower : (b : ℕ) → is_word_byte b ≡ true → is_name_byte (lower_of b) ≡ true
byte_lower b e = grind (arith, nat_tests)

bytes_lower : (bs : List ℕ) → list_all is_word_byte bs ≡ true → list_all is_name_byte (folded bs) ≡ true
bytes_lower [] e = refl
bytes_lower (b ∷ bs) e = let p = and_parts _ _ e in and_from _ _ (byte_lower b p.0) (bytes_lower bs p.1)

short : (bs : List ℕ) → length bs ≤ 62 → leb (length (folded bs)) 62 ≡ true
short bs h = let same : length (folded bs) ≡ length bs = length-map bs lower_of in rw same (grind (arith, nat_tests))

is_folded : (bytes : List ℕ) → is_word bytes ≡ true → length bytes ≤ 63 → is_name (folded bytes) ≡ true
is_folded [] e h = absurd cc
is_folded (b ∷ bs) e h =
    let p = and_parts _ _ e in
    and_from _ _ (and_from _ _ (letter_lower b p.0) (short bs (omega arith))) (bytes_lower bs p.1)

-- what is taken under a test
under : (b : Bool) (k : TokenKind) (fault : ScriptKind × ℕ) (found : TokenKind) → cond b (Ok k) (Err fault) ≡ Ok found → (b ≡ true) × (found ≡ k)
under true k fault found e = (refl, cc)
under false k fault found e = absurd cc

word_spelled : (keyword : Option KeywordCase) (bytes : List ℕ) (found : TokenKind) → is_word bytes ≡ true → word_token keyword (length bytes) ≡ Ok found → IsSpelling found bytes
word_spelled (Some keyword) bytes found e h = let same : token.Keyword keyword ≡ found = cc in subst (λ (k : TokenKind). IsSpelling k bytes) same tt
word_spelled None bytes found e h =
    let u = under (leb (length bytes) 63) token.Name (kind.NameTooLong, 0) found h in
    subst (λ (k : TokenKind). IsSpelling k bytes) (sym u.1) (is_folded bytes e (leb-true _ _ u.0))

full : (p : ℕ → Bool) (bs : List ℕ) → list_all p bs ≡ true → prefix_len p bs ≡ length bs
full p [] e = refl
full p (b ∷ bs) e =
    let h : (p b ≡ true) × (list_all p bs ≡ true) = and_parts (p b) (list_all p bs) e in
    let first : p b ≡ true = h.0 in
    rw (first, one-add) (ap suc (full p bs h.1))

no_position : (test : ℕ → Bool) (xs : List ℕ) → position test xs ≡ None → length xs ≤ prefix_len (λ x. not (test x)) xs
no_position test xs e = grind (arith, nat_tests)

no_bad : (test : ℕ → Bool) (bs : List ℕ) → position test bs ≡ None → list_all (λ b. not (test b)) bs ≡ true
no_bad test bs e =
    ap (λ (xs : List ℕ). list_all (λ b. not (test b)) xs) (sym (take_all (prefix_len (λ b. not (test b)) bs) bs (no_position test bs e)))
    ∙ passes (λ b. not (test b)) bs

position_past : (test : ℕ → Bool) (bs : List ℕ) → prefix_len (λ b. not (test b)) bs ≡ length bs → position test bs ≡ None
position_past test bs e = grind (arith, nat_tests)

doubled_first : (p : ℕ → Bool) (b : ℕ) → list_all p (doubled b) ≡ true → p b ≡ true
doubled_first p b e = elim (cases_eq b 39) [
  | inl at_quote ↦
      let f : list_all p (doubled 39) ≡ true = ap (λ (n : ℕ). list_all p (doubled n)) (sym at_quote) ∙ e in
      ap p at_quote ∙ (and_parts _ _ f).0
  | inr other ↦
      let f : list_all p (b ∷ []) ≡ true = ap (λ (bs : List ℕ). list_all p bs) (sym (plain b other)) ∙ e in
      (and_parts _ _ f).0
]

content_passes : (p : ℕ → Bool) (content : List ℕ) → list_all p (flat_map doubled content) ≡ true → list_all p content ≡ true
content_passes p [] e = refl
content_passes p (b ∷ bs) e =
    let parts = and_parts (list_all p (doubled b)) (list_all p (flat_map doubled bs)) (sym (list_all-append p (doubled b) (flat_map doubled bs)) ∙ e) in
    and_from _ _ (doubled_first p b parts.0) (content_passes p bs parts.1)

-- where no byte between the quotes is bad, none of the content is
content_printable : (content : List ℕ) → first_bad_of (quoted content) ≡ None → first_bad_of content ≡ None
content_printable content e =
    let good : ℕ → Bool = λ b. not (not (is_text_byte b)) in
    let inner = (and_parts (good quote) (list_all good (flat_map doubled content ++ quote ∷ [])) (no_bad (λ b. not (is_text_byte b)) (quoted content) e)).1 in
    let parts = and_parts (list_all good (flat_map doubled content)) (list_all good (quote ∷ [])) (sym (list_all-append good (flat_map doubled content) (quote ∷ [])) ∙ inner) in
    position_past (λ b. not (is_text_byte b)) content (full good content (content_passes good content parts.0))

text_found : (bad : Option ℕ) (found : TokenKind) → text_token bad ≡ Ok found → (bad ≡ None) × (found ≡ token.Text)
text_found (Some bad) found e = absurd cc
text_found None found e = (refl, cc)

text_under : (b : Bool) (bad : Option ℕ) (found : TokenKind) → cond b (text_token bad) (Err (kind.TextTooLong, 0)) ≡ Ok found → (b ≡ true) × (text_token bad ≡ Ok found)
text_under true bad found e = (refl, e)
text_under false bad found e = absurd cc

spelled : (lexeme : Lexeme) (bytes behind : List ℕ) (found : TokenKind) → StandsIn lexeme bytes behind → token_of lexeme bytes ≡ Ok found → IsSpelling found bytes
spelled Word bytes behind found stands e = word_spelled (keyword_of (folded bytes)) bytes found stands.spelled e
spelled Digits bytes behind found stands e =
    let u = under (leb (number_from 0 bytes) (2 ^ 63)) (token.Number (number_from 0 bytes)) (kind.NumberTooWide, 0) found e in
    subst (λ (k : TokenKind). IsSpelling k bytes) (sym u.1) (leb-true _ _ u.0)
spelled (Quoted content) bytes behind found stands e =
    let u = text_under (leb (length content) 255) (first_bad_of bytes) found e in
    let t = text_found (first_bad_of bytes) found u.1 in
    let printable : first_bad_of content ≡ None = content_printable content (ap first_bad_of (sym stands.spelled) ∙ t.0) in
    subst (λ (k : TokenKind). IsSpelling k bytes) (sym t.1) (content, record { short = leb-true _ _ u.0; printable = printable }, stands.spelled)
spelled (Mark sign) bytes behind found stands e = let same : token.Sign sign ≡ found = cc in subst (λ (k : TokenKind). IsSpelling k bytes) same tt

-- ---- where a token stands

bytes_at : (before gap bytes behind : List ℕ) (at end : ℕ) → at ≡ length before + length gap → end ≡ at + length bytes → slice_range (before ++ (gap ++ (bytes ++ behind))) at end ≡ bytes
bytes_at before gap bytes behind at end starts ends =
    let size : end - at ≡ length bytes = omega arith in
    let place : at ≡ length (before ++ gap) = starts ∙ sym (length-append before gap) in
    let whole : before ++ (gap ++ (bytes ++ behind)) ≡ (before ++ gap) ++ (bytes ++ behind) = sym (append_assoc before gap (bytes ++ behind)) in
    ap (λ (n : ℕ). take n (drop at (before ++ (gap ++ (bytes ++ behind))))) size
    ∙ ap (λ (n : ℕ). take (length bytes) (drop n (before ++ (gap ++ (bytes ++ behind))))) place
    ∙ ap (λ (xs : List ℕ). take (length bytes) (drop (length (before ++ gap)) xs)) whole
    ∙ ap (λ (xs : List ℕ). take (length bytes) xs) (drop-append_seam (before ++ gap) (bytes ++ behind))
    ∙ take-append_seam bytes behind

-- the token at the front of what stands behind others
front_token : (text before rest : List ℕ) (t : Token) (behind : List ℕ) → text ≡ before ++ rest → IsNext (length before) rest t behind → IsTokenOf text t
front_token text before rest t behind split n =
    let whole : text ≡ before ++ (n.gap ++ (n.bytes ++ behind)) = split ∙ ap (λ (xs : List ℕ). before ++ xs) n.split in
    let bytes : slice_range text t.at t.end ≡ n.bytes =
    ap (λ (xs : List ℕ). slice_range xs t.at t.end) whole ∙ bytes_at before n.gap n.bytes behind t.at t.end n.begins_at n.ends_at in
    let size : length text ≡ length before + (length n.gap + (length n.bytes + length behind)) =
    ap length whole ∙ length-append before (n.gap ++ (n.bytes ++ behind)) ∙ ap (λ (k : ℕ). length before + k) (length-append n.gap (n.bytes ++ behind) ∙ ap (λ (k : ℕ). length n.gap + k) (length-append n.bytes behind)) in
    let begins = n.begins_at in
    let ends = n.ends_at in record {
      begins_inside = omega arith;
      ends_inside = omega arith;
      spelled = subst (λ (xs : List ℕ). IsSpelling t.kind xs) (sym bytes) (spelled n.lexeme n.bytes behind t.kind n.stands n.is_token);
    }

-- what stands before the next token
record Moved (text before rest : List ℕ) (t : Token) (behind : List ℕ) : Type 0 where
  front : List ℕ
  split : text ≡ front ++ behind
  place : t.end ≡ length front

moved : (text before rest : List ℕ) (t : Token) (behind : List ℕ) → text ≡ before ++ rest → IsNext (length before) rest t behind → Moved text before rest t behind
moved text before rest t behind split n = record {
  front = (before ++ n.gap) ++ n.bytes;
  split =
      split ∙ ap (λ (xs : List ℕ). before ++ xs) n.split ∙ sym (append_assoc before n.gap (n.bytes ++ behind)) ∙ sym (append_assoc (before ++ n.gap) n.bytes behind);
  place =
      let begins = n.begins_at in
      let ends = n.ends_at in
      omega (arith, length-append (before ++ n.gap) n.bytes, length-append before n.gap);
}

front_tokens : (text : List ℕ) (ts : List Token) (before rest : List ℕ) (place : ℕ) (last : List ℕ) → text ≡ before ++ rest → Front (length before) rest ts place last → AreTokensAs text ts
front_tokens text [] before rest place last split f = tt
front_tokens text (t ∷ ts) before rest place last split f =
    let m = moved text before rest t f.0 split f.1 in
    (front_token text before rest t f.0 split f.1, front_tokens text ts m.front f.0 place last m.split (subst (λ (n : ℕ). Front n f.0 ts place last) m.place f.2))

front_few : (ts : List Token) (at : ℕ) (text : List ℕ) (place : ℕ) (last : List ℕ) → Front at text ts place last → length ts ≤ length text
front_few [] at text place last f = omega arith
front_few (t ∷ ts) at text place last f =
    let n = f.1 in
    let some = some_bytes n.lexeme n.bytes f.0 n.stands in
    let fewer = front_few ts t.end f.0 place last f.2 in
    omega (arith, ap length n.split, length-append n.gap (n.bytes ++ f.0), length-append n.bytes f.0)

pub lexed_tokens : (text : List ℕ) (ts : List Token) → IsLexed text (Ok ts) → AreTokens text ts
lexed_tokens text ts h = record { it = front_tokens text ts [] text h.place h.rest refl h.front }

pub few_tokens : (text : List ℕ) (ts : List Token) → IsLexed text (Ok ts) → length ts ≤ length text
few_tokens text ts h = front_few ts 0 text h.place h.rest h.front
