-- No name of a text is a keyword: a word of a text is a keyword, or else a name.
use Rattle.std.proofs.Common.{◌≡◌, ℕ, ◌+◌, ◌-◌, Bool, true, false, cond, List, [], ◌∷◌, ◌++◌, length, take, drop, Option, Some, None, Ok, Err, refl, sym, ap, subst, ◌∙◌, arith, append_assoc, length-append}
use Rattle.std.specs.Prelude.{slice_range}
use Rattle.std.specs.List.{list_all}
use Rattle.std.specs.Option.{is_none}
use Rattle.std.proofs.Math.Seq.{take-append_seam, drop-append_seam}
use Rattle.std.proofs.lemmas.Bool.{and_parts, and_from}
use Rattle.std.proofs.lemmas.Bool.Decides.{nat_tests}
use Rattle.bf_base.specs.Names.{lower_of, folded}
use Rattle.bf_lex.specs.declared.keyword.Keyword.{Keyword as KeywordCase}
use Rattle.bf_lex.specs.declared.sign.Sign.{Sign as SignCase}
use Rattle.bf_lex.specs.declared.sign.Sign.TheVariants as sign
use Rattle.bf_lex.specs.declared.token.Token.{Token}
use Rattle.bf_lex.specs.declared.token.TokenKind.{TokenKind}
use Rattle.bf_lex.specs.declared.token.TokenKind.TheVariants as token
use Rattle.bf_lex.specs.Words.{keyword_of}
use Rattle.bf_lex.specs.Lexemes.{Lexeme, Word as WordLexeme, Digits, Quoted, Mark, Misfit, word_token, text_token, token_of}
use Rattle.bf_lex.specs.Lexing.{Front, IsLexed, IsNext}
use Rattle.bf_phrase.specs.Words.{sign_word, word_of, words_of, begins_with_number}
use Rattle.bf_phrase.specs.Steps.{Step, Say, Limit, fault_at, said, within}
use Rattle.bf_recover.specs.Spoken.{is_plain}
use Rattle.bf_run.proofs.saying.Gives.{is_plain_word, AreGood}

-- folding twice is folding once
lower_again : (b : ℕ) → lower_of (lower_of b) ≡ lower_of b
lower_again b = grind (arith, nat_tests)

folded_again : (bytes : List ℕ) → folded (folded bytes) ≡ folded bytes
folded_again [] = refl
folded_again (b ∷ bytes) = λ i. lower_again b i ∷ folded_again bytes i

-- ---- of lexemes a word alone is a name, and only one that is no keyword

name_word : (keyword : Option KeywordCase) (size : ℕ) → word_token keyword size ≡ Ok token.Name → keyword ≡ None
name_word (Some keyword) size e = cc
name_word None size e = refl

number_no_name : (b : Bool) (n : ℕ) (fault : Misfit) → cond b (Ok (token.Number n)) (Err fault) ≡ Ok token.Name → ⊥
number_no_name true n fault e = cc
number_no_name false n fault e = cc

text_no_name : (b : Bool) (bad : Option ℕ) (fault : Misfit) → cond b (text_token bad) (Err fault) ≡ Ok token.Name → ⊥
text_no_name true (Some at) fault e = cc
text_no_name true None fault e = cc
text_no_name false bad fault e = cc

name_no_keyword : (lexeme : Lexeme) (bytes : List ℕ) → token_of lexeme bytes ≡ Ok token.Name → keyword_of (folded bytes) ≡ None
name_no_keyword WordLexeme bytes e = name_word (keyword_of (folded bytes)) (length bytes) e
name_no_keyword Digits bytes e = absurd (number_no_name _ _ _ e)
name_no_keyword (Quoted content) bytes e = absurd (text_no_name _ _ _ e)
name_no_keyword (Mark s) bytes e = cc

no_keyword_plain : (bytes : List ℕ) → keyword_of (folded bytes) ≡ None → is_plain (folded bytes) ≡ true
no_keyword_plain bytes e = rw (folded_again bytes, e) refl

-- ---- the words of a text

sign_plain : (s : SignCase) (number_behind : Bool) → is_plain_word (sign_word s number_behind) ≡ true
sign_plain sign.Minus number_behind = refl
sign_plain any number_behind = refl

word_plain : (k : TokenKind) (bytes : List ℕ) (number_behind : Bool) → (k ≡ token.Name → is_plain (folded bytes) ≡ true) → is_plain_word (word_of k bytes number_behind) ≡ true
word_plain (token.Keyword keyword) bytes number_behind named = refl
word_plain token.Name bytes number_behind named = named refl
word_plain (token.Number n) bytes number_behind named = refl
word_plain token.Text bytes number_behind named = refl
word_plain (token.Sign s) bytes number_behind named = sign_plain s number_behind

-- the bytes that stand behind others
range_behind : (before bytes behind : List ℕ) (at end : ℕ) → at ≡ length before → end ≡ at + length bytes → slice_range (before ++ (bytes ++ behind)) at end ≡ bytes
range_behind before bytes behind at end starts ends =
    let size : end - at ≡ length bytes = omega arith in
    ap (λ (n : ℕ). take n (drop at (before ++ (bytes ++ behind)))) size
    ∙ ap (λ (n : ℕ). take (length bytes) (drop n (before ++ (bytes ++ behind)))) starts
    ∙ ap (λ (xs : List ℕ). take (length bytes) xs) (drop-append_seam before (bytes ++ behind))
    ∙ take-append_seam bytes behind

-- the next token behind others: its word is plain, and it ends where the rest begins
record IsPlainNext (text : List ℕ) (t : Token) (behind : List ℕ) : Type 0 where
  plain : (number_behind : Bool) → is_plain_word (word_of t.kind (slice_range text t.at t.end) number_behind) ≡ true
  front : List ℕ
  split : text ≡ front ++ behind
  place : t.end ≡ length front

plain_next : (text before rest : List ℕ) (t : Token) (behind : List ℕ) → text ≡ before ++ rest → IsNext (length before) rest t behind → IsPlainNext text t behind
plain_next text before rest t behind split n =
    let begins : t.at ≡ length before + length n.gap = n.begins_at in
    let ends : t.end ≡ t.at + length n.bytes = n.ends_at in
    let whole : text ≡ (before ++ n.gap) ++ (n.bytes ++ behind) = split ∙ ap (λ (xs : List ℕ). before ++ xs) n.split ∙ sym (append_assoc before n.gap (n.bytes ++ behind)) in
    let bytes : slice_range text t.at t.end ≡ n.bytes =
    ap (λ (xs : List ℕ). slice_range xs t.at t.end) whole ∙ range_behind (before ++ n.gap) n.bytes behind t.at t.end (begins ∙ sym (length-append before n.gap)) ends in
    record {
      plain = λ number_behind.
          subst (λ (xs : List ℕ). is_plain_word (word_of t.kind xs number_behind) ≡ true) (sym bytes)
          (word_plain t.kind n.bytes number_behind (λ named. no_keyword_plain n.bytes (name_no_keyword n.lexeme n.bytes (n.is_token ∙ ap Ok named))));
      front = (before ++ n.gap) ++ n.bytes;
      split = whole ∙ sym (append_assoc (before ++ n.gap) n.bytes behind);
      place = omega (arith, length-append (before ++ n.gap) n.bytes, length-append before n.gap);
    }

front_plain : (text : List ℕ) (ts : List Token) (before rest : List ℕ) (place : ℕ) (last : List ℕ) → text ≡ before ++ rest → Front (length before) rest ts place last
    → list_all is_plain_word (words_of text ts) ≡ true
front_plain text [] before rest place last split f = refl
front_plain text (t ∷ ts) before rest place last split f =
    let next = plain_next text before rest t f.0 split f.1 in
    let later = front_plain text ts next.front f.0 place last next.split (subst (λ (n : ℕ). Front n f.0 ts place last) next.place f.2) in
    and_from _ _ (next.plain (begins_with_number ts)) later

-- each word of a text that is lexed is plain
pub words_plain : (text : List ℕ) (ts : List Token) → IsLexed text (Ok ts) → list_all is_plain_word (words_of text ts) ≡ true
words_plain text ts h = front_plain text ts [] text h.place h.rest refl h.front

-- steps within the limits whose words are plain are good
pub steps_good : (steps : List Step) → list_all is_plain_word (said steps) ≡ true → within steps ≡ true → AreGood steps
steps_good [] plain inside = refl
steps_good (Say w ∷ steps) plain inside =
    let parts = and_parts (is_plain_word w) (list_all is_plain_word (said steps)) plain in
    and_from _ _ parts.0 (steps_good steps parts.1 inside)
steps_good (Limit mark ∷ steps) plain inside =
    let parts = and_parts (is_none (fault_at mark)) (within steps) inside in
    and_from _ _ parts.0 (steps_good steps plain parts.1)
