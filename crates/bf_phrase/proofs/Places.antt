-- Words that are left.
use Rattle.std.proofs.Common.{◌≡◌, ℕ, suc, Bool, List, [], ◌∷◌, length, Some, None, Err, refl, sym, ap, subst, ◌∙◌, Bor}
use Rattle.std.specs.Prelude.{slice_range}
use Rattle.bf_lex.specs.Lexemes.{quoted}
use Rattle.bf_lex.specs.declared.sign.Sign.{Sign as SignCase}
use Rattle.bf_lex.specs.declared.sign.Sign.TheVariants as sign
use Rattle.bf_lex.specs.declared.token.Token.{Token}
use Rattle.bf_lex.specs.declared.token.TokenKind.{TokenKind}
use Rattle.bf_lex.specs.declared.token.TokenKind.TheVariants as token
use Rattle.bf_phrase.specs.declared.cursor.Cursor.{Cursor}
use Rattle.bf_phrase.specs.declared.error.ReadStop.TheVariants as stop
use Rattle.bf_phrase.specs.declared.start.Front.TheVariants as front
use Rattle.bf_phrase.specs.Words.{Word, Name, Text, sign_word, word_of, words_of, begins_with_number}
use Rattle.bf_phrase.specs.Cursors.{IsNext, words, left}
use Rattle.bf_phrase.specs.Tokens.{IsSpelling, IsTokenOf}
use Rattle.bf_phrase.specs.Reading.{first}
use Rattle.bf_phrase.specs.Outcome.{IsBehind, IsExpected, IsNamed}
use Rattle.bf_phrase.specs.Starts.{IsFront}
use Rattle.bf_phrase.proofs.Contents.{content-quoted}

pub length-words : (text : List ℕ) (ts : List Token) → length (words_of text ts) ≡ length ts
length-words text [] = refl
length-words text (t ∷ ts) = ap suc (length-words text ts)

pub not_behind : (word : Word) (text : List ℕ) (ts : List Token) → IsBehind word (words_of text ts) None → IsExpected word (words_of text ts) (Err (stop.Syntax (length ts)))
not_behind word text ts h = record { it = (sym (length-words text ts), h.it) }

-- the word of the first token, and those behind it
pub next_word : (c behind : Cursor) (t : Token) → IsNext c (Some (t, behind)) → words c ≡ word_of t.kind (slice_range c.text.now t.at t.end) (begins_with_number behind.tokens.now) ∷ words behind
next_word c behind t h =
    ap (λ (ts : List Token). words_of c.text.now ts) h.it.1
    ∙ ap (λ (text : List ℕ). word_of t.kind (slice_range c.text.now t.at t.end) (begins_with_number behind.tokens.now) ∷ words_of text behind.tokens.now) (sym h.it.0)

pub text_front : (c behind : Cursor) (t : Token) (bytes : Bor (List ℕ)) → IsNext c (Some (t, behind)) → IsTokenOf c.text.now t → t.kind ≡ token.Text → bytes.now ≡ slice_range c.text.now t.at t.end → IsFront (words c) (front.Text bytes behind)
text_front c behind t bytes next is_token is e =
    let spelled : IsSpelling token.Text (slice_range c.text.now t.at t.end) = subst (λ (k : TokenKind). IsSpelling k (slice_range c.text.now t.at t.end)) is is_token.spelled in
    let word : words c ≡ Text (spelled.0) ∷ words behind =
    next_word c behind t next
    ∙ ap (λ (k : TokenKind). word_of k (slice_range c.text.now t.at t.end) (begins_with_number behind.tokens.now) ∷ words behind) is
    ∙ ap (λ (content : List ℕ). Text content ∷ words behind) (content-quoted _ spelled.0 spelled.2) in
    record { it = (spelled.0, spelled.1, e ∙ spelled.2, word) }

sign_no_name : (s : SignCase) (b : Bool) (name : List ℕ) → sign_word s b ≡ Name name → ⊥
sign_no_name sign.Minus b name e = cc
sign_no_name other b name e = cc

kind_no_name : (k : TokenKind) (bytes : List ℕ) (b : Bool) (name : List ℕ) → (k ≡ token.Name → ⊥) → word_of k bytes b ≡ Name name → ⊥
kind_no_name (token.Keyword k) bytes b name not e = cc
kind_no_name token.Name bytes b name not e = not refl
kind_no_name (token.Number n) bytes b name not e = cc
kind_no_name token.Text bytes b name not e = cc
kind_no_name (token.Sign s) bytes b name not e = sign_no_name s b name e

pub no_name : (c behind : Cursor) (t : Token) → IsNext c (Some (t, behind)) → (t.kind ≡ token.Name → ⊥) → IsNamed (words c) (Err (stop.Syntax (left c)))
no_name c behind t next not = record {
  it = (
    sym (length-words c.text.now c.tokens.now),
    λ name e.
        let d : Some (word_of t.kind (slice_range c.text.now t.at t.end) (begins_with_number behind.tokens.now)) ≡ Some (Name name) = ap first (sym (next_word c behind t next)) ∙ e in
        let f : word_of t.kind (slice_range c.text.now t.at t.end) (begins_with_number behind.tokens.now) ≡ Name name = cc in
        kind_no_name t.kind (slice_range c.text.now t.at t.end) (begins_with_number behind.tokens.now) name not f,
  );
}

-- a quoted text has one content
pub text_word : (bytes inner content : List ℕ) (ws rest : List Word) → bytes ≡ quoted inner → bytes ≡ quoted content → ws ≡ Text inner ∷ rest → ws ≡ Text content ∷ rest
text_word bytes inner content ws rest e f word = word ∙ ap (λ (t : List ℕ). Text t ∷ rest) (sym (content-quoted bytes inner e) ∙ content-quoted bytes content f)
