-- What stands at the front of a text, as the functions read it.
use Rattle.std.proofs.Common.{◌≡◌, ℕ, ◌+◌, ◌<◌, ◌≤◌, Bool, true, List, [], ◌∷◌, length, take, drop, Ok, Err, refl, sym, ap, ◌∙◌, inl, arith}
use Rattle.std.specs.List.{prefix_len}
use Rattle.std.proofs.Math.Numerals.{add-one, one-add}
use Rattle.std.proofs.lemmas.Bool.{and_from, eqb-true}
use Rattle.std.proofs.lemmas.List.{take-append-drop, length-take-le}
use Rattle.std.proofs.lemmas.List.Sums.{prefix_len-le-length}
use Rattle.bf_base.specs.Names.{is_digit}
use Rattle.bf_lex.specs.declared.fault.ScriptKind.{ScriptKind}
use Rattle.bf_lex.specs.declared.token.TokenKind.{TokenKind}
use Rattle.bf_lex.specs.Bytes.{is_letter, is_word_byte, quote, is_quote, begins}
use Rattle.bf_lex.specs.Lexemes.{Lexeme, Word, Digits, Quoted, is_word, is_number, StandsIn, token_of}
use Rattle.bf_lex.specs.Lexing.{IsWrong}
use Rattle.bf_lex.specs.Reading.{IsTokenAt, IsClosed}
use Rattle.bf_lex.proofs.Fronts.{passes, stops}

-- a lexeme of so many bytes stands at the front
abbrev pub Stands : Lexeme → List ℕ → ℕ → Type 0
Stands lexeme text size = StandsIn lexeme (take size text) (drop size text)

pub read : (lexeme : Lexeme) (text bytes : List ℕ) (size : ℕ) (kind : TokenKind)
    → Stands lexeme text size → 0 < size → size ≤ length text → bytes ≡ take size text → token_of lexeme bytes ≡ Ok kind
    → IsTokenAt text kind (length bytes)
read lexeme text bytes size kind stands some inside front is_token =
    let counted : length bytes ≡ size = ap length front ∙ length-take-le size text inside in
    rw counted (record { lexeme = lexeme; some = some; inside = inside; stands = stands; is_token = rw front at is_token })

pub misread : (lexeme : Lexeme) (text bytes : List ℕ) (size : ℕ) (kind : ScriptKind) (offset : ℕ)
    → Stands lexeme text size → bytes ≡ take size text → token_of lexeme bytes ≡ Err (kind, offset)
    → IsWrong text kind offset
misread lexeme text bytes size kind offset stands front no_token = inl (record {
  bytes = take size text;
  behind = drop size text;
  lexeme = lexeme;
  split = sym (take-append-drop size text);
  stands = stands;
  no_token = rw front at no_token;
})

some_passes : (test : ℕ → Bool) (text : List ℕ) → begins test text ≡ true → 0 < prefix_len test text
some_passes test [] e = absurd cc
some_passes test (b ∷ bs) e = rw e (omega arith)

letters_are_word_bytes : (text : List ℕ) → begins is_letter text ≡ true → begins is_word_byte text ≡ true
letters_are_word_bytes [] e = e
letters_are_word_bytes (b ∷ bs) e = rw e refl

is_word_front : (text : List ℕ) → begins is_letter text ≡ true → is_word (take (prefix_len is_word_byte text) text) ≡ true
is_word_front [] e = absurd cc
is_word_front (b ∷ bs) e =
    let all = passes is_word_byte bs in
    rw (letters_are_word_bytes (b ∷ bs) e, one-add) (and_from _ _ e all)

is_number_front : (text : List ℕ) → begins is_digit text ≡ true → is_number (take (prefix_len is_digit text) text) ≡ true
is_number_front [] e = absurd cc
is_number_front (b ∷ bs) e =
    let all = passes is_digit bs in
    rw (e, one-add) (and_from _ _ e all)

word_stands : (text : List ℕ) → begins is_letter text ≡ true → Stands Word text (prefix_len is_word_byte text)
word_stands text e = record { spelled = is_word_front text e; ends = stops is_word_byte text }

number_stands : (text : List ℕ) → begins is_digit text ≡ true → Stands Digits text (prefix_len is_digit text)
number_stands text e = record { spelled = is_number_front text e; ends = stops is_digit text }

pub read_word : (text bytes : List ℕ) (size : ℕ) (kind : TokenKind)
    → begins is_letter text ≡ true → size ≡ prefix_len is_word_byte text → bytes ≡ take size text → token_of Word bytes ≡ Ok kind
    → IsTokenAt text kind (length bytes)
read_word text bytes size kind e longest front is_token =
    let stands : Stands Word text size = rw longest (word_stands text e) in
    let some : 0 < size = rw longest (some_passes is_word_byte text (letters_are_word_bytes text e)) in
    let inside : size ≤ length text = rw longest (prefix_len-le-length is_word_byte text) in
    read Word text bytes size kind stands some inside front is_token

pub misread_word : (text bytes : List ℕ) (size : ℕ) (kind : ScriptKind) (offset : ℕ)
    → begins is_letter text ≡ true → size ≡ prefix_len is_word_byte text → bytes ≡ take size text → token_of Word bytes ≡ Err (kind, offset)
    → IsWrong text kind offset
misread_word text bytes size kind offset e longest front no_token =
    let stands : Stands Word text size = rw longest (word_stands text e) in
    misread Word text bytes size kind offset stands front no_token

pub read_number : (text bytes : List ℕ) (size : ℕ) (kind : TokenKind)
    → begins is_digit text ≡ true → size ≡ prefix_len is_digit text → bytes ≡ take size text → token_of Digits bytes ≡ Ok kind
    → IsTokenAt text kind (length bytes)
read_number text bytes size kind e longest front is_token =
    let stands : Stands Digits text size = rw longest (number_stands text e) in
    let some : 0 < size = rw longest (some_passes is_digit text e) in
    let inside : size ≤ length text = rw longest (prefix_len-le-length is_digit text) in
    read Digits text bytes size kind stands some inside front is_token

pub misread_number : (text bytes : List ℕ) (size : ℕ) (kind : ScriptKind) (offset : ℕ)
    → begins is_digit text ≡ true → size ≡ prefix_len is_digit text → bytes ≡ take size text → token_of Digits bytes ≡ Err (kind, offset)
    → IsWrong text kind offset
misread_number text bytes size kind offset e longest front no_token =
    let stands : Stands Digits text size = rw longest (number_stands text e) in
    misread Digits text bytes size kind offset stands front no_token

text_stands : (text : List ℕ) (size count : ℕ) → begins is_quote text ≡ true → (k : IsClosed (drop 1 text) size count) → Stands (Quoted k.content) text (size + 1)
text_stands [] size count e k = absurd cc
text_stands (a ∷ rest) size count e k =
    let opening : a ≡ quote = eqb-true a quote e in
    rw add-one (record {
      spelled = ap (λ (b : ℕ). b ∷ take size rest) opening ∙ ap (λ (bs : List ℕ). quote ∷ bs) k.closed;
      ends = k.ends;
    })

text_inside : (text : List ℕ) (size count : ℕ) → begins is_quote text ≡ true → IsClosed (drop 1 text) size count → size + 1 ≤ length text
text_inside [] size count e k = absurd cc
text_inside (a ∷ rest) size count e k = omega (arith, k.inside)

pub read_text : (text bytes : List ℕ) (size count : ℕ) (kind : TokenKind)
    → begins is_quote text ≡ true → (k : IsClosed (drop 1 text) size count) → bytes ≡ take (size + 1) text → token_of (Quoted k.content) bytes ≡ Ok kind
    → IsTokenAt text kind (length bytes)
read_text text bytes size count kind e k front is_token =
    read (Quoted k.content) text bytes (size + 1) kind (text_stands text size count e k) (omega arith) (text_inside text size count e k) front is_token

pub misread_text : (text bytes : List ℕ) (size count : ℕ) (kind : ScriptKind) (offset : ℕ)
    → begins is_quote text ≡ true → (k : IsClosed (drop 1 text) size count) → bytes ≡ take (size + 1) text → token_of (Quoted k.content) bytes ≡ Err (kind, offset)
    → IsWrong text kind offset
misread_text text bytes size count kind offset e k front no_token =
    misread (Quoted k.content) text bytes (size + 1) kind offset (text_stands text size count e k) front no_token
