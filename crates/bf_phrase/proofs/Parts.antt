-- Lists of any rule, of at most 16 parts.
use Rattle.std.proofs.Common.{◌≡◌, ℕ, suc, ◌<◌, ◌≤◌, Bool, true, false, List, [], ◌∷◌, ◌++◌, length, Some, None, refl, sym, subst, arith, length-append}
use Rattle.std.proofs.lemmas.Bool.{lt-ltb, le-ltb}
use Rattle.std.specs.Prelude.{if◌then◌else◌, slice_range}
use Rattle.bf_lex.specs.declared.fault.ScriptKind.TheVariants.{TooManyColumns}
use Rattle.bf_lex.specs.declared.sign.Sign.{Sign as SignCase}
use Rattle.bf_lex.specs.declared.sign.Sign.TheVariants as sign
use Rattle.bf_lex.specs.declared.token.Token.{Token}
use Rattle.bf_lex.specs.declared.token.TokenKind.{TokenKind}
use Rattle.bf_lex.specs.declared.token.TokenKind.TheVariants as token
use Rattle.bf_phrase.specs.declared.cursor.Cursor.{Cursor}
use Rattle.bf_phrase.specs.declared.error.ReadStop.{ReadStop}
use Rattle.bf_phrase.specs.declared.error.ReadStop.TheVariants as stop
use Rattle.bf_phrase.specs.Words.{Word, Sign, sign_word, word_of, words_of, begins_with_number}
use Rattle.bf_phrase.specs.Steps.{Step, Part, said, fault_at}
use Rattle.bf_phrase.specs.Rules.{Marked, Listed, Others}
use Rattle.bf_phrase.specs.Reading.{Reading, Read, Over, Stuck, Fits}
use Rattle.bf_phrase.specs.Outcome.{IsBehind, stopped}
use Rattle.bf_phrase.specs.Cursors.{IsPlace, words, left}
use Rattle.bf_phrase.specs.Tokens.{IsSpelling, AreTokensAs}
use Rattle.bf_phrase.specs.First.{begins}
use Rattle.bf_phrase.specs.Follow.{follow_list}
use Rattle.bf_phrase.specs.Parts.{IsPart, IsSayable}
use Rattle.bf_phrase.proofs.Fitting.{mark_over, mark_stuck}
use Rattle.bf_phrase.proofs.Beginnings.{not_begun}
use Rattle.bf_phrase.proofs.Chains.{or_left}
use Rattle.bf_phrase.proofs.Moves.{Can, then_can, marked_can, others_passed, others_can, others_comma, marked_go, then_go, then_stop}
use Rattle.bf_phrase.proofs.Places.{length-words}

-- ---- what the words of tokens can be

abbrev pub Sayable : List Word → Type 0
Sayable [] = Unit {0}
Sayable (w ∷ ws) = IsSayable w

sign_sayable : (s : SignCase) (flag : Bool) → IsSayable (sign_word s flag)
sign_sayable sign.Minus flag = tt
sign_sayable other flag = tt

kind_sayable : (k : TokenKind) (bytes : List ℕ) (flag : Bool) → IsSpelling k bytes → IsSayable (word_of k bytes flag)
kind_sayable (token.Keyword k) bytes flag h = tt
kind_sayable token.Name bytes flag h = tt
kind_sayable (token.Number n) bytes flag h = h
kind_sayable token.Text bytes flag h = tt
kind_sayable (token.Sign s) bytes flag h = sign_sayable s flag

words_sayable : (text : List ℕ) (ts : List Token) → AreTokensAs text ts → Sayable (words_of text ts)
words_sayable text [] h = tt
words_sayable text (t ∷ ts) h = kind_sayable t.kind (slice_range text t.at t.end) (begins_with_number ts) h.0.spelled

pub place_sayable : (c : Cursor) → IsPlace c → Sayable (words c)
place_sayable c place = words_sayable c.text.now c.tokens.now place.it

-- ---- the limit of parts

pub part_low : (n : ℕ) → n < 16 → fault_at (Part (suc n)) ≡ None
part_low n low = rw (le-ltb 16 (suc n) (omega arith)) refl

pub part_high : (n : ℕ) → 16 ≤ n → fault_at (Part (suc n)) ≡ Some TooManyColumns
part_high n high = rw (lt-ltb 16 (suc n) (omega arith)) refl

module _ {A : Type 0} {v first_word : Word → Bool} {G : List Step → A → Type 0} where
  part_over : (n : ℕ) (ws : List Word) → IsPart v first_word G → 16 ≤ n → Sayable ws → begins first_word ws ≡ true → Fits v (Marked (Part (suc n)) G) ws (Over TooManyColumns (length ws))
  part_over n [] part high real e = absurd cc
  part_over n (t ∷ ws) part high real e = let s = part.starts t real e in record { it = mark_over v (Part (suc n)) G s.0 t (t ∷ ws) ws TooManyColumns (part_high n high) refl s.1 s.2 }

  part_stuck : (n : ℕ) (ws : List Word) → IsPart v first_word G → begins first_word ws ≡ false → Fits v (Marked (Part (suc n)) G) ws (Stuck (length ws))
  part_stuck n ws part e = record { it = mark_stuck v (Part (suc n)) G ws part.some (λ s b back g ends same. not_begun first_word (said s) back ws e (part.opens s b g) same) }

  by_flag : (flag : Bool) (n k : ℕ) (ws : List Word) → length ws ≡ k → IsPart v first_word G → 16 ≤ n → Sayable ws → begins first_word ws ≡ flag
      → Fits v (Marked (Part (suc n)) G) ws (stopped (if flag then stop.Limit TooManyColumns k else stop.Syntax k))
  by_flag true n k ws e part high real h = subst (λ (z : ℕ). Fits v (Marked (Part (suc n)) G) ws (Over TooManyColumns z)) e (part_over n ws part high real h)
  by_flag false n k ws e part high real h = subst (λ (z : ℕ). Fits v (Marked (Part (suc n)) G) ws (Stuck z)) e (part_stuck n ws part h)

  -- the 17th part of a list, where it begins or not
  pub part_full : {n : ℕ} (behind : Cursor) (e : ReadStop) (flag : Bool) → IsPart v first_word G → IsPlace behind → flag ≡ begins first_word (words behind) → 16 ≤ n
      → e ≡ (if flag then stop.Limit TooManyColumns (left behind) else stop.Syntax (left behind)) → Fits v (Marked (Part (suc n)) G) (words behind) (stopped e)
  part_full {n = n} behind e flag part place is high fault =
      subst (λ (x : ReadStop). Fits v (Marked (Part (suc n)) G) (words behind) (stopped x)) (sym fault)
      (by_flag flag n (left behind) (words behind) (length-words behind.text.now behind.tokens.now) part high (place_sayable behind place) (sym is))

-- ---- lists

comma_goes : (v : Word → Bool) → v (Sign sign.Comma) ≡ false → follow_list v (Sign sign.Comma) ≡ true
comma_goes v e = rw e refl

module _ {A : Type 0} {v first_word : Word → Bool} {G : List Step → A → Type 0} where
  pub list_stop : {ws : List Word} (e : ReadStop) → IsPart v first_word G → Fits v G ws (stopped e) → Fits (follow_list v) (Listed G) ws (stopped e)
  list_stop e part f = then_stop e (others_passed 1 [] part.comma (λ t h. or_left _ _ h)) (λ a. others_can) (marked_go refl f)

  pub list_can : IsPart v first_word G → Can (Listed G)
  list_can part = then_can (marked_can (record { it = part.some })) (λ a. others_can)

  pub list_closing : IsPart v first_word G → follow_list v (Sign sign.ClosingParenthesis) ≡ false
  list_closing part = rw part.closing refl

  pub list_begin : {ws mid : List Word} {a : A} {r : Reading (List A)} → IsPart v first_word G → Fits v G ws (Read a mid) → Fits (follow_list v) (Others G 2 (a ∷ [])) mid r → Fits (follow_list v) (Listed G) ws r
  list_begin part f h = then_go (others_passed 1 [] part.comma (λ t h. or_left _ _ h)) (marked_go refl f) h

  pub list_full : {n : ℕ} {acc : List A} {ws : List Word} (behind : Cursor) (e : ReadStop) (flag : Bool) → IsPart v first_word G → IsPlace behind → IsBehind (Sign sign.Comma) ws (Some (words behind))
      → flag ≡ begins first_word (words behind) → 16 ≤ n → e ≡ (if flag then stop.Limit TooManyColumns (left behind) else stop.Syntax (left behind)) → Fits (follow_list v) (Others G (suc n) acc) ws (stopped e)
  list_full {n = n} {acc = acc} behind e flag part place comma is high fault =
      others_comma (comma_goes v part.comma) comma (then_stop e (others_passed (suc n) acc part.comma (λ t h. or_left _ _ h)) (λ a. others_can) (part_full behind e flag part place is high fault))

  pub list_part_stop : {n : ℕ} {acc : List A} {ws rest : List Word} (e : ReadStop) → IsPart v first_word G → n < 16 → IsBehind (Sign sign.Comma) ws (Some rest) → Fits v G rest (stopped e) → Fits (follow_list v) (Others G (suc n) acc) ws (stopped e)
  list_part_stop {n = n} {acc = acc} e part low comma f =
      others_comma (comma_goes v part.comma) comma (then_stop e (others_passed (suc n) acc part.comma (λ t h. or_left _ _ h)) (λ a. others_can) (marked_go (part_low n low) f))

  pub list_more : {n : ℕ} {acc : List A} {ws rest mid : List Word} {a : A} {r : Reading (List A)} → IsPart v first_word G → n < 16 → IsBehind (Sign sign.Comma) ws (Some rest) → Fits v G rest (Read a mid)
      → Fits (follow_list v) (Others G (suc (suc n)) (acc ++ a ∷ [])) mid r → Fits (follow_list v) (Others G (suc n) acc) ws r
  list_more {n = n} {acc = acc} part low comma f h =
      others_comma (comma_goes v part.comma) comma (then_go (others_passed (suc n) acc part.comma (λ t h. or_left _ _ h)) (marked_go (part_low n low) f) h)

  -- where a vector holds the parts
  pub list_first : {items : List A} {ws mid : List Word} {a : A} {r : Reading (List A)} → IsPart v first_word G → Fits v G ws (Read a mid) → items ≡ a ∷ [] → Fits (follow_list v) (Others G (suc (length items)) items) mid r → Fits (follow_list v) (Listed G) ws r
  list_first {mid = mid} {r = r} part f e h = list_begin part f (subst (λ (z : List A). Fits (follow_list v) (Others G (suc (length z)) z) mid r) e h)

  pub list_next : (acc : List A) {items : List A} {ws rest mid : List Word} {a : A} {r : Reading (List A)} → IsPart v first_word G → length acc < 16 → IsBehind (Sign sign.Comma) ws (Some rest) → Fits v G rest (Read a mid) → items ≡ acc ++ a ∷ []
      → Fits (follow_list v) (Others G (suc (length items)) items) mid r → Fits (follow_list v) (Others G (suc (length acc)) acc) ws r
  list_next acc {mid = mid} {a = a} {r = r} part low comma f e h =
      let count : length (acc ++ a ∷ []) ≡ suc (length acc) = omega (arith, length-append acc (a ∷ [])) in
      let same : Fits (follow_list v) (Others G (suc (length (acc ++ a ∷ []))) (acc ++ a ∷ [])) mid r = subst (λ (z : List A). Fits (follow_list v) (Others G (suc (length z)) z) mid r) e h in
      list_more part low comma f (subst (λ (n : ℕ). Fits (follow_list v) (Others G (suc n) (acc ++ a ∷ [])) mid r) count same)
