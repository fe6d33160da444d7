-- Texts that are put one behind the other, and what is left of them where memory runs out.
use Rattle.std.proofs.Common.{◌≡◌, ℕ, min, ◌+◌, List, [], ◌∷◌, ◌++◌, length, take, Result, Ok, Err, ◌∙◌, ap, sym, arith, append_assoc, append-nil}
use Rattle.std.specs.Result.{IsErr}
use Rattle.std.proofs.lemmas.List.{take-append-le, take_min}
use Rattle.std.proofs.Math.Seq.{take-append-add}
use Rattle.bf_base.specs.declared.memory.Memory.{Memory}
use Rattle.bf_text.specs.Puts.{Puts}

-- a front of a text is a front of it with more behind it
front : (text more : List ℕ) (n : ℕ) → take n text ≡ take (min n (length text)) (text ++ more)
front text more n = sym (take-append-le (min n (length text)) text more (omega arith) ∙ take_min n text)

-- where memory runs out, a front of the text stands
pub puts_front : (result : Result (Unit {0}) Memory) (text old new : List ℕ)
    → IsErr result → (n : ℕ) × (new ≡ old ++ take n text) → Puts result text old new
puts_front (Err out_of_memory) text old new fails ends = ends
puts_front (Ok done) text old new fails ends = absurd (cc)

-- where memory runs out in a text, no more is put behind it
pub puts_no_more : (result : Result (Unit {0}) Memory) (text more old new : List ℕ)
    → IsErr result → Puts result text old new → Puts result (text ++ more) old new
puts_no_more (Err out_of_memory) text more old new fails (n, ends) = (min n (length text), ends ∙ ap (λ put. old ++ put) (front text more n))
puts_no_more (Ok done) text more old new fails ends = absurd (cc)

-- memory runs out in the first of two texts
pub puts_first : (result : Result (Unit {0}) Memory) (text more old new : List ℕ)
    → IsErr result → (n : ℕ) × (new ≡ old ++ take n text) → Puts result (text ++ more) old new
puts_first result text more old new fails ends = puts_no_more result text more old new fails (puts_front result text old new fails ends)

-- both of two texts stand
both : (text more old between new : List ℕ) → between ≡ old ++ text → new ≡ between ++ more → new ≡ old ++ (text ++ more)
both text more old between new first second = second ∙ ap (λ put. put ++ more) first ∙ append_assoc old text more

-- a text is put behind another
pub puts_behind : (result : Result (Unit {0}) Memory) (text more old between new : List ℕ)
    → between ≡ old ++ text → Puts result more between new → Puts result (text ++ more) old new
puts_behind (Ok done) text more old between new first second = both text more old between new first second
puts_behind (Err out_of_memory) text more old between new first (n, ends) =
    (length text + n, both text (take n more) old between new first ends ∙ ap (λ put. old ++ put) (sym (take-append-add text more n)))

-- for two texts
pub ruleset putting = (puts_first, puts_behind)

-- a text with others behind it
abbrev pub row : List ℕ → List (List ℕ) → List ℕ
row text [] = text
row text (next ∷ more) = row (text ++ next) more

-- where memory runs out in a text, none of those behind it is put
puts_no_row : (result : Result (Unit {0}) Memory) (text : List ℕ) (more : List (List ℕ)) (old new : List ℕ)
    → IsErr result → Puts result text old new → Puts result (row text more) old new
puts_no_row result text [] old new fails ends = ends
puts_no_row result text (next ∷ more) old new fails ends = puts_no_row result (text ++ next) more old new fails (puts_no_more result text next old new fails ends)

-- a text stands behind what stood there before
pub record Stands (text old new : List ℕ) : Type 0 where
  pub behind : new ≡ old ++ text

-- so far no text is put
pub nothing : (old : List ℕ) → Stands [] old old
nothing old = record { behind = sym (append-nil old) }

-- one more text is put
pub one_more : (next : List ℕ) {text old between new : List ℕ} → Stands text old between → new ≡ between ++ next → Stands (text ++ next) old new
one_more next {text} {old} {between} {new} first second = record { behind = both text next old between new first.behind second }

-- the last text is put, or a front of it
pub puts_last : (result : Result (Unit {0}) Memory) (next new : List ℕ) {text old between : List ℕ}
    → Stands text old between → Puts result next between new → Puts result (text ++ next) old new
puts_last result next new {text} {old} {between} first second = puts_behind result text next old between new first.behind second

-- memory runs out in a text, and the rest behind it is not put
pub puts_cut : (rest : List (List ℕ)) (result : Result (Unit {0}) Memory) (next new : List ℕ) {text old between : List ℕ}
    → Stands text old between → IsErr result → (n : ℕ) × (new ≡ between ++ take n next) → Puts result (row (text ++ next) rest) old new
puts_cut rest result next new {text} {old} {between} first fails ends =
    puts_no_row result (text ++ next) rest old new fails
    (puts_behind result text next old between new first.behind (puts_front result next between new fails ends))
