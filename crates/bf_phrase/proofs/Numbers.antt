-- Numbers, and the numbers of a CHECK.
use Rattle.std.proofs.Common.{◌≡◌, ℕ, ℤ, ◌+◌, ◌≤◌, ◌^◌, pos, false, List, [], ◌∷◌, ◌++◌, length, refl, sym, ap, ◌∙◌, arith}
use Rattle.bf_base.specs.declared.value.Value.{Value}
use Rattle.bf_base.specs.declared.value.Value.TheVariants.{Int, Text}
use Rattle.bf_lex.specs.declared.fault.ScriptKind.TheVariants.{NumberTooWide}
use Rattle.bf_phrase.specs.declared.cursor.Cursor.{Cursor}
use Rattle.bf_phrase.specs.declared.start.Front.{Front}
use Rattle.bf_phrase.specs.declared.start.Front.TheVariants as front
use Rattle.bf_phrase.specs.Words.{Word}
use Rattle.bf_phrase.specs.Words as word
use Rattle.bf_phrase.specs.Steps.{Step, Say, Limit, Widest, said}
use Rattle.bf_phrase.specs.Reading.{Read, Over, Stuck, Fits}
use Rattle.bf_phrase.specs.First.{begins, first_literal}
use Rattle.bf_phrase.specs.Follow.{nothing}
use Rattle.bf_phrase.specs.Starts.{IsFront}
use Rattle.bf_phrase.specs.Expressions.{NumberRule, narrow, widest, is_number}
use Rattle.bf_phrase.specs.Conditions.{SignedRule, number, negative}
use Rattle.bf_phrase.specs.Columns.{IntRule}
use Rattle.bf_phrase.proofs.Beginnings.{Begun, other_stop}
use Rattle.bf_phrase.proofs.Literals.{number_said}
use Rattle.bf_phrase.proofs.Maps.{Maps}
use Rattle.bf_phrase.proofs.Moves.{Can}

-- ---- numbers

narrow_only : (n : ℕ) (front : List Step) (b : ℕ) (back more : List Word) → n + 1 ≤ 2 ^ 63 → NumberRule front b → said front ++ back ≡ word.Number n ∷ more → (front ≡ Say (word.Number n) ∷ []) × (b ≡ n)
narrow_only n front b back more low (narrow k p) eq =
    let d : word.Number b ∷ back ≡ word.Number n ∷ more = ap (λ (z : List Step). said z ++ back) (sym p) ∙ eq in
    let same : b ≡ n = cc in
    (p ∙ ap (λ (k : ℕ). Say (word.Number k) ∷ []) same, same)
narrow_only n front b back more low (widest k p) eq =
    let d : word.Number b ∷ back ≡ word.Number n ∷ more = ap (λ (z : List Step). said z ++ back) (sym p) ∙ eq in
    let same : b ≡ n = cc in
    absurd (omega arith)

wide_only : (n : ℕ) (front : List Step) (b : ℕ) (back more : List Word) → n ≡ 2 ^ 63 → NumberRule front b → said front ++ back ≡ word.Number n ∷ more → (tail : List Step) × (front ≡ Limit Widest ∷ tail)
wide_only n front b back more wide (narrow k p) eq =
    let d : word.Number b ∷ back ≡ word.Number n ∷ more = ap (λ (z : List Step). said z ++ back) (sym p) ∙ eq in
    let same : b ≡ n = cc in
    absurd (omega arith)
wide_only n front b back more wide (widest k p) eq = (Say (word.Number b) ∷ [], p)

pub number_read : (n : ℕ) (ws rest : List Word) → ws ≡ word.Number n ∷ rest → n + 1 ≤ 2 ^ 63 → Fits nothing NumberRule ws (Read n rest)
number_read n ws rest e low = record {
  it = record {
    used = Say (word.Number n) ∷ [];
    split = e;
    inside = refl;
    spells = narrow low refl;
    only = λ front b back more g ends same eq. narrow_only n front b back more low g eq;
  };
}

pub number_wide : (n : ℕ) (ws rest : List Word) (k : ℕ) → length ws ≡ k → ws ≡ word.Number n ∷ rest → n ≡ 2 ^ 63 → Fits nothing NumberRule ws (Over NumberTooWide k)
number_wide n ws rest k counted e wide = record {
  it = record {
    used = [];
    mark = Widest;
    next = Say (word.Number n) ∷ [];
    word = word.Number n;
    rest = rest;
    split = e;
    here = refl;
    place = ap length (sym e) ∙ counted;
    inside = refl;
    high = refl;
    viable = ([], n, widest wide refl);
    only = λ any front b back more g ends same eq. wide_only n front b back more wide g eq;
  };
}

number_begun : Begun is_number NumberRule
number_begun = record { it = λ s b h. ap (λ (z : List Word). begins is_number z) (number_said s b h) }

pub number_can : Can NumberRule
number_can = record { it = (Say (word.Number 0) ∷ [], 0, narrow (omega arith) refl) }

no_literal : (ws : List Word) → begins first_literal ws ≡ false → begins is_number ws ≡ false
no_literal [] e = refl
no_literal (word.Keyword k ∷ ws) e = refl
no_literal (word.Name n ∷ ws) e = refl
no_literal (word.Number n ∷ ws) e = absurd cc
no_literal (word.Text t ∷ ws) e = refl
no_literal (word.Minus b ∷ ws) e = refl
no_literal (word.Sign s ∷ ws) e = refl

absent : (ws : List Word) (found : Front) → IsFront ws found → ((n : ℕ) (rest : Cursor) → found ≡ front.Number n rest → ⊥) → begins is_number ws ≡ false
absent ws (front.Number n rest) h not = absurd (not n rest refl)
absent ws (front.Negative n rest) h not = ap (λ (z : List Word). begins is_number z) h.it.0
absent ws (front.Minus rest) h not = ap (λ (z : List Word). begins is_number z) h.it.0
absent ws (front.Text bytes rest) h not = ap (λ (z : List Word). begins is_number z) h.it.3
absent ws front.Other h not = no_literal ws h.it.0

pub number_none : (ws : List Word) (k : ℕ) (found : Front) → length ws ≡ k → IsFront ws found → ((n : ℕ) (rest : Cursor) → found ≡ front.Number n rest → ⊥) → Fits nothing NumberRule ws (Stuck k)
number_none ws k found e h not = other_stop k e number_begun number_can (absent ws found h not)

-- ---- signed numbers, which are all INTs

abbrev pub int_of : Value → ℤ
int_of (Int v) = v
int_of (Text t) = pos 0

signed_to : (s : List Step) (a : Value) → SignedRule s a → SignedRule s (Int (int_of a))
signed_to s a (number v h q) = number v h (ap (λ (z : Value). Int (int_of z)) q)
signed_to s a (negative v flag low p q) = negative v flag low p (ap (λ (z : Value). Int (int_of z)) q)

pub int_maps : Maps int_of SignedRule IntRule
int_maps = record { to = signed_to; from = λ s b h. (Int b, h, refl) }

pub int_can : Can IntRule
int_can = record { it = (Say (word.Number 0) ∷ [], pos 0, number 0 (narrow (omega arith) refl) refl) }
