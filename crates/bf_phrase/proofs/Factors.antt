-- What holds of factors.
use Rattle.std.proofs.Common.{◌≡◌, ℕ, ◌+◌, pos, neg_ℤ, Bool, true, false, List, [], ◌∷◌, ◌++◌, refl, sym, ap, subst, ◌∙◌, inl, inr}
use Rattle.std.proofs.lemmas.List.{append-nil}
use Rattle.bf_base.specs.declared.value.Value.{Value}
use Rattle.bf_base.specs.declared.value.Value.TheVariants as value
use Rattle.bf_tree.specs.Trees.{column, negated}
use Rattle.bf_tree.specs.Trees as tree
use Rattle.bf_lex.specs.declared.sign.Sign.TheVariants as sign
use Rattle.bf_phrase.specs.declared.start.Start.TheVariants as start
use Rattle.bf_phrase.specs.declared.cursor.Cursor.{Cursor}
use Rattle.bf_phrase.specs.Words.{Word, Minus, Sign}
use Rattle.bf_phrase.specs.Words as word
use Rattle.bf_phrase.specs.Steps.{Step, Say, Limit, Node, said}
use Rattle.bf_phrase.specs.Rules.{Return, After, Marked, Then, Either}
use Rattle.bf_phrase.specs.Reading.{Reading, Fits}
use Rattle.bf_phrase.specs.Cursors.{words}
use Rattle.bf_phrase.specs.First.{begins, first_literal, is_name, is_opposite, is_parenthesis}
use Rattle.bf_phrase.specs.Follow.{is_point}
use Rattle.bf_phrase.specs.Starts.{IsStart}
use Rattle.bf_phrase.specs.Expressions.{Counted, RefRule, Factor, number, negative, opposite, text, ref, parenthesis, Sum, begins_with_number}
use Rattle.bf_phrase.specs.Conditions as literal
use Rattle.bf_phrase.proofs.Fitting.{fits_by}
use Rattle.bf_phrase.proofs.Literals.{number_said, Tight}
use Rattle.bf_phrase.proofs.Moves.{NotHere, left_here, right_here}
use Rattle.bf_phrase.proofs.Lists as lists
use Rattle.bf_phrase.proofs.Beginnings.{Begun, other_not_here}
use Rattle.bf_phrase.proofs.Numbered.{Numbered}

abbrev pub LiteralPart : ℕ → List Step → Counted → Type 0
LiteralPart n = Then Tight (λ v. Return (tree.literal v, n))

abbrev pub RefPart : ℕ → List Step → Counted → Type 0
RefPart n = Then RefRule (λ r. Return (column r, n))

abbrev pub BehindMinus : ℕ → List Step → Counted → Type 0
BehindMinus n = Then (Numbered false (Factor (n + 1))) (λ x. Return (negated x.0, x.1))

abbrev pub OppositePart : ℕ → List Step → Counted → Type 0
OppositePart n = Marked (Node (n + 1)) (After (Minus false) (BehindMinus n))

abbrev pub InParentheses : ℕ → List Step → Counted → Type 0
InParentheses n = Then (Sum (n + 1)) (λ x. After (Sign sign.ClosingParenthesis) (Return x))

abbrev pub ParenthesisPart : ℕ → List Step → Counted → Type 0
ParenthesisPart n = Marked (Node (n + 1)) (After (Sign sign.OpeningParenthesis) (InParentheses n))

abbrev pub Counteds : ℕ → List Step → Counted → Type 0
Counteds n = Either (OppositePart n) (ParenthesisPart n)

abbrev pub Parts : ℕ → List Step → Counted → Type 0
Parts n = Either (LiteralPart n) (Either (Counteds n) (RefPart n))

-- what stands before nothing is all
pub whole : (s front back : List Step) → s ≡ front ++ back → back ≡ [] → s ≡ front
whole s front back split p = split ∙ ap (λ (z : List Step). front ++ z) p ∙ append-nil front

from_literal : (n : ℕ) (s : List Step) (v : Value) (x : Counted) → literal.LiteralRule s v → begins first_literal (said s) ≡ true → x ≡ (tree.literal v, n) → Factor n s x
from_literal n s v x (literal.signed (literal.number u h e)) is q = number u h (q ∙ ap (λ (z : Value). (tree.literal z, n)) e)
from_literal n s v x (literal.signed (literal.negative u flag k p e)) is q =
    let behind : flag ≡ true = ap (λ (z : List Step). begins first_literal (said z)) (sym p) ∙ is in
    negative u k (p ∙ ap (λ (f : Bool). Say (Minus f) ∷ Say (word.Number u) ∷ []) behind) (q ∙ ap (λ (z : Value). (tree.literal z, n)) e)
from_literal n s v x (literal.text t p e) is q = text t p (q ∙ ap (λ (z : Value). (tree.literal z, n)) e)

to : (n : ℕ) (s : List Step) (x : Counted) → Parts n s x → Factor n s x
to n s x (inl h) = let tight = subst (λ (z : List Step). Tight z h.2) (sym (whole s h.0 h.1 h.3 h.5.0)) h.4 in from_literal n s h.2 x tight.0 tight.1 h.5.1
to n s x (inr (inr h)) = ref h.2 (subst (λ (z : List Step). RefRule z h.2) (sym (whole s h.0 h.1 h.3 h.5.0)) h.4) h.5.1
to n s x (inr (inl (inl h))) =
    let t = h.2.2 in
    let e : h.2.0 ≡ t.0 = whole h.2.0 t.0 t.1 t.3 t.5.0 in
    opposite t.2.0 t.2.1 h.2.0
    (subst (λ (z : List Step). Factor (n + 1) z t.2) (sym e) t.4.0)
    (ap (λ (z : List Step). begins_with_number (said z)) e ∙ t.4.1)
    (h.1 ∙ ap (λ (z : List Step). Limit (Node (n + 1)) ∷ z) h.2.1)
    t.5.1
to n s x (inr (inl (inr h))) =
    let t = h.2.2 in
    let c = t.5 in
    let e : t.1 ≡ Say (Sign sign.ClosingParenthesis) ∷ [] = c.1 ∙ ap (λ (z : List Step). Say (Sign sign.ClosingParenthesis) ∷ z) c.2.0 in
    parenthesis t.0
    (subst (λ (z : Counted). Sum (n + 1) t.0 z) (sym c.2.1) t.4)
    (h.1 ∙ ap (λ (z : List Step). Limit (Node (n + 1)) ∷ z) (h.2.1 ∙ ap (λ (z : List Step). Say (Sign sign.OpeningParenthesis) ∷ z) (t.3 ∙ ap (λ (z : List Step). t.0 ++ z) e)))

from : (n : ℕ) (s : List Step) (x : Counted) → Factor n s x → Parts n s x
from n s x (number v h q) = inl (s, [], value.Int (pos v), sym (append-nil s), (literal.signed (literal.number v h refl), ap (λ (z : List Word). begins first_literal z) (number_said s v h)), (refl, q))
from n s x (negative v k p q) = inl (s, [], value.Int (neg_ℤ (pos v)), sym (append-nil s), (literal.signed (literal.negative v true k p refl), ap (λ (z : List Step). begins first_literal (said z)) p), (refl, q))
from n s x (text t p q) = inl (s, [], value.Text t, sym (append-nil s), (literal.text t p refl, ap (λ (z : List Step). begins first_literal (said z)) p), (refl, q))
from n s x (ref r h q) = inr (inr (s, [], r, sym (append-nil s), h, (refl, q)))
from n s x (opposite a m front f unnumbered p q) = inr (inl (inl (Say (Minus false) ∷ front, p, (front, refl, (front, [], (a, m), sym (append-nil front), (f, unnumbered), (refl, q))))))
from n s x (parenthesis inner h p) =
    inr (inl (inr (Say (Sign sign.OpeningParenthesis) ∷ (inner ++ Say (Sign sign.ClosingParenthesis) ∷ []), p, (inner ++ Say (Sign sign.ClosingParenthesis) ∷ [], refl, (inner, Say (Sign sign.ClosingParenthesis) ∷ [], x, refl, h, ([], refl, (refl, refl)))))))

pub factor_as : {n : ℕ} {ws : List Word} {r : Reading Counted} → Fits is_point (Parts n) ws r → Fits is_point (Factor n) ws r
factor_as {n = n} {ws = ws} {r = r} f = record { it = fits_by is_point (Parts n) (Factor n) ws r f.it (to n) (λ s b back g ends same. from n s b g) }

-- ---- with what the parts begin

pub begins-append : (test : Word → Bool) (s t : List Step) → begins test (said s) ≡ true → begins test (said (s ++ t)) ≡ true
begins-append test [] t e = absurd cc
begins-append test (Say w ∷ s) t e = e
begins-append test (Limit m ∷ s) t e = begins-append test s t e

literal_part_begun : (n : ℕ) → Begun first_literal (LiteralPart n)
literal_part_begun n = record { it = λ s b h. ap (λ (z : List Step). begins first_literal (said z)) h.3 ∙ begins-append first_literal h.0 h.1 h.4.1 }

ref_part_begun : (n : ℕ) → Begun is_name (RefPart n)
ref_part_begun n = record { it = λ s b h. ap (λ (z : List Step). begins is_name (said z)) h.3 ∙ begins-append is_name h.0 h.1 (ap (λ (z : List Step). begins is_name (said z)) h.4.2) }

opposite_begun : (n : ℕ) → Begun is_opposite (OppositePart n)
opposite_begun n = record { it = λ s b h. ap (λ (z : List Step). begins is_opposite (said z)) (h.1 ∙ ap (λ (z : List Step). Limit (Node (n + 1)) ∷ z) h.2.1) }

parenthesis_begun : (n : ℕ) → Begun is_parenthesis (ParenthesisPart n)
parenthesis_begun n = record { it = λ s b h. ap (λ (z : List Step). begins is_parenthesis (said z)) (h.1 ∙ ap (λ (z : List Step). Limit (Node (n + 1)) ∷ z) h.2.1) }

either_not : {w : Word → Bool} {G H : List Step → Counted → Type 0} {ws : List Word} → NotHere w G ws → NotHere w H ws → NotHere w (Either G H) ws
either_not {w = w} {G = G} {H = H} {ws = ws} p q = record { it = lists.either_not_here w G H ws p.it q.it }

-- a literal is neither a name, a minus alone nor a parenthesis
literal_opposite : (ws : List Word) → begins first_literal ws ≡ true → begins is_opposite ws ≡ false
literal_opposite [] e = refl
literal_opposite (word.Keyword k ∷ ws) e = refl
literal_opposite (word.Name k ∷ ws) e = refl
literal_opposite (word.Number k ∷ ws) e = refl
literal_opposite (word.Text k ∷ ws) e = refl
literal_opposite (word.Minus true ∷ ws) e = refl
literal_opposite (word.Minus false ∷ ws) e = absurd cc
literal_opposite (word.Sign k ∷ ws) e = refl

literal_parenthesis : (ws : List Word) → begins first_literal ws ≡ true → begins is_parenthesis ws ≡ false
literal_parenthesis [] e = refl
literal_parenthesis (word.Keyword k ∷ ws) e = refl
literal_parenthesis (word.Name k ∷ ws) e = refl
literal_parenthesis (word.Number k ∷ ws) e = refl
literal_parenthesis (word.Text k ∷ ws) e = refl
literal_parenthesis (word.Minus k ∷ ws) e = refl
literal_parenthesis (word.Sign k ∷ ws) e = absurd cc

pub literal_name : (ws : List Word) → begins first_literal ws ≡ true → begins is_name ws ≡ false
literal_name [] e = refl
literal_name (word.Keyword k ∷ ws) e = refl
literal_name (word.Name k ∷ ws) e = absurd cc
literal_name (word.Number k ∷ ws) e = refl
literal_name (word.Text k ∷ ws) e = refl
literal_name (word.Minus k ∷ ws) e = refl
literal_name (word.Sign k ∷ ws) e = refl

pub begins_behind : (test : Word → Bool) (ws rest : List Word) (w : Word) → ws ≡ w ∷ rest → test w ≡ false → begins test ws ≡ false
begins_behind test ws rest w e f = ap (λ (z : List Word). begins test z) e ∙ f

-- ---- what stands first chooses the part

pub literal_first : {n : ℕ} {ws : List Word} {r : Reading Counted} → IsStart ws start.Literal → Fits is_point (LiteralPart n) ws r → Fits is_point (Factor n) ws r
literal_first {n = n} {ws = ws} h f =
    factor_as (left_here (either_not (either_not (other_not_here (opposite_begun n) (literal_opposite ws h.it)) (other_not_here (parenthesis_begun n) (literal_parenthesis ws h.it))) (other_not_here (ref_part_begun n) (literal_name ws h.it))) f)

pub opposite_first : {n : ℕ} {ws : List Word} {behind : Cursor} {r : Reading Counted} → IsStart ws (start.Opposite behind) → Fits is_point (OppositePart n) ws r → Fits is_point (Factor n) ws r
opposite_first {n = n} {ws = ws} {behind = behind} h f =
    let absent = λ (test : Word → Bool) (e : test (Minus false) ≡ false). begins_behind test ws (words behind) (Minus false) h.it.0 e in
    factor_as (right_here (other_not_here (literal_part_begun n) (absent first_literal refl)) (left_here (other_not_here (ref_part_begun n) (absent is_name refl)) (left_here (other_not_here (parenthesis_begun n) (absent is_parenthesis refl)) f)))

pub parenthesis_first : {n : ℕ} {ws : List Word} {behind : Cursor} {r : Reading Counted} → IsStart ws (start.Parenthesis behind) → Fits is_point (ParenthesisPart n) ws r → Fits is_point (Factor n) ws r
parenthesis_first {n = n} {ws = ws} {behind = behind} h f =
    let absent = λ (test : Word → Bool) (e : test (Sign sign.OpeningParenthesis) ≡ false). begins_behind test ws (words behind) (Sign sign.OpeningParenthesis) h.it e in
    factor_as (right_here (other_not_here (literal_part_begun n) (absent first_literal refl)) (left_here (other_not_here (ref_part_begun n) (absent is_name refl)) (right_here (other_not_here (opposite_begun n) (absent is_opposite refl)) f)))

pub ref_first : {n : ℕ} {ws : List Word} {r : Reading Counted} → IsStart ws start.Other → Fits is_point (RefPart n) ws r → Fits is_point (Factor n) ws r
ref_first {n = n} h f =
    factor_as (right_here (other_not_here (literal_part_begun n) h.it.0) (right_here (either_not (other_not_here (opposite_begun n) h.it.1) (other_not_here (parenthesis_begun n) h.it.2)) f))
