-- The arms of a condition without AND and OR.
use Rattle.std.proofs.Common.{◌≡◌, ℕ, ◌+◌, ◌<◌, ◌≤◌, Bool, true, false, List, [], ◌∷◌, ◌++◌, length, Some, None, Ok, Err, refl, sym, ap, subst, ◌∙◌, inl, inr}
use Rattle.std.proofs.lemmas.List.{append-nil}
use Rattle.bf_tree.specs.declared.raw.Ref.{Ref}
use Rattle.bf_tree.specs.Trees as tree
use Rattle.bf_lex.specs.declared.fault.ScriptKind.TheVariants.{TooDeep}
use Rattle.bf_lex.specs.declared.keyword.Keyword.TheVariants as keyword
use Rattle.bf_lex.specs.declared.sign.Sign.TheVariants as sign
use Rattle.bf_phrase.specs.declared.error.ReadStop.{ReadStop}
use Rattle.bf_phrase.specs.Words.{Word, Keyword, Sign}
use Rattle.bf_phrase.specs.Steps.{Step, Say, Limit, Node, said}
use Rattle.bf_phrase.specs.Rules.{Return, After, Marked, Then, Either}
use Rattle.bf_phrase.specs.Reading.{Reading, Read, Over, Fits}
use Rattle.bf_phrase.specs.Outcome.{IsBehind, IsExpected, stopped}
use Rattle.bf_phrase.specs.First.{begins}
use Rattle.bf_phrase.specs.Follow.{is_point, follow_disjunction}
use Rattle.bf_phrase.specs.Conditions.{CountedCond, OperandRule, compare_sign, Negation, not, parenthesis, comparison, range, Disjunction}
use Rattle.bf_phrase.specs.Comparisons.{Tested, TestRule}
use Rattle.bf_phrase.proofs.Fitting.{fits_by}
use Rattle.bf_phrase.proofs.Lists as lists
use Rattle.bf_phrase.proofs.Moves.{NotHere, left_here, right_here, after_go, after_stop, after_can, after_not_here, after_passed, then_can, then_go, then_stop, return_can, return_fits, return_passed}
use Rattle.bf_phrase.proofs.Beginnings.{Begun, other_not_here}
use Rattle.bf_phrase.proofs.Chains.{node_go, node_deep, marked_not_here}
use Rattle.bf_phrase.proofs.Connections.{negation_can, disjunction_can}
use Rattle.bf_phrase.proofs.Factors.{begins-append, begins_behind, whole}
use Rattle.bf_phrase.proofs.Comparisons.{begins_operand, operand_begins}

abbrev pub NotPart : ℕ → List Step → CountedCond → Type 0
NotPart n = Marked (Node (n + 1)) (After (Keyword keyword.Not) (Then (Negation (n + 1)) (λ x. Return (tree.opposite x.0, x.1))))

abbrev pub GroupPart : ℕ → List Step → CountedCond → Type 0
GroupPart n = Marked (Node (n + 1)) (After (Sign sign.OpeningParenthesis) (Then (Disjunction (n + 1)) (λ x. After (Sign sign.ClosingParenthesis) (Return x))))

abbrev pub Parts : ℕ → List Step → CountedCond → Type 0
Parts n = Either (NotPart n) (Either (GroupPart n) (TestRule n))

to_test : (n : ℕ) (s front back : List Step) (a : tree.Expr Ref) (x : CountedCond) → s ≡ front ++ back → OperandRule front a → Tested n a back x → Negation n s x
to_test n s front back a x split o (inl h) =
    let t = h.2.3 in
    let e : h.2.1 ≡ t.0 = whole h.2.1 t.0 t.1 t.3 t.5.0 in
    comparison h.2.0 a t.2 front h.2.1 o (subst (λ (z : List Step). OperandRule z t.2) (sym e) t.4)
    (split ∙ ap (λ (z : List Step). front ++ z) (h.1 ∙ ap (λ (z : List Step). Limit (Node (n + 1)) ∷ z) h.2.2)) t.5.1
to_test n s front back a x split o (inr h) =
    let t = h.2.2 in
    let u = t.5.2 in
    let e : t.5.0 ≡ u.0 = whole t.5.0 u.0 u.1 u.3 u.5.0 in
    range a t.2 u.2 front t.0 t.5.0 o t.4 (subst (λ (z : List Step). OperandRule z u.2) (sym e) u.4)
    (split ∙ ap (λ (z : List Step). front ++ z) (h.1 ∙ ap (λ (z : List Step). Limit (Node (n + 1)) ∷ z) (h.2.1 ∙ ap (λ (z : List Step). Say (Keyword keyword.Between) ∷ z) (t.3 ∙ ap (λ (z : List Step). t.0 ++ z) t.5.1)))) u.5.1

to : (n : ℕ) (s : List Step) (x : CountedCond) → Parts n s x → Negation n s x
to n s x (inl h) =
    let t = h.2.2 in
    let e : h.2.0 ≡ t.0 = whole h.2.0 t.0 t.1 t.3 t.5.0 in
    not t.2.0 t.2.1 h.2.0 (subst (λ (z : List Step). Negation (n + 1) z t.2) (sym e) t.4) (h.1 ∙ ap (λ (z : List Step). Limit (Node (n + 1)) ∷ z) h.2.1) t.5.1
to n s x (inr (inl h)) =
    let t = h.2.2 in
    let c = t.5 in
    let e : t.1 ≡ Say (Sign sign.ClosingParenthesis) ∷ [] = c.1 ∙ ap (λ (z : List Step). Say (Sign sign.ClosingParenthesis) ∷ z) c.2.0 in
    parenthesis t.0 (subst (λ (z : CountedCond). Disjunction (n + 1) t.0 z) (sym c.2.1) t.4)
    (h.1 ∙ ap (λ (z : List Step). Limit (Node (n + 1)) ∷ z) (h.2.1 ∙ ap (λ (z : List Step). Say (Sign sign.OpeningParenthesis) ∷ z) (t.3 ∙ ap (λ (z : List Step). t.0 ++ z) e)))
to n s x (inr (inr h)) = to_test n s h.0 h.1 h.2 x h.3 h.4 h.5

from : (n : ℕ) (s : List Step) (x : CountedCond) → Negation n s x → Parts n s x
from n s x (not c m front f p q) = inl (Say (Keyword keyword.Not) ∷ front, p, (front, refl, (front, [], (c, m), sym (append-nil front), f, (refl, q))))
from n s x (parenthesis inner h p) =
    inr (inl (Say (Sign sign.OpeningParenthesis) ∷ (inner ++ Say (Sign sign.ClosingParenthesis) ∷ []), p, (inner ++ Say (Sign sign.ClosingParenthesis) ∷ [], refl, (inner, Say (Sign sign.ClosingParenthesis) ∷ [], x, refl, h, ([], refl, (refl, refl))))))
from n s x (comparison op a b front back o u p q) =
    inr (inr (front, Limit (Node (n + 1)) ∷ Say (Sign (compare_sign op)) ∷ back, a, p, o, inl (Say (Sign (compare_sign op)) ∷ back, refl, (op, back, refl, (back, [], b, sym (append-nil back), u, (refl, q))))))
from n s x (range a low high one two three o u v p q) =
    inr (inr (
      one,
      Limit (Node (n + 1)) ∷ Say (Keyword keyword.Between) ∷ (two ++ Say (Keyword keyword.And) ∷ three),
      a,
      p,
      o,
      inr (
        Say (Keyword keyword.Between) ∷ (two ++ Say (Keyword keyword.And) ∷ three),
        refl,
        (
          two ++ Say (Keyword keyword.And) ∷ three,
          refl,
          (two, Say (Keyword keyword.And) ∷ three, low, refl, u, (three, refl, (three, [], high, sym (append-nil three), v, (refl, q)))),
        ),
      ),
    ))

negation_as : {n : ℕ} {ws : List Word} {r : Reading CountedCond} → Fits is_point (Parts n) ws r → Fits is_point (Negation n) ws r
negation_as {n = n} {ws = ws} {r = r} f = record { it = fits_by is_point (Parts n) (Negation n) ws r f.it (to n) (λ s b back g ends same. from n s b g) }

test_begun : (n : ℕ) → Begun begins_operand (TestRule n)
test_begun n = record { it = λ s b h. ap (λ (z : List Step). begins begins_operand (said z)) h.3 ∙ begins-append begins_operand h.0 h.1 (operand_begins h.0 h.2 h.4) }

is_group : Word → Bool
is_group (Sign sign.OpeningParenthesis) = true
is_group other = false

group_begun : (n : ℕ) → Begun is_group (GroupPart n)
unfolding is_group
group_begun n = record { it = λ s b h. ap (λ (z : List Step). begins is_group (said z)) (h.1 ∙ ap (λ (z : List Step). Limit (Node (n + 1)) ∷ z) h.2.1) }

test_not : (n : ℕ) (ws rest : List Word) (w : Word) → ws ≡ w ∷ rest → begins_operand w ≡ false → NotHere is_point (TestRule n) ws
test_not n ws rest w e f = other_not_here (test_begun n) (begins_behind begins_operand ws rest w e f)

either_not : {w : Word → Bool} {G H : List Step → CountedCond → Type 0} {ws : List Word} → NotHere w G ws → NotHere w H ws → NotHere w (Either G H) ws
either_not {w = w} {G = G} {H = H} {ws = ws} p q = record { it = lists.either_not_here w G H ws p.it q.it }

not_first : {n : ℕ} {ws rest : List Word} {r : Reading CountedCond} → IsBehind (Keyword keyword.Not) ws (Some rest) → Fits is_point (NotPart n) ws r → Fits is_point (Negation n) ws r
unfolding is_group
not_first {n = n} {ws = ws} {rest = rest} h f =
    negation_as (left_here (either_not (other_not_here (group_begun n) (begins_behind is_group ws rest (Keyword keyword.Not) h.it refl)) (test_not n ws rest (Keyword keyword.Not) h.it refl)) f)

group_first : {n : ℕ} {ws rest : List Word} {r : Reading CountedCond} → IsBehind (Keyword keyword.Not) ws None → IsBehind (Sign sign.OpeningParenthesis) ws (Some rest) → Fits is_point (GroupPart n) ws r → Fits is_point (Negation n) ws r
group_first {n = n} {ws = ws} {rest = rest} k h f =
    negation_as (right_here (marked_not_here (after_not_here k)) (left_here (test_not n ws rest (Sign sign.OpeningParenthesis) h.it refl) f))

pub test_first : {n : ℕ} {ws : List Word} {r : Reading CountedCond} → IsBehind (Keyword keyword.Not) ws None → IsBehind (Sign sign.OpeningParenthesis) ws None → Fits is_point (TestRule n) ws r → Fits is_point (Negation n) ws r
test_first k h f = negation_as (right_here (marked_not_here (after_not_here k)) (right_here (marked_not_here (after_not_here h)) f))

-- ---- NOT

pub not_deep : {n : ℕ} {ws rest : List Word} (k : ℕ) → length ws ≡ k → 256 ≤ n → IsBehind (Keyword keyword.Not) ws (Some rest) → Fits is_point (Negation n) ws (Over TooDeep k)
not_deep {n = n} k e high h = not_first h (node_deep k e high h (then_can (negation_can {n = n + 1}) (λ x. return_can)))

pub not_stop : {n m : ℕ} {ws rest : List Word} (e : ReadStop) → m ≡ n + 1 → n < 256 → IsBehind (Keyword keyword.Not) ws (Some rest) → Fits is_point (Negation m) rest (stopped e) → Fits is_point (Negation n) ws (stopped e)
not_stop {rest = rest} e same low h f = not_first h (node_go low h (then_stop e (return_passed (λ t p. p)) (λ x. return_can) (subst (λ (k : ℕ). Fits is_point (Negation k) rest (stopped e)) same f)))

pub not_read : {n m k : ℕ} {ws rest mid : List Word} {a b : tree.Cond Ref} → m ≡ n + 1 → n < 256 → IsBehind (Keyword keyword.Not) ws (Some rest) → Fits is_point (Negation m) rest (Read (a, k) mid) → b ≡ tree.opposite a → Fits is_point (Negation n) ws (Read (b, k) mid)
not_read {n = n} {k = k} {ws = ws} {rest = rest} {mid = mid} {a = a} same low h f value =
    subst (λ (x : tree.Cond Ref). Fits is_point (Negation n) ws (Read (x, k) mid)) (sym value)
    (not_first h (node_go low h (then_go (return_passed (λ t p. p)) (subst (λ (i : ℕ). Fits is_point (Negation i) rest (Read (a, k) mid)) same f) return_fits)))

-- ---- parentheses

pub group_deep : {n : ℕ} {ws rest : List Word} (k : ℕ) → length ws ≡ k → 256 ≤ n → IsBehind (Keyword keyword.Not) ws None → IsBehind (Sign sign.OpeningParenthesis) ws (Some rest) → Fits is_point (Negation n) ws (Over TooDeep k)
group_deep {n = n} k e high no_not h = group_first no_not h (node_deep k e high h (then_can (disjunction_can {n = n + 1}) (λ x. after_can return_can)))

inside : (n : ℕ) {m : ℕ} {ws : List Word} {r : Reading CountedCond} → m ≡ n + 1 → Fits follow_disjunction (Disjunction m) ws r → Fits follow_disjunction (Disjunction (n + 1)) ws r
inside n {ws = ws} {r = r} same f = subst (λ (k : ℕ). Fits follow_disjunction (Disjunction k) ws r) same f

pub group_stop : {n m : ℕ} {ws rest : List Word} (e : ReadStop) → m ≡ n + 1 → n < 256 → IsBehind (Keyword keyword.Not) ws None → IsBehind (Sign sign.OpeningParenthesis) ws (Some rest) → Fits follow_disjunction (Disjunction m) rest (stopped e) → Fits is_point (Negation n) ws (stopped e)
group_stop e same low no_not h f = group_first no_not h (node_go low h (then_stop e (after_passed refl) (λ x. after_can return_can) (inside _ same f)))

pub group_open : {n m : ℕ} {ws rest mid : List Word} {x : CountedCond} {e : ReadStop} → m ≡ n + 1 → n < 256 → IsBehind (Keyword keyword.Not) ws None → IsBehind (Sign sign.OpeningParenthesis) ws (Some rest) → Fits follow_disjunction (Disjunction m) rest (Read x mid)
    → IsExpected (Sign sign.ClosingParenthesis) mid (Err e) → Fits is_point (Negation n) ws (stopped e)
group_open same low no_not h f closing = group_first no_not h (node_go low h (then_go (after_passed refl) (inside _ same f) (after_stop closing return_can)))

pub group_read : {n m : ℕ} {ws rest mid last : List Word} {x : CountedCond} → m ≡ n + 1 → n < 256 → IsBehind (Keyword keyword.Not) ws None → IsBehind (Sign sign.OpeningParenthesis) ws (Some rest) → Fits follow_disjunction (Disjunction m) rest (Read x mid)
    → IsExpected (Sign sign.ClosingParenthesis) mid (Ok last) → Fits is_point (Negation n) ws (Read x last)
group_read same low no_not h f closing = group_first no_not h (node_go low h (then_go (after_passed refl) (inside _ same f) (after_go closing return_fits)))
