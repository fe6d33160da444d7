-- Expressions and conditions within the limits have at most 256 nodes beside values and refs: each such node is a counted word.
use Rattle.std.proofs.Common.{◌≡◌, ℕ, ◌+◌, ◌≤◌, true, ◌&&◌, List, [], ◌∷◌, ◌++◌, Some, Option, IfSome, refl, sym, subst, arith}
use Rattle.std.specs.Option.{is_none}
use Rattle.std.proofs.lemmas.Bool.Decides.{nat_tests}
use Rattle.bf_lex.specs.declared.keyword.Keyword.TheVariants as keyword
use Rattle.bf_lex.specs.declared.sign.Sign.TheVariants as sign
use Rattle.bf_tree.specs.declared.raw.Ref.{Ref}
use Rattle.bf_tree.specs.Trees.{Expr, times, Cond, tests}
use Rattle.bf_phrase.specs.Words as word
use Rattle.bf_phrase.specs.Words.{Word}
use Rattle.bf_phrase.specs.Steps.{Step, Say, Limit, Node, fault_at}
use Rattle.bf_phrase.specs.Expressions.{Counted, RefRule, Factor, number, negative, opposite, text, ref, parenthesis as factor_parenthesis, Product, product, Factors, no_factor, other_factor, Sum, sum, Products, no_product, other_product, sum_of, sum_word}
use Rattle.bf_phrase.specs.Conditions.{CountedCond, OperandRule, value, ref as operand_ref, compare_sign, Negation, not, parenthesis, comparison, range, Conjunction, conjunction, Negations, no_negation, other_negation, Disjunction, disjunction, Conjunctions, no_conjunction, other_conjunction}
use Rattle.bf_phrase.specs.Phrases.{ExprRule, WhereRule}
use Rattle.bf_record.specs.Expressions.{operators}
use Rattle.bf_record.specs.Shallow.{IsShallowExpr, IsShallowCond}
use Rattle.bf_recover.specs.Spoken.{is_plain_ref, has_plain_refs, compares_plain_refs, is_spoken_where}
use Rattle.bf_run.proofs.saying.Gives.{AreGood, good_parts, good_behind, Gives, of_return, of_after, of_named, of_either, ◌and◌}

-- name  or  name . name
pub ref_plain : Gives RefRule (λ r. is_plain_ref r ≡ true)
ref_plain = of_named (λ first plain. of_either (of_return plain) (of_after (of_named (λ second also. of_return (plain and also)))))

-- a counted word within the limits is at most the 256th
counted_within : (n : ℕ) → is_none (fault_at (Node n)) ≡ true → n ≤ 256
counted_within n h = grind (arith, nat_tests)

-- what is behind a counted word and its mark
record Behind (n : ℕ) (rest : List Step) : Type 0 where
  low : n ≤ 256
  good : AreGood rest

behind_counted : (n : ℕ) (w : Word) (steps rest : List Step) → steps ≡ Limit (Node n) ∷ Say w ∷ rest → AreGood steps → Behind n rest
behind_counted n w steps rest e good =
    let marked = good_behind steps (Say w ∷ rest) (Limit (Node n)) e good in
    record { low = counted_within n marked.0; good = (good_behind (Say w ∷ rest) rest (Say w) refl marked.1).1 }

-- EXPRESSIONS: one that is read behind so many counted words. Its operators are among those that have been counted since
record IsExprFrom (n : ℕ) (x : Counted) : Type 0 where
  counted : n + operators x.0 ≤ x.1
  few : x.1 ≤ 256
  plain : has_plain_refs x.0 ≡ true

no_operator : (n : ℕ) (e : Expr Ref) → operators e ≡ 0 → has_plain_refs e ≡ true → n ≤ 256 → IsExprFrom n (e, n)
no_operator n e none plain low = record { counted = omega arith; few = low; plain = plain }

-- the same behind fewer
from_before : (n m : ℕ) (x : Counted) → n ≤ m → IsExprFrom m x → IsExprFrom n x
from_before n m x before h = record { counted = omega (arith, h.counted); few = h.few; plain = h.plain }

times_from : (n : ℕ) (a b : Counted) → IsExprFrom n a → IsExprFrom (a.1 + 1) b → IsExprFrom n (times a.0 b.0, b.1)
times_from n a b f g = record { counted = omega (arith, f.counted, g.counted); few = g.few; plain = f.plain and g.plain }

-- a sum has one operator more than its parts, and their refs
sum_operators : (op : _) (a b : Expr Ref) → operators (sum_of op a b) ≡ operators a + operators b + 1
sum_operators op a b = grind arith

sum_plain : (op : _) (a b : Expr Ref) → has_plain_refs (sum_of op a b) ≡ (has_plain_refs a && has_plain_refs b)
sum_plain op a b = grind arith

sum_of_from : (op : _) (n : ℕ) (a b : Counted) → IsExprFrom n a → IsExprFrom (a.1 + 1) b → IsExprFrom n (sum_of op a.0 b.0, b.1)
sum_of_from op n a b f g = record {
  counted = omega (arith, f.counted, g.counted, sum_operators op a.0 b.0);
  few = g.few;
  plain = rw (sum_plain op a.0 b.0) (f.plain and g.plain);
}

mutual
  factor_from : (n : ℕ) (steps : List Step) (x : Counted) → Factor n steps x → n ≤ 256 → AreGood steps → IsExprFrom n x
  factor_from n steps x (number v h f) low good = subst (IsExprFrom n) (sym f) (no_operator n _ refl refl low)
  factor_from n steps x (negative v h e f) low good = subst (IsExprFrom n) (sym f) (no_operator n _ refl refl low)
  factor_from n steps x (text t e f) low good = subst (IsExprFrom n) (sym f) (no_operator n _ refl refl low)
  factor_from n steps x (ref r h f) low good = subst (IsExprFrom n) (sym f) (no_operator n _ refl (ref_plain.of steps r h good) low)
  factor_from n steps x (opposite a m front h first e f) low good =
      let behind = behind_counted (n + 1) _ steps front e good in
      let inner = factor_from (n + 1) front (a, m) h behind.low behind.good in
      subst (IsExprFrom n) (sym f) (record { counted = omega (arith, inner.counted); few = inner.few; plain = inner.plain })
  factor_from n steps x (factor_parenthesis inner h e) low good =
      let behind = behind_counted (n + 1) _ steps (inner ++ Say (word.Sign sign.ClosingParenthesis) ∷ []) e good in
      let parts = good_parts _ inner (Say (word.Sign sign.ClosingParenthesis) ∷ []) refl behind.good in
      from_before n (n + 1) x (omega arith) (sum_from (n + 1) inner x h behind.low parts.0)

  product_from : (n : ℕ) (steps : List Step) (x : Counted) → Product n steps x → n ≤ 256 → AreGood steps → IsExprFrom n x
  product_from n steps x (product front back a h more e) low good =
      let parts = good_parts steps front back e good in
      factors_from n a back x more (factor_from n front a h low parts.0) parts.1

  factors_from : (n : ℕ) (a : Counted) (steps : List Step) (x : Counted) → Factors a steps x → IsExprFrom n a → AreGood steps → IsExprFrom n x
  factors_from n a steps x (no_factor e f) so_far good = subst (IsExprFrom n) (sym f) so_far
  factors_from n a steps x (other_factor front back b h more e) so_far good =
      let behind = behind_counted (a.1 + 1) _ steps (front ++ back) e good in
      let parts = good_parts _ front back refl behind.good in
      factors_from n (times a.0 b.0, b.1) back x more (times_from n a b so_far (factor_from (a.1 + 1) front b h behind.low parts.0)) parts.1

  sum_from : (n : ℕ) (steps : List Step) (x : Counted) → Sum n steps x → n ≤ 256 → AreGood steps → IsExprFrom n x
  sum_from n steps x (sum front back a h more e) low good =
      let parts = good_parts steps front back e good in
      products_from n a back x more (product_from n front a h low parts.0) parts.1

  products_from : (n : ℕ) (a : Counted) (steps : List Step) (x : Counted) → Products a steps x → IsExprFrom n a → AreGood steps → IsExprFrom n x
  products_from n a steps x (no_product e f) so_far good = subst (IsExprFrom n) (sym f) so_far
  products_from n a steps x (other_product op front back b h more e) so_far good =
      let behind = behind_counted (a.1 + 1) (sum_word op front) steps (front ++ back) e good in
      let parts = good_parts _ front back refl behind.good in
      products_from n (sum_of op a.0 b.0, b.1) back x more (sum_of_from op n a b so_far (product_from (a.1 + 1) front b h behind.low parts.0)) parts.1

-- no keyword in a ref, and few operators
pub record IsSayableExpr (e : Expr Ref) : Type 0 where
  pub plain : has_plain_refs e ≡ true
  pub shallow : IsShallowExpr e

sayable_expr : (x : Counted) → IsExprFrom 0 x → IsSayableExpr x.0
sayable_expr x h = record { plain = h.plain; shallow = omega (arith, h.counted, h.few) }

pub of_sum : Gives (Sum 0) (λ x. IsSayableExpr x.0)
of_sum = record { of = λ steps x h good. sayable_expr x (sum_from 0 steps x h (omega arith) good) }

pub of_expr : Gives ExprRule IsSayableExpr
of_expr = record { of = λ steps e h good. of_sum.of steps (e, h.0) h.1 good }

-- CONDITIONS: likewise of the tests of one
record IsCondFrom (n : ℕ) (x : CountedCond) : Type 0 where
  counted : n + tests x.0 ≤ x.1
  few : x.1 ≤ 256
  plain : compares_plain_refs x.0 ≡ true

operand_plain : Gives OperandRule (λ e. has_plain_refs e ≡ true)
operand_plain = record { of = by }
  where
    by : (steps : List Step) (e : Expr Ref) → OperandRule steps e → AreGood steps → has_plain_refs e ≡ true
    by steps e (value v h f) good = rw f refl
    by steps e (operand_ref r h f) good = rw f (ref_plain.of steps r h good)

one_test : (n : ℕ) (c : Cond Ref) → tests c ≡ 1 → compares_plain_refs c ≡ true → n + 1 ≤ 256 → IsCondFrom n (c, n + 1)
one_test n c one plain low = record { counted = omega arith; few = low; plain = plain }

joined_from : (n : ℕ) (c d : CountedCond) (all : Cond Ref) → tests all ≡ tests c.0 + tests d.0 + 1 → compares_plain_refs all ≡ true
    → IsCondFrom n c → IsCondFrom (c.1 + 1) d → IsCondFrom n (all, d.1)
joined_from n c d all size plain f g = record { counted = omega (arith, f.counted, g.counted); few = g.few; plain = plain }

mutual
  negation_from : (n : ℕ) (steps : List Step) (x : CountedCond) → Negation n steps x → AreGood steps → IsCondFrom n x
  negation_from n steps x (not c m front h e f) good =
      let behind = behind_counted (n + 1) _ steps front e good in
      let inner = negation_from (n + 1) front (c, m) h behind.good in
      subst (IsCondFrom n) (sym f) (record { counted = omega (arith, inner.counted); few = inner.few; plain = inner.plain })
  negation_from n steps x (parenthesis inner h e) good =
      let behind = behind_counted (n + 1) _ steps (inner ++ Say (word.Sign sign.ClosingParenthesis) ∷ []) e good in
      let parts = good_parts _ inner (Say (word.Sign sign.ClosingParenthesis) ∷ []) refl behind.good in
      let own = disjunction_from (n + 1) inner x h parts.0 in
      record { counted = omega (arith, own.counted); few = own.few; plain = own.plain }
  negation_from n steps x (comparison op a b left right h g e f) good =
      let parts = good_parts steps left _ e good in
      let behind = behind_counted (n + 1) (word.Sign (compare_sign op)) _ right refl parts.1 in
      subst (IsCondFrom n) (sym f) (one_test n _ refl (operand_plain.of left a h parts.0 and operand_plain.of right b g behind.good) behind.low)
  negation_from n steps x (range a low high first second third h g k e f) good =
      let parts = good_parts steps first _ e good in
      let behind = behind_counted (n + 1) (word.Keyword keyword.Between) _ (second ++ Say (word.Keyword keyword.And) ∷ third) refl parts.1 in
      let ends = good_parts _ second (Say (word.Keyword keyword.And) ∷ third) refl behind.good in
      let last = good_behind _ third (Say (word.Keyword keyword.And)) refl ends.1 in
      let plain = operand_plain.of first a h parts.0 and operand_plain.of second low g ends.0 and operand_plain.of third high k last.1 in
      subst (IsCondFrom n) (sym f) (one_test n _ refl plain behind.low)

  conjunction_from : (n : ℕ) (steps : List Step) (x : CountedCond) → Conjunction n steps x → AreGood steps → IsCondFrom n x
  conjunction_from n steps x (conjunction front back c h more e) good =
      let parts = good_parts steps front back e good in
      negations_from n c back x more (negation_from n front c h parts.0) parts.1

  negations_from : (n : ℕ) (c : CountedCond) (steps : List Step) (x : CountedCond) → Negations c steps x → IsCondFrom n c → AreGood steps → IsCondFrom n x
  negations_from n c steps x (no_negation e f) so_far good = subst (IsCondFrom n) (sym f) so_far
  negations_from n c steps x (other_negation front back d h more e) so_far good =
      let behind = behind_counted (c.1 + 1) _ steps (front ++ back) e good in
      let parts = good_parts _ front back refl behind.good in
      let own = negation_from (c.1 + 1) front d h parts.0 in
      negations_from n (_, d.1) back x more (joined_from n c d _ refl (so_far.plain and own.plain) so_far own) parts.1

  disjunction_from : (n : ℕ) (steps : List Step) (x : CountedCond) → Disjunction n steps x → AreGood steps → IsCondFrom n x
  disjunction_from n steps x (disjunction front back c h more e) good =
      let parts = good_parts steps front back e good in
      conjunctions_from n c back x more (conjunction_from n front c h parts.0) parts.1

  conjunctions_from : (n : ℕ) (c : CountedCond) (steps : List Step) (x : CountedCond) → Conjunctions c steps x → IsCondFrom n c → AreGood steps → IsCondFrom n x
  conjunctions_from n c steps x (no_conjunction e f) so_far good = subst (IsCondFrom n) (sym f) so_far
  conjunctions_from n c steps x (other_conjunction front back d h more e) so_far good =
      let behind = behind_counted (c.1 + 1) _ steps (front ++ back) e good in
      let parts = good_parts _ front back refl behind.good in
      let own = conjunction_from (c.1 + 1) front d h parts.0 in
      conjunctions_from n (_, d.1) back x more (joined_from n c d _ refl (so_far.plain and own.plain) so_far own) parts.1

-- no keyword in a ref, and few tests
pub record IsSayableWhere (found : Option (Cond Ref)) : Type 0 where
  pub plain : is_spoken_where found ≡ true
  pub shallow : IfSome found IsShallowCond

sayable_where : (c : Cond Ref) (count : ℕ) → IsCondFrom 0 (c, count) → IsSayableWhere (Some c)
sayable_where c count h = record { plain = h.plain; shallow = omega (arith, h.counted, h.few) }

pub of_where : Gives WhereRule IsSayableWhere
of_where = of_either (of_return (record { plain = refl; shallow = tt })) (of_after (record { of = λ steps found h good. subst IsSayableWhere (sym h.3) (sayable_where h.0 h.1 (disjunction_from 0 steps (h.0, h.1) h.2 good)) }))
