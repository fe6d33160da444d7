-- What words spell, operator by operator.
use Rattle.std.proofs.Common.{◌≡◌, ℕ, ◌+◌, ◌<◌, ◌≤◌, ◌^◌, pos, Bool, true, List, [], ◌∷◌, ◌++◌, Some, None, refl, sym, ap, ◌∙◌}
use Rattle.std.proofs.lemmas.List.{append-nil}
use Rattle.bf_base.specs.declared.value.Value.{Value}
use Rattle.bf_base.specs.declared.value.Value.TheVariants.{Int}
use Rattle.bf_tree.specs.declared.compare.Compare.TheVariants as compare
use Rattle.bf_tree.specs.declared.raw.Ref.{Ref}
use Rattle.bf_tree.specs.Trees as tree
use Rattle.bf_lex.specs.declared.keyword.Keyword.TheVariants as keyword
use Rattle.bf_lex.specs.declared.sign.Sign.TheVariants as sign
use Rattle.bf_phrase.specs.declared.start.Start.TheVariants as start
use Rattle.bf_phrase.specs.declared.sum_operator.SumOperator.{SumOperator}
use Rattle.bf_phrase.specs.declared.sum_operator.SumOperator.TheVariants as operator
use Rattle.bf_phrase.specs.Words.{Word, Keyword, Name, Number, Text, Minus, Sign}
use Rattle.bf_phrase.specs.Steps.{Step, said}
use Rattle.bf_phrase.specs.Rules.{Rule}
use Rattle.bf_phrase.specs.Reading.{Reading, Read, Fits, first}
use Rattle.bf_phrase.specs.Follow.{nothing, is_point, follow_product, follow_sum, follow_conjunction, follow_disjunction}
use Rattle.bf_phrase.specs.Sums.{word_before}
use Rattle.bf_phrase.specs.Expressions.{Counted, RefRule, ref_to, Factor, Product, Factors, Products, Sum, sum_of}
use Rattle.bf_phrase.specs.Conditions.{CountedCond, SignedRule, LiteralRule, signed, text, Negation, Negations, Conjunction, Conjunctions, Disjunction}
use Rattle.bf_phrase.specs.GroupingExamples.{Spell, int, named, is}
use Rattle.bf_phrase.specs.GroupingExamples as example
use Rattle.bf_phrase.proofs.Fitting.{fits_by}
use Rattle.bf_phrase.proofs.Moves.{then_go, named_go, left_here, after_not_here, return_fits, return_passed}
use Rattle.bf_phrase.proofs.Literals.{signed_number, literal_text}
use Rattle.bf_phrase.proofs.Operands.{literal_read, ref_read}
use Rattle.bf_phrase.proofs.Chains.{product_as, factors_passed, star_end, star_more}
use Rattle.bf_phrase.proofs.Additions.{sum_as, products_passed}
use Rattle.bf_phrase.proofs.SumOperators.{NumberFits, operator_word, operator_end}
use Rattle.bf_phrase.proofs.Comparisons.{value_read, column_read, compared_go, first_read}
use Rattle.bf_phrase.proofs.Negations.{test_first, not_read}
use Rattle.bf_phrase.proofs.Connections.{conjunction_as, negations_passed, and_end, and_more, disjunction_as, conjunctions_passed, or_end, or_more}

-- words of which all are read
pub spelled : {A : Type 0} {follow : Word → Bool} {rule : Rule (A × ℕ)} {ws : List Word} {a : A} {count : ℕ} → Fits follow rule ws (Read (a, count) []) → Spell rule ws a
spelled {A = A} {count = count} f = record {
  steps = f.it.used;
  count = count;
  say = sym (f.it.split ∙ append-nil (said f.it.used));
  inside = f.it.inside;
  spells = f.it.spells;
  only = λ others x g same. ap (λ (y : A × ℕ). y.0) (f.it.only others x [] [] g tt refl (append-nil (said others) ∙ same ∙ f.it.split)).1;
}

-- ---- literals and columns

number_literal : (v : ℕ) (rest : List Word) → v + 1 ≤ 2 ^ 63 → Fits nothing LiteralRule (Number v ∷ rest) (Read (Int (pos v)) rest)
number_literal v rest low = record { it = fits_by nothing SignedRule LiteralRule (Number v ∷ rest) (Read (Int (pos v)) rest) (signed_number v (Number v ∷ rest) rest refl low).it (λ s b k. signed k) (λ s b back k ends same. from s b back k same) }
  where
    from : (s : List Step) (b : Value) (back : List Word) → LiteralRule s b → first (said s ++ back) ≡ Some (Number v) → SignedRule s b
    from s b back (signed k) same = k
    from s b back (text t p q) same = let d : Some (Text t) ≡ Some (Number v) = ap (λ (z : List Step). first (said z ++ back)) (sym p) ∙ same in absurd cc

name_ref : (name : List ℕ) (rest : List Word) → (first rest ≡ Some (Sign sign.Point) → ⊥) → Fits is_point RefRule (Name name ∷ rest) (Read (ref_to None name) rest)
name_ref name rest no_point = named_go {n = name} {rest = rest} (record { it = refl }) (left_here (after_not_here (record { it = no_point })) return_fits)

-- ---- expressions

pub number_factor : {n : ℕ} (v : ℕ) (rest : List Word) → v + 1 ≤ 2 ^ 63 → Fits is_point (Factor n) (Number v ∷ rest) (Read (int v, n) rest)
number_factor v rest low = literal_read (record { it = refl }) (number_literal v rest low)

text_factor : {n : ℕ} (t : List ℕ) (rest : List Word) → Fits is_point (Factor n) (Text t ∷ rest) (Read (example.text t, n) rest)
text_factor t rest = literal_read (record { it = refl }) (literal_text t (Text t ∷ rest) rest refl)

pub name_factor : {n : ℕ} (name : List ℕ) (rest : List Word) → (first rest ≡ Some (Sign sign.Point) → ⊥) → Fits is_point (Factor n) (Name name ∷ rest) (Read (named name, n) rest)
name_factor name rest no_point = ref_read (record { it = (refl, refl, refl) }) (name_ref name rest no_point)

pub product_read : {n : ℕ} {ws mid : List Word} {x : Counted} {r : Reading Counted} → Fits is_point (Factor n) ws (Read x mid) → Fits follow_product (Factors x) mid r → Fits follow_product (Product n) ws r
product_read f g = product_as (then_go (factors_passed {f = λ (b : Counted). b}) f g)

pub star_read : {a b : tree.Expr Ref} {k m : ℕ} {rest mid : List Word} {r : Reading Counted} → k < 256 → Fits is_point (Factor (k + 1)) rest (Read (b, m) mid) → Fits follow_product (Factors (tree.times a b, m)) mid r
    → Fits follow_product (Factors (a, k)) (Sign sign.Star ∷ rest) r
star_read low f g = star_more refl low (record { it = refl }) f refl g

pub no_star : {x : Counted} {ws : List Word} → (first ws ≡ Some (Sign sign.Star) → ⊥) → Fits follow_product (Factors x) ws (Read x ws)
no_star absent = star_end (record { it = absent })

pub one_number : {n : ℕ} (v : ℕ) (rest : List Word) → v + 1 ≤ 2 ^ 63 → (first rest ≡ Some (Sign sign.Star) → ⊥) → Fits follow_product (Product n) (Number v ∷ rest) (Read (int v, n) rest)
one_number v rest low absent = product_read (number_factor v rest low) (no_star absent)

pub one_text : {n : ℕ} (t : List ℕ) (rest : List Word) → (first rest ≡ Some (Sign sign.Star) → ⊥) → Fits follow_product (Product n) (Text t ∷ rest) (Read (example.text t, n) rest)
one_text t rest absent = product_read (text_factor t rest) (no_star absent)

pub sum_read : {n : ℕ} {ws mid : List Word} {x : Counted} {r : Reading Counted} → Fits follow_product (Product n) ws (Read x mid) → Fits follow_sum (Products x) mid r → Fits follow_sum (Sum n) ws r
sum_read f g = sum_as (then_go (products_passed {f = λ (b : Counted). b}) f g)

pub sum_end : {x : Counted} → Fits follow_sum (Products x) [] (Read x [])
sum_end = operator_end (record { it = refl })

operator_read : {a b : tree.Expr Ref} {k m : ℕ} {ws rest mid : List Word} {r : Reading Counted} (by : SumOperator) → k < 256 → NumberFits rest → ws ≡ word_before by rest ∷ rest → Fits follow_product (Product (k + 1)) rest (Read (b, m) mid)
    → Fits follow_sum (Products (sum_of by a b, m)) mid r → Fits follow_sum (Products (a, k)) ws r
operator_read {a = a} by low fits e f g = operator_word by low fits e (then_go (products_passed {f = λ (b : Counted). (sum_of by a b.0, b.1)}) f g)

number_fits : (v : ℕ) (rest : List Word) → v ≤ 2 ^ 63 → NumberFits (Number v ∷ rest)
number_fits v rest low e = (v, rest, refl, low)

no_number : (t : List ℕ) (rest : List Word) → NumberFits (Text t ∷ rest)
no_number t rest e = absurd cc

pub minus_read : {a b : tree.Expr Ref} {k m v : ℕ} {rest mid : List Word} {r : Reading Counted} → k < 256 → v ≤ 2 ^ 63 → Fits follow_product (Product (k + 1)) (Number v ∷ rest) (Read (b, m) mid)
    → Fits follow_sum (Products (tree.minus a b, m)) mid r → Fits follow_sum (Products (a, k)) (Minus true ∷ Number v ∷ rest) r
minus_read {v = v} {rest = rest} low small f g = operator_read operator.Difference low (number_fits v rest small) refl f g

pub plus_read : {a b : tree.Expr Ref} {k m v : ℕ} {rest mid : List Word} {r : Reading Counted} → k < 256 → v ≤ 2 ^ 63 → Fits follow_product (Product (k + 1)) (Number v ∷ rest) (Read (b, m) mid)
    → Fits follow_sum (Products (tree.plus a b, m)) mid r → Fits follow_sum (Products (a, k)) (Sign sign.Plus ∷ Number v ∷ rest) r
plus_read {v = v} {rest = rest} low small f g = operator_read operator.Plus low (number_fits v rest small) refl f g

pub bars_read : {a b : tree.Expr Ref} {k m : ℕ} {t : List ℕ} {rest mid : List Word} {r : Reading Counted} → k < 256 → Fits follow_product (Product (k + 1)) (Text t ∷ rest) (Read (b, m) mid)
    → Fits follow_sum (Products (tree.joined a b, m)) mid r → Fits follow_sum (Products (a, k)) (Sign sign.Bars ∷ Text t ∷ rest) r
bars_read {t = t} {rest = rest} low f g = operator_read operator.Concatenation low (no_number t rest) refl f g

-- ---- conditions

-- NAME = v
pub equal_read : {n : ℕ} (name : List ℕ) (v : ℕ) (rest : List Word) → n < 256 → v + 1 ≤ 2 ^ 63 → Fits is_point (Negation n) (Name name ∷ Sign sign.Equal ∷ Number v ∷ rest) (Read (is name v, n + 1) rest)
equal_read {n = n} name v rest low small =
    let left = column_read (record { it = (refl, refl, refl) }) (name_ref name (Sign sign.Equal ∷ Number v ∷ rest) (λ e. cc)) in
    let right = value_read {s = start.Literal} (record { it = refl }) (λ e. cc) (number_literal v rest small) in
    test_first (record { it = λ e. cc }) (record { it = λ e. cc }) (first_read n left (compared_go compare.Equal low refl (then_go (return_passed (λ t p. p)) right return_fits)))

pub negation_read : {n m : ℕ} {ws rest : List Word} {c : tree.Cond Ref} → n < 256 → Fits is_point (Negation (n + 1)) ws (Read (c, m) rest) → Fits is_point (Negation n) (Keyword keyword.Not ∷ ws) (Read (tree.opposite c, m) rest)
negation_read low f = not_read refl low (record { it = refl }) f refl

pub conjunction_read : {n : ℕ} {ws mid : List Word} {x : CountedCond} {r : Reading CountedCond} → Fits is_point (Negation n) ws (Read x mid) → Fits follow_conjunction (Negations x) mid r → Fits follow_conjunction (Conjunction n) ws r
conjunction_read f g = conjunction_as (then_go (negations_passed {f = λ (b : CountedCond). b}) f g)

pub and_read : {c d : tree.Cond Ref} {k m : ℕ} {rest mid : List Word} {r : Reading CountedCond} → k < 256 → Fits is_point (Negation (k + 1)) rest (Read (d, m) mid) → Fits follow_conjunction (Negations (tree.both c d, m)) mid r
    → Fits follow_conjunction (Negations (c, k)) (Keyword keyword.And ∷ rest) r
and_read low f g = and_more refl low (record { it = refl }) f refl g

pub no_and : {x : CountedCond} {ws : List Word} → (first ws ≡ Some (Keyword keyword.And) → ⊥) → Fits follow_conjunction (Negations x) ws (Read x ws)
no_and absent = and_end (record { it = absent })

-- NAME = v, with no AND behind it
pub one_equal : {n : ℕ} (name : List ℕ) (v : ℕ) (rest : List Word) → n < 256 → v + 1 ≤ 2 ^ 63 → (first rest ≡ Some (Keyword keyword.And) → ⊥) → Fits follow_conjunction (Conjunction n) (Name name ∷ Sign sign.Equal ∷ Number v ∷ rest) (Read (is name v, n + 1) rest)
one_equal name v rest low small absent = conjunction_read (equal_read name v rest low small) (no_and absent)

pub disjunction_read : {n : ℕ} {ws mid : List Word} {x : CountedCond} {r : Reading CountedCond} → Fits follow_conjunction (Conjunction n) ws (Read x mid) → Fits follow_disjunction (Conjunctions x) mid r → Fits follow_disjunction (Disjunction n) ws r
disjunction_read f g = disjunction_as (then_go (conjunctions_passed {f = λ (b : CountedCond). b}) f g)

pub or_read : {c d : tree.Cond Ref} {k m : ℕ} {rest mid : List Word} {r : Reading CountedCond} → k < 256 → Fits follow_conjunction (Conjunction (k + 1)) rest (Read (d, m) mid) → Fits follow_disjunction (Conjunctions (tree.either c d, m)) mid r
    → Fits follow_disjunction (Conjunctions (c, k)) (Keyword keyword.Or ∷ rest) r
or_read low f g = or_more refl low (record { it = refl }) f refl g

pub no_or : {x : CountedCond} {ws : List Word} → (first ws ≡ Some (Keyword keyword.Or) → ⊥) → Fits follow_disjunction (Conjunctions x) ws (Read x ws)
no_or absent = or_end (record { it = absent })
