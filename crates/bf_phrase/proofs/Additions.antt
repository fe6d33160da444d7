-- Sums: products joined by operators, of which a minus tells whether a number stands behind it.
use Rattle.std.proofs.Common.{◌≡◌, ℕ, ◌+◌, false, List, [], ◌++◌, refl, sym, ap, subst, ◌∙◌}
use Rattle.bf_lex.specs.declared.sign.Sign.TheVariants as sign
use Rattle.bf_phrase.specs.Words.{Word, Minus, Sign}
use Rattle.bf_phrase.specs.Steps.{Step, Node, said}
use Rattle.bf_phrase.specs.Rules.{Then}
use Rattle.bf_phrase.specs.Reading.{Ends, Reading, Fits}
use Rattle.bf_phrase.specs.Follow.{follow_product, follow_sum}
use Rattle.bf_phrase.specs.Expressions.{Counted, Factor, narrow, widest, number, negative, opposite, text, ref, parenthesis, Product, product, Products, no_product, other_product, Sum, sum, begins_with_number}
use Rattle.bf_phrase.specs.declared.sum_operator.SumOperator.TheVariants as operator
use Rattle.bf_phrase.proofs.Fitting.{fits_by}
use Rattle.bf_phrase.proofs.Lists.{weaker_ends}
use Rattle.bf_phrase.proofs.Moves.{Passed}
use Rattle.bf_phrase.proofs.Chains.{product_ends}
use Rattle.bf_phrase.proofs.Numbered.{Headed, plain, wide, marked}

pub sum_as : {n : ℕ} {ws : List Word} {r : Reading Counted} → Fits follow_sum (Then (Product n) Products) ws r → Fits follow_sum (Sum n) ws r
sum_as {n = n} {ws = ws} {r = r} f = record { it = fits_by follow_sum (Then (Product n) Products) (Sum n) ws r f.it (λ s b h. sum h.0 h.1 h.2 h.4 h.5 h.3) (λ s b back g ends same. from s b g) }
  where
    from : (s : List Step) (b : Counted) → Sum n s b → Then (Product n) Products s b
    from s b (sum front rest a g m p) = (front, rest, a, p, g, m)

-- ---- with what factors and products begin

pub factor_headed : (n : ℕ) (s : List Step) (x : Counted) → Factor n s x → Headed s
factor_headed n s x (number v (narrow k p) q) = plain _ [] p
factor_headed n s x (number v (widest k p) q) = wide v [] p
factor_headed n s x (negative v k p q) = plain _ _ p
factor_headed n s x (opposite a m front f unnumbered p q) = marked (Node (n + 1)) (Minus false) front refl p
factor_headed n s x (text t p q) = plain _ [] p
factor_headed n s x (ref r h q) = plain _ _ h.2
factor_headed n s x (parenthesis inner h p) = marked (Node (n + 1)) (Sign sign.OpeningParenthesis) _ refl p

pub headed-append : (s t u : List Step) → u ≡ s ++ t → Headed s → Headed u
headed-append s t u e (plain w rest p) = plain w (rest ++ t) (e ∙ ap (λ (z : List Step). z ++ t) p)
headed-append s t u e (wide v rest p) = wide v (rest ++ t) (e ∙ ap (λ (z : List Step). z ++ t) p)
headed-append s t u e (marked m w rest n p) = marked m w (rest ++ t) n (e ∙ ap (λ (z : List Step). z ++ t) p)

pub product_headed : (n : ℕ) (s : List Step) (x : Counted) → Product n s x → Headed s
product_headed n s x (product front back a f m p) = headed-append front back s p (factor_headed n front a f)

-- steps that say something begin with a number where what follows them is put behind too
pub same_number : (s t : List Step) → Headed s → begins_with_number (said (s ++ t)) ≡ begins_with_number (said s)
same_number s t (plain w rest p) = ap (λ (z : List Step). begins_with_number (said (z ++ t))) p ∙ ap (λ (z : List Step). begins_with_number (said z)) (sym p)
same_number s t (wide v rest p) = ap (λ (z : List Step). begins_with_number (said (z ++ t))) p ∙ ap (λ (z : List Step). begins_with_number (said z)) (sym p)
same_number s t (marked m w rest n p) = ap (λ (z : List Step). begins_with_number (said (z ++ t))) p ∙ ap (λ (z : List Step). begins_with_number (said z)) (sym p)

-- ---- what may follow

products_pass : (a : Counted) (s : List Step) (b : Counted) (back : List Word) → Products a s b → Ends follow_sum back → Ends follow_product (said s ++ back)
products_pass a s b back (no_product p q) ends = subst (λ (z : List Step). Ends follow_product (said z ++ back)) (sym p) (weaker_ends follow_product follow_sum product_ends back ends)
products_pass a s b back (other_product operator.Plus front rest c g m p) ends = subst (λ (z : List Step). Ends follow_product (said z ++ back)) (sym p) refl
products_pass a s b back (other_product operator.Difference front rest c g m p) ends = subst (λ (z : List Step). Ends follow_product (said z ++ back)) (sym p) refl
products_pass a s b back (other_product operator.Concatenation front rest c g m p) ends = subst (λ (z : List Step). Ends follow_product (said z ++ back)) (sym p) refl

pub products_passed : {f : Counted → Counted} → Passed follow_product follow_sum (λ b. Products (f b))
products_passed {f = f} = record { it = λ a s b back h ends. products_pass (f a) s b back h ends }
