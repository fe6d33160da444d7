-- What a SELECT gives.
use Rattle.std.proofs.Common.{◌≡◌, true, false, List, [], ◌∷◌, Some, None, refl, ap, ◌∙◌, inl}
use Rattle.bf_tree.specs.declared.raw.Ref.{Ref}
use Rattle.bf_tree.specs.Trees.{Expr}
use Rattle.bf_lex.specs.declared.sign.Sign.TheVariants as sign
use Rattle.bf_tree.specs.declared.items.Aggregate.{Aggregate}
use Rattle.bf_tree.specs.declared.items.Items.{Items}
use Rattle.bf_tree.specs.declared.items.Items.TheVariants as items
use Rattle.bf_phrase.specs.declared.error.ReadStop.{ReadStop}
use Rattle.bf_phrase.specs.Words.{Word, Sign}
use Rattle.bf_phrase.specs.Words as word
use Rattle.bf_phrase.specs.Steps.{Step, Say, said}
use Rattle.bf_phrase.specs.Rules.{Return, Then, Listed}
use Rattle.bf_phrase.specs.Reading.{Reading, Read, Fits}
use Rattle.bf_phrase.specs.Outcome.{IsBehind, stopped}
use Rattle.bf_phrase.specs.First.{begins, first_aggregate, first_expression}
use Rattle.bf_phrase.specs.Follow.{follow_sum, nothing, follow_list}
use Rattle.bf_phrase.specs.Phrases.{ExprRule, AggregateRule}
use Rattle.bf_parse.specs.Statements.{ListRule}
use Rattle.bf_phrase.proofs.Beginnings.{Begun, other_not_here}
use Rattle.bf_phrase.proofs.Factors.{begins-append}
use Rattle.bf_phrase.proofs.Listings.{aggregate_part, expression_part}
use Rattle.bf_phrase.proofs.Maps.{either_not_here}
use Rattle.bf_phrase.proofs.Moves.{Can, left_here, right_here, after_not_here, behind_go, return_fits, return_can, return_passed, then_go, then_stop}
use Rattle.bf_phrase.proofs.Phrases.{or_right}

exprs_begun : Begun first_expression (Then (Listed ExprRule) (λ es. Return (items.Exprs es)))
exprs_begun = record {
  it = λ s b h.
      let list = h.4 in
      ap (λ (z : List Step). begins first_expression (said z)) h.3 ∙ begins-append first_expression h.0 h.1
      (ap (λ (z : List Step). begins first_expression (said z)) list.3 ∙ begins-append first_expression list.0 list.1
      (ap (λ (z : List Step). begins first_expression (said z)) list.4.1 ∙ expression_part.opens list.4.0 list.2 list.4.2));
}

totals_begun : Begun first_aggregate (Then (Listed AggregateRule) (λ totals. Return (items.Aggregates totals)))
totals_begun = record {
  it = λ s b h.
      let list = h.4 in
      ap (λ (z : List Step). begins first_aggregate (said z)) h.3 ∙ begins-append first_aggregate h.0 h.1
      (ap (λ (z : List Step). begins first_aggregate (said z)) list.3 ∙ begins-append first_aggregate list.0 list.1
      (ap (λ (z : List Step). begins first_aggregate (said z)) list.4.1 ∙ aggregate_part.opens list.4.0 list.2 list.4.2));
}

aggregate_no_expression : (ws : List Word) → begins first_aggregate ws ≡ true → begins first_expression ws ≡ false
aggregate_no_expression [] e = refl
aggregate_no_expression (word.Keyword k ∷ ws) e = refl
aggregate_no_expression (word.Name n ∷ ws) e = absurd cc
aggregate_no_expression (word.Number n ∷ ws) e = absurd cc
aggregate_no_expression (word.Text t ∷ ws) e = absurd cc
aggregate_no_expression (word.Minus b ∷ ws) e = absurd cc
aggregate_no_expression (word.Sign s ∷ ws) e = absurd cc

pub star_list : {ws rest : List Word} → IsBehind (Sign sign.Star) ws (Some rest) → Fits (follow_list follow_sum) ListRule ws (Read items.All rest)
star_list h = left_here (either_not_here (other_not_here exprs_begun (ap (λ (z : List Word). begins first_expression z) h.it)) (other_not_here totals_begun (ap (λ (z : List Word). begins first_aggregate z) h.it))) (behind_go h return_fits)

totals_here : {ws : List Word} {r : Reading (Items (Expr Ref))} → IsBehind (Sign sign.Star) ws None → begins first_aggregate ws ≡ true → Fits (follow_list follow_sum) (Then (Listed AggregateRule) (λ totals. Return (items.Aggregates totals))) ws r → Fits (follow_list follow_sum) ListRule ws r
totals_here {ws = ws} h e f = right_here (after_not_here h) (right_here (other_not_here exprs_begun (aggregate_no_expression ws e)) f)

exprs_here : {ws : List Word} {r : Reading (Items (Expr Ref))} → IsBehind (Sign sign.Star) ws None → begins first_aggregate ws ≡ false → Fits (follow_list follow_sum) (Then (Listed ExprRule) (λ es. Return (items.Exprs es))) ws r → Fits (follow_list follow_sum) ListRule ws r
exprs_here {ws = ws} h e f = right_here (after_not_here h) (left_here (other_not_here totals_begun e) f)

totals_weaker : (t : Word) → follow_list follow_sum t ≡ false → follow_list nothing t ≡ false
totals_weaker t e = or_right (follow_sum t) _ e

pub totals_go : {ws rest : List Word} {totals : List (Aggregate (Expr Ref))} → IsBehind (Sign sign.Star) ws None → begins first_aggregate ws ≡ true → Fits (follow_list nothing) (Listed AggregateRule) ws (Read totals rest) → Fits (follow_list follow_sum) ListRule ws (Read (items.Aggregates totals) rest)
totals_go h e f = totals_here h e (then_go (return_passed totals_weaker) f return_fits)

pub totals_stop : {ws : List Word} (s : ReadStop) → IsBehind (Sign sign.Star) ws None → begins first_aggregate ws ≡ true → Fits (follow_list nothing) (Listed AggregateRule) ws (stopped s) → Fits (follow_list follow_sum) ListRule ws (stopped s)
totals_stop s h e f = totals_here h e (then_stop s (return_passed totals_weaker) (λ a. return_can) f)

pub exprs_go : {ws rest : List Word} {es : List (Expr Ref)} → IsBehind (Sign sign.Star) ws None → begins first_aggregate ws ≡ false → Fits (follow_list follow_sum) (Listed ExprRule) ws (Read es rest) → Fits (follow_list follow_sum) ListRule ws (Read (items.Exprs es) rest)
exprs_go h e f = exprs_here h e (then_go (return_passed (λ t p. p)) f return_fits)

pub exprs_stop : {ws : List Word} (s : ReadStop) → IsBehind (Sign sign.Star) ws None → begins first_aggregate ws ≡ false → Fits (follow_list follow_sum) (Listed ExprRule) ws (stopped s) → Fits (follow_list follow_sum) ListRule ws (stopped s)
exprs_stop s h e f = exprs_here h e (then_stop s (return_passed (λ t p. p)) (λ a. return_can) f)

pub list_can : Can ListRule
list_can = record { it = (Say (Sign sign.Star) ∷ [], items.All, inl ([], refl, (refl, refl))) }
