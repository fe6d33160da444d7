-- Conditions that may be missing, expressions, and aggregates.
use Rattle.std.proofs.Common.{◌≡◌, ℕ, Bool, true, false, List, [], ◌∷◌, length, Option, Some, None, refl, ap, ◌∙◌}
use Rattle.std.specs.Prelude.{◌||◌}
use Rattle.bf_tree.specs.declared.raw.Ref.{Ref}
use Rattle.bf_tree.specs.Trees.{Expr, Cond}
use Rattle.bf_lex.specs.declared.keyword.Keyword.{Keyword as KeywordCase}
use Rattle.bf_lex.specs.declared.keyword.Keyword.TheVariants as keyword
use Rattle.bf_tree.specs.declared.items.Aggregate.{Aggregate}
use Rattle.bf_tree.specs.declared.items.Aggregate.TheVariants as aggregate
use Rattle.bf_phrase.specs.declared.cursor.Cursor.{Cursor}
use Rattle.bf_phrase.specs.declared.error.ReadStop.{ReadStop}
use Rattle.bf_phrase.specs.Words.{Word, Keyword}
use Rattle.bf_phrase.specs.Words as word
use Rattle.bf_phrase.specs.Steps.{Step}
use Rattle.bf_phrase.specs.Rules.{Return}
use Rattle.bf_phrase.specs.Reading.{Reading, Read, Stuck, Fits}
use Rattle.bf_phrase.specs.Outcome.{IsBehind, stopped}
use Rattle.bf_phrase.specs.Cursors.{words}
use Rattle.bf_phrase.specs.First.{begins, first_aggregate, IsFirstKeyword}
use Rattle.bf_phrase.specs.Follow.{follow_disjunction, nothing, follow_where}
use Rattle.bf_phrase.specs.Expressions.{Sum}
use Rattle.bf_phrase.specs.Conditions.{CountedCond, Disjunction}
use Rattle.bf_phrase.specs.Phrases.{ExprRule, WhereRule, Enclosed, AggregateRule}
use Rattle.bf_phrase.specs.Pieces.{StarRule}
use Rattle.bf_phrase.proofs.Beginnings.{Begun, other_stop}
use Rattle.bf_phrase.proofs.Chains.{or_left}
use Rattle.bf_phrase.proofs.Listings.{aggregate_part, expression_part}
use Rattle.bf_phrase.proofs.Maps.{Maps, map_go, map_stop, wider, other_word, either_not_here, enclosed_go, enclosed_stop}
use Rattle.bf_phrase.proofs.Moves.{Can, left_here, right_here, return_not_here, after_not_here, behind_go, return_fits, return_can, left_can}

pub keyword_behind : {ws : List Word} {found k : KeywordCase} {behind : Cursor} → IsFirstKeyword ws (Some (found, behind)) → found ≡ k → IsBehind (Keyword k) ws (Some (words behind))
keyword_behind {behind = behind} h e = record { it = h.it ∙ ap (λ (z : KeywordCase). Keyword z ∷ words behind) e }

pub expr_maps : Maps (λ (x : Expr Ref × ℕ). x.0) (Sum 0) ExprRule
expr_maps = record { to = λ s a h. (a.1, h); from = λ s b h. ((b, h.0), h.1, refl) }

abbrev Conditional : List Step → Option (Cond Ref) → Type 0
Conditional steps found = (cond : Cond Ref) × (count : ℕ) × Disjunction 0 steps (cond, count) × (found ≡ Some cond)

cond_maps : Maps (λ (x : CountedCond). Some x.0) (Disjunction 0) Conditional
cond_maps = record { to = λ s a h. (a.0, a.1, h, refl); from = λ s b h. ((h.0, h.1), h.2, h.3) }

pub or_right : (a b : Bool) → (a || b) ≡ false → b ≡ false
or_right true b e = absurd cc
or_right false b e = e

pub where_none : {ws : List Word} → IsBehind (Keyword keyword.Where) ws None → Fits follow_where WhereRule ws (Read None ws)
where_none h = left_here (after_not_here h) return_fits

pub where_stop : {ws rest : List Word} (e : ReadStop) → IsBehind (Keyword keyword.Where) ws (Some rest) → Fits follow_disjunction (Disjunction 0) rest (stopped e) → Fits follow_where WhereRule ws (stopped e)
where_stop e h f = right_here (return_not_here h refl) (behind_go h (wider (λ t p. or_left _ _ p) (map_stop e cond_maps f)))

pub where_go : {ws rest mid : List Word} {c : Cond Ref} {n : ℕ} → IsBehind (Keyword keyword.Where) ws (Some rest) → Fits follow_disjunction (Disjunction 0) rest (Read (c, n) mid) → Fits follow_where WhereRule ws (Read (Some c) mid)
where_go h f = right_here (return_not_here h refl) (behind_go h (wider (λ t p. or_left _ _ p) (map_go cond_maps f)))

pub where_can : Can WhereRule
where_can = left_can return_can

pub expr_can : Can ExprRule
expr_can = record { it = expression_part.some }

pub enclosed_value : {A : Type 0} {f : Expr Ref → A} {ws rest : List Word} {a : Expr Ref} → Fits nothing (Enclosed ExprRule (λ e. Return e)) ws (Read a rest) → Fits nothing (Enclosed ExprRule (λ e. Return (f e))) ws (Read (f a) rest)
enclosed_value h = enclosed_go h return_fits

pub enclosed_fault : {A : Type 0} {f : Expr Ref → A} {ws : List Word} (e : ReadStop) → Fits nothing (Enclosed ExprRule (λ e. Return e)) ws (stopped e) → Fits nothing (Enclosed ExprRule (λ e. Return (f e))) ws (stopped e)
enclosed_fault e h = enclosed_stop e (λ a. return_can) h

pub count_first : {ws rest : List Word} {r : Reading (Aggregate (Expr Ref))} → IsBehind (Keyword keyword.Count) ws (Some rest) → Fits nothing StarRule rest r → Fits nothing AggregateRule ws r
count_first h f = left_here (either_not_here (other_word h.it (λ d. cc)) (either_not_here (other_word h.it (λ d. cc)) (other_word h.it (λ d. cc)))) (behind_go h f)

pub sum_first : {ws rest : List Word} {r : Reading (Aggregate (Expr Ref))} → IsBehind (Keyword keyword.Sum) ws (Some rest) → Fits nothing (Enclosed ExprRule (λ e. Return (aggregate.Sum e))) rest r → Fits nothing AggregateRule ws r
sum_first h f = right_here (other_word h.it (λ d. cc)) (left_here (either_not_here (other_word h.it (λ d. cc)) (other_word h.it (λ d. cc))) (behind_go h f))

pub min_first : {ws rest : List Word} {r : Reading (Aggregate (Expr Ref))} → IsBehind (Keyword keyword.Min) ws (Some rest) → Fits nothing (Enclosed ExprRule (λ e. Return (aggregate.Min e))) rest r → Fits nothing AggregateRule ws r
min_first h f = right_here (other_word h.it (λ d. cc)) (right_here (other_word h.it (λ d. cc)) (left_here (other_word h.it (λ d. cc)) (behind_go h f)))

pub max_first : {ws rest : List Word} {r : Reading (Aggregate (Expr Ref))} → IsBehind (Keyword keyword.Max) ws (Some rest) → Fits nothing (Enclosed ExprRule (λ e. Return (aggregate.Max e))) rest r → Fits nothing AggregateRule ws r
max_first h f = right_here (other_word h.it (λ d. cc)) (right_here (other_word h.it (λ d. cc)) (right_here (other_word h.it (λ d. cc)) (behind_go h f)))

pub aggregate_none : {ws : List Word} (k : ℕ) → length ws ≡ k → begins first_aggregate ws ≡ false → Fits nothing AggregateRule ws (Stuck k)
aggregate_none k e absent = other_stop k e aggregate_begun aggregate_able absent
  where
    aggregate_begun : Begun first_aggregate AggregateRule
    aggregate_begun = record { it = aggregate_part.opens }

    aggregate_able : Can AggregateRule
    aggregate_able = record { it = aggregate_part.some }

pub no_aggregate_keyword : (ws : List Word) → IsFirstKeyword ws None → begins first_aggregate ws ≡ false
no_aggregate_keyword [] h = refl
no_aggregate_keyword (word.Keyword k ∷ ws) h = absurd (true_false h.it)
  where
    true_false : true ≡ false → ⊥
    true_false e = cc
no_aggregate_keyword (word.Name n ∷ ws) h = refl
no_aggregate_keyword (word.Number n ∷ ws) h = refl
no_aggregate_keyword (word.Text t ∷ ws) h = refl
no_aggregate_keyword (word.Minus b ∷ ws) h = refl
no_aggregate_keyword (word.Sign s ∷ ws) h = refl

other_keyword : (k : KeywordCase) → (k ≡ keyword.Count → ⊥) → (k ≡ keyword.Sum → ⊥) → (k ≡ keyword.Min → ⊥) → (k ≡ keyword.Max → ⊥) → first_aggregate (Keyword k) ≡ false
other_keyword keyword.Count a b c d = absurd (a refl)
other_keyword keyword.Sum a b c d = absurd (b refl)
other_keyword keyword.Min a b c d = absurd (c refl)
other_keyword keyword.Max a b c d = absurd (d refl)
other_keyword other a b c d = refl

pub no_aggregate : {ws : List Word} {k : KeywordCase} {behind : Cursor} → IsFirstKeyword ws (Some (k, behind)) → (k ≡ keyword.Count → ⊥) → (k ≡ keyword.Sum → ⊥) → (k ≡ keyword.Min → ⊥) → (k ≡ keyword.Max → ⊥) → begins first_aggregate ws ≡ false
no_aggregate {k = k} h a b c d = ap (λ (z : List Word). begins first_aggregate z) h.it ∙ other_keyword k a b c d
