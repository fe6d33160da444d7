-- The items of a MIGRATE.
use Rattle.std.proofs.Common.{◌≡◌, ℕ, Bool, true, false, List, [], ◌∷◌, ◌++◌, length, Some, None, Ok, Err, refl, sym, ap, subst, ◌∙◌, inl, inr, append_assoc}
use Rattle.std.proofs.lemmas.Bool.{cases_Bool}
use Rattle.std.proofs.lemmas.List.{append-nil}
use Rattle.std.specs.Prelude.{◌||◌}
use Rattle.bf_tree.specs.Trees.{Expr, column}
use Rattle.bf_tree.specs.declared.raw.Ref.{Ref}
use Rattle.bf_lex.specs.declared.keyword.Keyword.TheVariants as keyword
use Rattle.bf_tree.specs.declared.items.Aggregate.{Aggregate}
use Rattle.bf_tree.specs.declared.migration.Item.{Item}
use Rattle.bf_tree.specs.declared.migration.Item.TheVariants as item
use Rattle.bf_phrase.specs.declared.error.ReadStop.{ReadStop}
use Rattle.bf_phrase.specs.Words.{Word, Keyword, Name, Number, Text, Minus, Sign}
use Rattle.bf_phrase.specs.Steps.{Step, Say, said}
use Rattle.bf_phrase.specs.Rules.{Return, Then}
use Rattle.bf_phrase.specs.Reading.{CanGoOn, Ends, Reading, Read, Stuck, Fits, first}
use Rattle.bf_phrase.specs.Outcome.{IsBehind, IsExpected, IsNamed, stopped}
use Rattle.bf_phrase.specs.First.{begins, first_aggregate, first_expression, first_item}
use Rattle.bf_phrase.specs.Follow.{follow_sum, nothing, follow_item, is_as}
use Rattle.bf_phrase.specs.Parts.{IsPart, IsSayable}
use Rattle.bf_phrase.specs.Expressions.{Counted, Sum}
use Rattle.bf_phrase.specs.Phrases.{AggregateRule}
use Rattle.bf_phrase.specs.Items.{AsRule, BareRule, ItemRule}
use Rattle.bf_phrase.specs.Pieces.{IsBare, ItemEnd}
use Rattle.bf_phrase.proofs.Fitting.{stuck_here}
use Rattle.bf_phrase.proofs.Factors.{begins-append}
use Rattle.bf_phrase.proofs.Beginnings.{Begun, other_not_here}
use Rattle.bf_phrase.proofs.Chains.{or_left}
use Rattle.bf_phrase.proofs.Clears.{Clear, clear_after, clear_either, clear_passed, clear_return, clear_then, or_right}
use Rattle.bf_phrase.proofs.Listings.{aggregate_part, expression_part}
use Rattle.bf_phrase.proofs.Maps.{any_passed, either_not_here, same_rule, wider}
use Rattle.bf_phrase.proofs.Shapes.{as_can, item_can}
use Rattle.bf_phrase.proofs.Moves.{Can, NotHere, Passed, after_go, after_stop, behind_go, left_can, left_here, named_can, named_go, named_stop, return_can, return_fits, return_not_here, right_here, then_can, then_go, then_stop}

-- ---- what stands behind an expression

as_read : {ws rest mid : List Word} {n : List ℕ} → IsBehind (Keyword keyword.As) ws (Some rest) → IsNamed rest (Ok (n, mid)) → Fits nothing AsRule ws (Read n mid)
as_read h k = behind_go h (named_go k return_fits)

as_stop : {ws rest : List Word} {e : ReadStop} → IsBehind (Keyword keyword.As) ws (Some rest) → IsNamed rest (Err e) → Fits nothing AsRule ws (stopped e)
as_stop h k = behind_go h (named_stop k (λ n. return_can))

bare_not_here : (x : Counted) {ws rest : List Word} → IsBehind (Keyword keyword.As) ws (Some rest) → NotHere is_as (BareRule x) ws
bare_not_here x {ws = ws} h = record { it = λ s b back g ends same. let k : NotHere is_as (Return (item.Column g.0)) ws = return_not_here h refl in k.it s b back g.2 ends same }

as_not_here : {A : Type 0} {w : Word → Bool} (H : List ℕ → List Step → A → Type 0) {ws : List Word} → IsBehind (Keyword keyword.As) ws None → NotHere w (Then AsRule H) ws
as_not_here H h = record { it = λ s b back g ends same. h.it (sym same ∙ ap (λ (z : List Step). first (said z ++ back)) (g.3 ∙ ap (λ (z : List Step). z ++ g.1) g.4.1)) }

abbrev NamedEnd : Counted → List ℕ → List Step → Item → Type 0
NamedEnd x = λ name. Return (item.Named x.0 name)

pub end_can : (x : Counted) → Can (ItemEnd x)
end_can x = left_can (then_can as_can (λ n. return_can))

pub end_named_stop : {x : Counted} {ws rest : List Word} {e : ReadStop} → IsBehind (Keyword keyword.As) ws (Some rest) → IsNamed rest (Err e) → Fits is_as (ItemEnd x) ws (stopped e)
end_named_stop {x = x} {e = e} h k = left_here (bare_not_here x h) (then_stop e any_passed (λ n. return_can) (as_stop h k))

pub end_named : {x : Counted} {ws rest mid : List Word} {n : List ℕ} → IsBehind (Keyword keyword.As) ws (Some rest) → IsNamed rest (Ok (n, mid)) → Fits is_as (ItemEnd x) ws (Read (item.Named x.0 n) mid)
end_named {x = x} h k = left_here (bare_not_here x h) (then_go any_passed (as_read h k) return_fits)

abbrev plain : Ref → Counted
plain r = (column r, 0)

same_ref : (q r : Ref) → plain q ≡ plain r → q ≡ r
same_ref q r e = let d : column q ≡ column r = ap (λ (z : Counted). z.0) e in cc

pub end_bare : {x : Counted} {ws : List Word} {r : Ref} → IsBehind (Keyword keyword.As) ws None → IsBare x (Some r) → Fits is_as (ItemEnd x) ws (Read (item.Column r) ws)
end_bare {x = x} {ws = ws} {r = r} h is_bare =
    right_here (as_not_here (NamedEnd x) h) (same_rule (λ s b g. (r, is_bare.it, g)) (λ s b g. (g.2.0, g.2.1 ∙ ap item.Column (same_ref g.0 r (sym g.1 ∙ is_bare.it)))) return_fits)

pub end_stuck : {x : Counted} {ws : List Word} (k : ℕ) → length ws ≡ k → IsBehind (Keyword keyword.As) ws None → IsBare x None → Fits is_as (ItemEnd x) ws (Stuck k)
end_stuck {x = x} {ws = ws} k e h is_none =
    let none : NotHere is_as (BareRule x) ws = record { it = λ s b back g ends same. is_none.it g.0 g.1 } in
    let not_here : NotHere is_as (ItemEnd x) ws = either_not_here (as_not_here (NamedEnd x) h) none in
    subst (λ (n : ℕ). Fits is_as (ItemEnd x) ws (Stuck n)) e (record { it = stuck_here is_as (ItemEnd x) ws (end_can x).it not_here.it })

-- ---- an item

abbrev TotalItem : List Step → Item → Type 0
TotalItem = Then AggregateRule (λ total. Then AsRule (λ name. Return (item.Total total name)))

bare_clear : (x : Counted) → Clear follow_sum (BareRule x)
bare_clear x = record { it = λ s b g. subst (λ (z : List Step). Ends follow_sum (said z)) (sym g.2.0) tt }

end_clear : (x : Counted) → Clear follow_sum (ItemEnd x)
end_clear x = clear_either (clear_then (clear_after refl) (λ n. clear_return)) (bare_clear x)

item_passed : Passed follow_sum follow_item (λ x. ItemEnd x)
item_passed = clear_passed end_clear (λ t e. or_left _ _ e)

total_begun : Begun first_aggregate TotalItem
total_begun = record { it = λ s b h. ap (λ (z : List Step). begins first_aggregate (said z)) h.3 ∙ begins-append first_aggregate h.0 h.1 (aggregate_part.opens h.0 h.2 h.4) }

sum_begun : Begun first_expression (Then (Sum 0) (λ x. ItemEnd x))
sum_begun = record { it = λ s b h. ap (λ (z : List Step). begins first_expression (said z)) h.3 ∙ begins-append first_expression h.0 h.1 (expression_part.opens h.0 h.2.0 (h.2.1, h.4)) }

no_expression : (ws : List Word) → begins first_aggregate ws ≡ true → begins first_expression ws ≡ false
no_expression [] e = refl
no_expression (Keyword k ∷ ws) e = refl
no_expression (Name n ∷ ws) e = absurd cc
no_expression (Number n ∷ ws) e = absurd cc
no_expression (Text t ∷ ws) e = absurd cc
no_expression (Minus b ∷ ws) e = absurd cc
no_expression (Sign s ∷ ws) e = absurd cc

item_sum : {ws : List Word} {r : Reading Item} → begins first_aggregate ws ≡ false → Fits follow_item (Then (Sum 0) (λ x. ItemEnd x)) ws r → Fits follow_item ItemRule ws r
item_sum absent f = left_here (other_not_here total_begun absent) f

item_total : {ws : List Word} {r : Reading Item} → begins first_aggregate ws ≡ true → Fits follow_item TotalItem ws r → Fits follow_item ItemRule ws r
item_total {ws = ws} here f = right_here (other_not_here sum_begun (no_expression ws here)) f

pub sum_stop : {ws : List Word} (e : ReadStop) → begins first_aggregate ws ≡ false → Fits follow_sum (Sum 0) ws (stopped e) → Fits follow_item ItemRule ws (stopped e)
sum_stop e absent f = item_sum absent (then_stop e item_passed end_can f)

pub sum_item : {ws mid : List Word} {x : Counted} {r : Reading Item} → begins first_aggregate ws ≡ false → Fits follow_sum (Sum 0) ws (Read x mid) → Fits is_as (ItemEnd x) mid r → Fits follow_item ItemRule ws r
sum_item absent f g = item_sum absent (then_go item_passed f (wider (λ t e. or_right _ _ e) g))

total_end_can : (total : Aggregate (Expr Ref)) → Can (Then AsRule (λ name. Return (item.Total total name)))
total_end_can total = then_can as_can (λ n. return_can)

pub total_stop : {ws : List Word} (e : ReadStop) → begins first_aggregate ws ≡ true → Fits nothing AggregateRule ws (stopped e) → Fits follow_item ItemRule ws (stopped e)
total_stop e here f = item_total here (then_stop e any_passed total_end_can f)

expected_as : {ws : List Word} {e : ReadStop} → IsExpected (Keyword keyword.As) ws (Err e) → Fits nothing AsRule ws (stopped e)
expected_as h = after_stop h (named_can (λ n. return_can))

pub total_open : {ws mid : List Word} {total : Aggregate (Expr Ref)} {e : ReadStop} → begins first_aggregate ws ≡ true → Fits nothing AggregateRule ws (Read total mid) → IsExpected (Keyword keyword.As) mid (Err e) → Fits follow_item ItemRule ws (stopped e)
total_open here f h = item_total here (then_go any_passed f (then_stop _ any_passed (λ n. return_can) (expected_as h)))

pub total_unnamed : {ws mid rest : List Word} {total : Aggregate (Expr Ref)} {e : ReadStop} → begins first_aggregate ws ≡ true → Fits nothing AggregateRule ws (Read total mid) → IsExpected (Keyword keyword.As) mid (Ok rest) → IsNamed rest (Err e)
    → Fits follow_item ItemRule ws (stopped e)
total_unnamed here f h k = item_total here (then_go any_passed f (then_stop _ any_passed (λ n. return_can) (after_go h (named_stop k (λ n. return_can)))))

pub total_item : {ws mid rest last : List Word} {total : Aggregate (Expr Ref)} {n : List ℕ} → begins first_aggregate ws ≡ true → Fits nothing AggregateRule ws (Read total mid) → IsExpected (Keyword keyword.As) mid (Ok rest) → IsNamed rest (Ok (n, last))
    → Fits follow_item ItemRule ws (Read (item.Total total n) last)
total_item here f h k = item_total here (then_go any_passed f (then_go (any_passed {w = follow_item}) (after_go h (named_go k return_fits)) return_fits))

-- ---- a part of a list

begins_either : (a b : Word → Bool) (ws : List Word) → (begins a ws || begins b ws) ≡ true → begins (λ w. a w || b w) ws ≡ true
begins_either a b [] e = e
begins_either a b (w ∷ ws) e = e

or_true : (b : Bool) → (b || true) ≡ true
or_true true = refl
or_true false = refl

item_opens : (s : List Step) (i : Item) → ItemRule s i → begins first_item (said s) ≡ true
item_opens s i (inl h) = begins_either first_expression first_aggregate (said s) (ap (λ (z : Bool). z || begins first_aggregate (said s)) (sum_begun.it s i h))
item_opens s i (inr h) = begins_either first_expression first_aggregate (said s) (ap (λ (z : Bool). begins first_expression (said s) || z) (total_begun.it s i h) ∙ or_true (begins first_expression (said s)))

as_steps : List Step
as_steps = Say (Keyword keyword.As) ∷ Say (Name []) ∷ []

as_spelled : AsRule as_steps []
unfolding as_steps
as_spelled = (Say (Name []) ∷ [], refl, ([], [], refl, (refl, refl)))

sum_starts : (w : Word) → IsSayable w → first_expression w ≡ true → (next : List Step) × (said next ≡ w ∷ []) × CanGoOn ItemRule next
sum_starts w real e =
    let h = expression_part.starts w real e in
    (h.0, h.1, (h.2.0 ++ as_steps, item.Named h.2.1 [], inl (h.0 ++ h.2.0, as_steps, (h.2.1, h.2.2.0), sym (append_assoc h.0 h.2.0 as_steps), h.2.2.1, inl (as_steps, [], [], sym (append-nil as_steps), as_spelled, (refl, refl)))))

total_starts : (w : Word) → IsSayable w → first_aggregate w ≡ true → (next : List Step) × (said next ≡ w ∷ []) × CanGoOn ItemRule next
total_starts w real e =
    let h = aggregate_part.starts w real e in
    (h.0, h.1, (h.2.0 ++ as_steps, item.Total h.2.1 [], inr (h.0 ++ h.2.0, as_steps, h.2.1, sym (append_assoc h.0 h.2.0 as_steps), h.2.2, (as_steps, [], [], sym (append-nil as_steps), as_spelled, (refl, refl)))))

item_starts : (w : Word) → IsSayable w → first_item w ≡ true → (next : List Step) × (said next ≡ w ∷ []) × CanGoOn ItemRule next
item_starts w real e = elim (cases_Bool (first_expression w)) [
  | inl here ↦ sum_starts w real here
  | inr absent ↦ total_starts w real (sym (ap (λ (z : Bool). z || first_aggregate w) absent) ∙ e)
]

pub item_part : IsPart follow_item first_item ItemRule
item_part = record { opens = item_opens; starts = item_starts; some = item_can.it; comma = refl; closing = refl }

pub begins_left : (ws : List Word) → begins first_expression ws ≡ true → true ≡ begins first_item ws
begins_left [] e = sym e
begins_left (w ∷ ws) e = sym (ap (λ (z : Bool). z || first_aggregate w) e)

pub begins_right : (ws : List Word) {b : Bool} → begins first_expression ws ≡ false → b ≡ begins first_aggregate ws → b ≡ begins first_item ws
begins_right [] e q = q
begins_right (w ∷ ws) e q = q ∙ sym (ap (λ (z : Bool). z || first_aggregate w) e)
