-- The first objection of several steps: none of those so far, or that of the step at hand.
use Rattle.std.proofs.Common.{◌≡◌, ℕ, ◌+◌, ◌<◌, List, [], ◌∷◌, ◌++◌, map, length, get_or, take, drop, Some, None, Err, Result, Ok, refl, sym, ap, ap₂, subst, ◌∙◌, arith, drop-cons, add-one}
use Rattle.std.specs.Prelude.{flat_map, IsErrAnd}
use Rattle.std.specs.List.{All}
use Rattle.std.proofs.lemmas.List.{length-map, get_or-map, take_more, map-append}
use Rattle.bf_tree.specs.declared.reply.Refusal.{Refusal}
use Rattle.bf_tree.specs.declared.statement_error.StatementError.{StatementError}
use Rattle.bf_tree.specs.declared.statement_error.StatementError.TheVariants as stop
use Rattle.bf_tree.specs.Settling.{first_of, Settles}

pub none_first : (objections : List Refusal) → first_of objections ≡ None → objections ≡ []
none_first [] e = refl
none_first (r ∷ rs) e = absurd cc

pub first_ahead : (objections later : List Refusal) (r : Refusal) → first_of objections ≡ Some r → first_of (objections ++ later) ≡ Some r
first_ahead [] later r e = absurd cc
first_ahead (s ∷ rs) later r e = e

-- what stops a step stops the whole
pub stops : {A B : Type 0} (e : StatementError) (objections all : List Refusal) (meant : A) (whole : B) → Settles (Err e) objections meant → ((r : Refusal) → first_of objections ≡ Some r → first_of all ≡ Some r) → Settles (Err e) all whole
stops (stop.Refused r) objections all meant whole here then = then r here
stops stop.Memory objections all meant whole here then = tt

-- and it is handed on as it is
pub handed_on : {A B : Type 0} (result : Result B StatementError) (e : StatementError) (objections all : List Refusal) (meant : A) (whole : B) → IsErrAnd result (λ given. given ≡ e) → Settles (Err e) objections meant → ((r : Refusal) → first_of objections ≡ Some r → first_of all ≡ Some r) → Settles result all whole
handed_on (Ok found) e objections all meant whole given here then = absurd given
handed_on (Err given) e objections all meant whole same here then = subst (λ (s : StatementError). Settles (Err s) all whole) (sym same) (stops e objections all meant whole here then)

module _ {X B : Type 0} (now : B → X) (items : List B) (i : ℕ) (item : B) (in_range : i < length items) (is : item ≡ get_or items i item) where
  pub behind_item : drop i items ≡ item ∷ drop (i + 1) items
  behind_item = drop-cons items i item in_range ∙ ap₂ (λ (x : B) (j : ℕ). x ∷ drop j items) (sym is) (sym (add-one i))

  pub stops_at_item : (f : B → List Refusal) (all : List Refusal) → flat_map f (drop i items) ≡ all → (r : Refusal) → first_of (f item) ≡ Some r → first_of all ≡ Some r
  stops_at_item f all ahead r here = ap first_of (sym ahead ∙ ap (flat_map f) behind_item) ∙ first_ahead (f item) (flat_map f (drop (i + 1) items)) r here

  -- one more item is mapped
  pub mapped_more : {Y : Type 0} (f : B → Y) (so_far more : List Y) (next : Y) → so_far ≡ map f (take i items) → more ≡ so_far ++ next ∷ [] → next ≡ f item → more ≡ map f (take (i + 1) items)
  mapped_more {Y} f so_far more next is_so_far is_more is_next =
      is_more ∙ ap₂ (λ (ys : List Y) (y : Y). ys ++ y ∷ []) is_so_far is_next
      ∙ sym (ap (map f) (take_more items i item in_range ∙ ap (λ (x : B). take i items ++ x ∷ []) (sym is)) ∙ map-append f (take i items) (item ∷ []))

  -- what holds of each item holds of the one at hand
  pub has_item : (P : X → Type 0) → All P (map now items) → P (now item)
  has_item P all =
      let at : get_or (map now items) i (now item) ≡ now item = get_or-map now items i item (now item) in_range ∙ ap now (sym is) in
      let within : i < length (map now items) = omega (arith, length-map items now) in
      rw at at (all i (now item) within)

  module _ (f : X → List Refusal) (all : List Refusal) (ahead : flat_map f (map now (drop i items)) ≡ all) where
    pub next_ahead : f (now item) ≡ [] → flat_map f (map now (drop (i + 1) items)) ≡ all
    next_ahead none = sym (ap (λ (rs : List Refusal). rs ++ flat_map f (map now (drop (i + 1) items))) none) ∙ ap (λ (xs : List B). flat_map f (map now xs)) (sym behind_item) ∙ ahead

    pub stops_at : (r : Refusal) → first_of (f (now item)) ≡ Some r → first_of all ≡ Some r
    stops_at r here = ap first_of (sym ahead ∙ ap (λ (xs : List B). flat_map f (map now xs)) behind_item) ∙ first_ahead (f (now item)) (flat_map f (map now (drop (i + 1) items))) r here
