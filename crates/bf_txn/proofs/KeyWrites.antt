-- Entries as std's maps have them, and the finite maps that they are.
use Rattle.std.proofs.Common.{◌≡◌, Result, cond, true, false, List, [], ◌∷◌, map, fold, Ordering, Less, Equal, Greater, Option, Some, None, option_map, refl, sym, ap, ◌∙◌, inl, inr, is_lt, is_eq}
use Rattle.std.specs.BTreeMap.{insert_entry, is_at}
use Rattle.std.specs.Cmp.{IsTotalOrder}
use Rattle.std.specs.FinMap.{IsAntisymmetric}
use Rattle.std.specs.List.{AllByRecursion}
use Rattle.std.specs.List.Sorted.{IsStrictlySortedBy}
use Rattle.std.specs.Result.{OnOk, OnErr}
use Rattle.std.specs.declared.result.Result.TheVariants.{Ok, Err}
use Rattle.std.specs.Map.{keys_of, lookup}
use Rattle.std.specs.Ordering.{match_ordering}
use Rattle.std.proofs.lemmas.Bool.{and_parts, and_from, cases_Bool}
use Rattle.std.proofs.lemmas.Map.Keys.{sorted_head, sorted_tail}
use Rattle.bf_base.specs.Lists.{rises}
use Rattle.bf_base.specs.Maps.{is_map, has_key, entry_at, with_entry, beside}
use Rattle.bf_base.proofs.Maps.{entry_at-with_entry, is_map-with_entry}
use Rattle.bf_base.proofs.Order.{less_from_test, equal_from_test, symmetric, turned_less, rises_alike, rises_tail, rises_skip, same_from_look_ups}

-- what is found first, or else second
abbrev pub over : {A : Type 0} → Option A → Option A → Option A
over (Some x) second = Some x
over None second = second

pub over_none : {A : Type 0} (o : Option A) → o ≡ over o None
over_none (Some x) = refl
over_none None = refl

module _ {K : Type 0} {cmp : K → K → Ordering} (o : IsTotalOrder cmp) {X : Type 0} (key : X → K) where
  pub none_below : (k : K) (xs : List X) → rises cmp (k ∷ map key xs) ≡ true → entry_at cmp key xs k ≡ None
  none_below k [] h = refl
  none_below k (y ∷ ys) h =
      let later = turned_less o k (key y) (less_from_test _ (and_parts _ _ h).0) in
      rw (later, none_below k ys (rises_skip o k (key y) (map key ys) h)) refl

  -- look-ups after further entries, each of another key
  pub entry_at-with_entries : (xs ws : List X) (k : K) → is_map cmp key ws ≡ true → entry_at cmp key (fold (with_entry cmp key) xs ws) k ≡ over (entry_at cmp key ws k) (entry_at cmp key xs k)
  entry_at-with_entries xs [] k h = refl
  entry_at-with_entries xs (w ∷ ws) k h =
      entry_at-with_entries (with_entry cmp key xs w) ws k (rises_tail o (key w) (map key ws) h)
      ∙ ap (over (entry_at cmp key ws k)) (entry_at-with_entry o key xs w k)
      ∙ elim (cases_Bool (has_key cmp key k w)) [
        | inl tied ↦
            let none = none_below k ws (rises_alike o (key w) k (map key ws) (equal_from_test _ tied) h) in
            rw (tied, none) refl
        | inr apart ↦ rw apart refl
      ]

  pub is_map-with_entries : (xs ws : List X) → is_map cmp key xs ≡ true → is_map cmp key (fold (with_entry cmp key) xs ws) ≡ true
  is_map-with_entries xs [] h = h
  is_map-with_entries xs (w ∷ ws) h = is_map-with_entries (with_entry cmp key xs w) ws (is_map-with_entry o key xs w h)

  -- an entry that is put among the further ones first
  pub with_entry-with_entries : (xs ws : List X) (x : X) → is_map cmp key xs ≡ true → is_map cmp key ws ≡ true → with_entry cmp key (fold (with_entry cmp key) xs ws) x ≡ fold (with_entry cmp key) xs (with_entry cmp key ws x)
  with_entry-with_entries xs ws x h g =
      let more = is_map-with_entry o key ws x g in
      let all = is_map-with_entries xs ws h in
      same_from_look_ups o key _ _ (is_map-with_entry o key (fold (with_entry cmp key) xs ws) x all) (is_map-with_entries xs (with_entry cmp key ws x) h) (λ k.
      entry_at-with_entry o key (fold (with_entry cmp key) xs ws) x k
      ∙ ap (cond (has_key cmp key k x) (Some x)) (entry_at-with_entries xs ws k g)
      ∙ elim (has_key cmp key k x) as (λ b. cond b (Some x) (over (entry_at cmp key ws k) (entry_at cmp key xs k)) ≡ over (cond b (Some x) (entry_at cmp key ws k)) (entry_at cmp key xs k)) [ true ↦ refl | false ↦ refl ]
      ∙ sym (entry_at-with_entries xs (with_entry cmp key ws x) k more ∙ ap (λ (found : Option X). over found (entry_at cmp key xs k)) (entry_at-with_entry o key ws x k)))

module _ {K X : Type 0} {cmp : K → K → Ordering} (o : IsTotalOrder cmp) where
  abbrev pub key_of_entry : K × X → K
  key_of_entry e = e.0

  pub rises_from_sorted : (es : List (K × X)) → IsStrictlySortedBy cmp (keys_of es) → is_map cmp key_of_entry es ≡ true
  rises_from_sorted [] h = refl
  rises_from_sorted (e ∷ []) h = refl
  rises_from_sorted (e ∷ f ∷ es) h = and_from _ _ (ap is_lt (sorted_head cmp e.0 (keys_of (f ∷ es)) h).0) (rises_from_sorted (f ∷ es) (sorted_tail cmp e.0 (keys_of (f ∷ es)) h))

  all_above : (k : K) (es : List (K × X)) → rises cmp (k ∷ keys_of es) ≡ true → AllByRecursion (λ q. cmp k q ≡ Less) (keys_of es)
  all_above k [] h = tt
  all_above k (e ∷ es) h = (less_from_test _ (and_parts _ _ h).0, all_above k es (rises_skip o k e.0 (keys_of es) h))

  pub sorted_from_rises : (es : List (K × X)) → is_map cmp key_of_entry es ≡ true → IsStrictlySortedBy cmp (keys_of es)
  unfolding IsStrictlySortedBy
  sorted_from_rises [] h = tt
  sorted_from_rises (e ∷ es) h = (all_above e.0 es h, sorted_from_rises es (rises_tail o e.0 (keys_of es) h))

  pub looked_up : (es : List (K × X)) (k : K) → lookup (is_at (cmp k)) es ≡ option_map (λ (e : K × X). e.1) (entry_at cmp key_of_entry es k)
  looked_up [] k = refl
  looked_up (e ∷ es) k = elim (cases_Bool (is_eq (cmp e.0 k))) [
    | inl tied ↦
        let turned : is_eq (cmp k e.0) ≡ true = symmetric o k e.0 ∙ tied in
        rw (tied, turned) refl
    | inr apart ↦
        let turned : is_eq (cmp k e.0) ≡ false = symmetric o k e.0 ∙ apart in
        rw (apart, turned) (looked_up es k)
  ]

  pub inserted : IsAntisymmetric cmp → (es : List (K × X)) (k : K) (v : X) → insert_entry cmp es k v ≡ with_entry cmp key_of_entry es (k, v)
  inserted exact [] k v = refl
  inserted exact (e ∷ es) k v =
      elim (cmp k e.0) as (λ r. cmp k e.0 ≡ r → match_ordering r ((k, v) ∷ e ∷ es) ((e.0, v) ∷ es) (e ∷ insert_entry cmp es k v) ≡ beside r e es (k, v) (with_entry cmp key_of_entry es (k, v))) [
        | Less ↦ λ is. refl
        | Equal ↦ λ is. ap (λ (q : K). (q, v) ∷ es) (sym (exact k e.0 is))
        | Greater ↦ λ is. ap (λ (fs : List (K × X)). e ∷ fs) (inserted exact es k v)
      ] refl

-- what holds after a success and after an error
pub in_either : {T E P Q R : Type 0} (r : Result T E) → (P → R) → (Q → R) → OnOk r P → OnErr r Q → R
in_either (Ok x) f g p q = f p
in_either (Err e) f g p q = g q
