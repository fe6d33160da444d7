-- Sets as lists in order: which members they have, that these tell a set, and what a set of pairs is with a pair and without one.
use Rattle.std.proofs.Common.{◌≡◌, Bool, true, false, not, ◌&&◌, ◌||◌, cond, List, [], ◌∷◌, Some, None, is_some, Ordering, refl, sym, ap, ◌∙◌, inl, inr, is_eq}
use Rattle.std.specs.Cmp.{IsTotalOrder}
use Rattle.std.specs.FinMap.{IsAntisymmetric}
use Rattle.std.proofs.lemmas.Bool.{cases_Bool}
use Rattle.bf_base.specs.Maps.{is_map, entry_at}
use Rattle.bf_base.proofs.Order.{equal_from_test, none_from_test, same_from_look_ups}
use Rattle.bf_base.proofs.Maps.{entry_at-with_entry, entry_at-without_key, is_map-with_entry, without_key-none}
use Rattle.bf_index.specs.Pairs.{Pair, itself, pair_cmp, has_pair, with_pair, without_pair}
use Rattle.bf_index.proofs.Orders.{pair_cmp_total, pair_cmp-IsAntisymmetric}

module _ {K : Type 0} {cmp : K → K → Ordering} (o : IsTotalOrder cmp) (ties : IsAntisymmetric cmp) where
  abbrev pub is_in : List K → K → Bool
  is_in xs k = is_some (entry_at cmp (λ x. x) xs k)

  -- what is found is what is sought
  found : (xs : List K) (k : K) → entry_at cmp (λ x. x) xs k ≡ cond (is_in xs k) (Some k) None
  found [] k = refl
  found (x ∷ xs) k = elim (cases_Bool (is_eq (cmp x k))) [
    | inl tied ↦ rw tied (ap Some (ties x k (equal_from_test _ tied)))
    | inr apart ↦ rw apart (found xs k)
  ]

  -- two sets in order that have the same members are equal
  pub same_from_members : (xs ys : List K) → is_map cmp (λ x. x) xs ≡ true → is_map cmp (λ x. x) ys ≡ true → ((k : K) → is_in xs k ≡ is_in ys k) → xs ≡ ys
  same_from_members xs ys h g same = same_from_look_ups o (λ x. x) xs ys h g (λ k. found xs k ∙ ap (λ b. cond b (Some k) None) (same k) ∙ sym (found ys k))

-- a pair that is not there leaves the set when it is taken
pub without_pair-absent : (pairs : List Pair) (pair : Pair) → has_pair pairs pair ≡ false → without_pair pairs pair ≡ pairs
without_pair-absent pairs pair absent = without_key-none pair_cmp_total itself pairs pair (none_from_test (entry_at pair_cmp itself pairs pair) absent)

pub has_pair-with_pair : (pairs : List Pair) (new pair : Pair) → has_pair (with_pair pairs new) pair ≡ (is_eq (pair_cmp new pair) || has_pair pairs pair)
has_pair-with_pair pairs new pair =
    ap is_some (entry_at-with_entry pair_cmp_total itself pairs new pair)
    ∙ elim (is_eq (pair_cmp new pair)) as (λ b. is_some (cond b (Some new) (entry_at pair_cmp itself pairs pair)) ≡ (b || has_pair pairs pair)) [ true ↦ refl | false ↦ refl ]

pub has_pair-without_pair : (pairs : List Pair) (gone pair : Pair) → has_pair (without_pair pairs gone) pair ≡ (not (is_eq (pair_cmp gone pair)) && has_pair pairs pair)
has_pair-without_pair pairs gone pair =
    ap is_some (entry_at-without_key pair_cmp_total itself pairs gone pair)
    ∙ elim (is_eq (pair_cmp gone pair)) as (λ b. is_some (cond b None (entry_at pair_cmp itself pairs pair)) ≡ (not b && has_pair pairs pair)) [ true ↦ refl | false ↦ refl ]

-- a pair that is there leaves the set when it is added
pub with_pair-there : (pairs : List Pair) (pair : Pair) → is_map pair_cmp itself pairs ≡ true → has_pair pairs pair ≡ true → with_pair pairs pair ≡ pairs
with_pair-there pairs pair h there =
    same_from_members pair_cmp_total pair_cmp-IsAntisymmetric (with_pair pairs pair) pairs (is_map-with_entry pair_cmp_total itself pairs pair h) h
    (λ other. has_pair-with_pair pairs pair other ∙ elim (cases_Bool (is_eq (pair_cmp pair other))) [
      | inl tied ↦ rw tied (sym (ap (has_pair pairs) (sym (pair_cmp-IsAntisymmetric pair other (equal_from_test _ tied))) ∙ there))
      | inr apart ↦ rw apart refl
    ])
