-- Sameness of names and of keys, and their order.
use lib.Pointwise.{pointwise}
use Rattle.std.proofs.Common.{◌≡◌, ℕ, Bool, ◌&&◌, List, [], ◌∷◌, Ordering, Less, Equal, Greater, refl, sym, ◌∙◌, is_eq, arith}
use Rattle.std.specs.Cmp.{IsTotalOrder}
use Rattle.std.specs.Ordering.{nat_cmp, eq_by_cmp, ordering_then}
use Rattle.std.proofs.lemmas.Cmp.{eq_by_cmp_equiv, nat_list_cmp_total, same_from_slice_cmp}
use Rattle.std.proofs.lemmas.Bool.Decides.{nat_tests}
use Rattle.bf_base.specs.declared.value.Value.{Value}
use Rattle.bf_base.specs.Lists.{same_name, same_key, name_cmp}
use Rattle.bf_base.specs.Values.{value_cmp}

pub name_cmp_total : IsTotalOrder name_cmp
name_cmp_total = nat_list_cmp_total

-- names are the same exactly where they tie
pub same_name-tie : (a b : List ℕ) → same_name a b ≡ is_eq (name_cmp a b)
same_name-tie a b = sym (same_from_slice_cmp nat_cmp is_eq same_name refl (λ _ _. refl) (λ _ _. refl) (λ x y xs ys o h. grind (arith, nat_tests)) a b _ refl)

-- and the other way round
pub same_name-tie_back : (a b : List ℕ) → same_name a b ≡ is_eq (name_cmp b a)
same_name-tie_back a b = same_name-tie a b ∙ (eq_by_cmp_equiv name_cmp_total).symm a b

-- `==` of keys and rows, which compares value by value
pub same_key-pointwise : (a b : List Value) → pointwise (eq_by_cmp value_cmp) a b ≡ same_key a b
same_key-pointwise [] [] = refl
same_key-pointwise [] (y ∷ b) = refl
same_key-pointwise (x ∷ a) [] = refl
same_key-pointwise (x ∷ a) (y ∷ b) = both (value_cmp x y) _ _ (same_key-pointwise a b)
  where
    both : (r : Ordering) (s : Bool) (t : Ordering) → s ≡ is_eq t → (is_eq r && s) ≡ is_eq (ordering_then r t)
    both Less s t e = refl
    both Equal s t e = e
    both Greater s t e = refl
