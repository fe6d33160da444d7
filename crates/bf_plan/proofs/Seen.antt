-- A set of the keys that were seen so far.
use Rattle.std.proofs.Common.{◌≡◌, ℕ, ℤ, ◌+◌, ◌<◌, Bool, true, false, not, ◌||◌, cond, List, [], ◌∷◌, ◌++◌, length, get_or, take, Ordering, Option, Some, None, refl, sym, ap, ap₂, ◌∙◌, is_eq}
use Rattle.std.specs.BTreeSet.{BTreeSet, contains}
use Rattle.std.specs.List.{list_any}
use Rattle.std.specs.Option.{option_cmp, option_eq}
use Rattle.std.specs.Ordering.{int_cmp, int_eq}
use Rattle.std.proofs.lemmas.Cmp.{eq_by_cmp_equiv, int_cmp_total}
use Rattle.std.proofs.lemmas.List.{take_more}
use Rattle.std.proofs.lemmas.List.Folds.{list_any-append}

one_more : (b at : Bool) → cond at true b ≡ (b || (at || false))
one_more true true = refl
one_more true false = refl
one_more false true = refl
one_more false false = refl

module _ {X K : Type 0} (cmp : K → K → Ordering) (same : K → K → Bool) (ties : (a b : K) → same a b ≡ is_eq (cmp b a)) (key : X → K) where
  -- a set that has the keys of some items, and of one more
  pub seen_more : (old new : BTreeSet K) (xs : List X) (x : X)
      → ((k : K) → contains cmp old k ≡ list_any (λ y. same k (key y)) xs)
      → ((k : K) → contains cmp new k ≡ cond (is_eq (cmp (key x) k)) true (contains cmp old k))
      → (k : K) → contains cmp new k ≡ list_any (λ y. same k (key y)) (xs ++ x ∷ [])
  seen_more old new xs x before more k =
      more k
      ∙ ap₂ (λ (at b : Bool). cond at true b) (sym (ties k (key x))) (before k)
      ∙ one_more (list_any (λ y. same k (key y)) xs) (same k (key x))
      ∙ sym (list_any-append (λ y. same k (key y)) xs (x ∷ []))

  pub seen_next : (old new : BTreeSet K) (xs : List X) (i : ℕ) (x : X) → i < length xs → x ≡ get_or xs i x
      → ((k : K) → contains cmp old k ≡ list_any (λ y. same k (key y)) (take i xs))
      → ((k : K) → contains cmp new k ≡ cond (is_eq (cmp (key x) k)) true (contains cmp old k))
      → (k : K) → contains cmp new k ≡ list_any (λ y. same k (key y)) (take (i + 1) xs)
  seen_next old new xs i x in_range is before more k =
      let one : take (i + 1) xs ≡ take i xs ++ (x ∷ []) = rw (take_more xs i x in_range, ← is) refl in
      seen_more old new (take i xs) x before more k ∙ ap (list_any (λ y. same k (key y))) (sym one)

-- tags are the same exactly where they tie
pub same_tag-tie : (a b : Option ℤ) → option_eq int_eq a b ≡ is_eq (option_cmp int_cmp b a)
same_tag-tie None None = refl
same_tag-tie None (Some y) = refl
same_tag-tie (Some x) None = refl
same_tag-tie (Some x) (Some y) = (eq_by_cmp_equiv int_cmp_total).symm x y

-- what was added was not there
pub was_new : (added there : Bool) → added ≡ not there → added ≡ true → not there ≡ true
was_new added there e h = sym e ∙ h
