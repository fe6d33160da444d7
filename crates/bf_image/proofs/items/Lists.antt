-- What holds of each item of a list, and of the items of its blocks.
use Rattle.std.proofs.Common.{◌≡◌, ℕ, zero, suc, ◌+◌, Bool, true, false, ◌&&◌, ◌||◌, cond, List, [], ◌∷◌, ◌++◌, map, filter, flat_map, fold, find, if◌then◌else◌, Some, refl, sym, ap, ap₂, ◌∙◌, append_assoc, append-nil, map-id}
use Rattle.std.specs.Prelude.{option_map, slice_get}
use Rattle.std.specs.List.{list_any, list_all, enumerate_from, Contains}
use Rattle.std.proofs.lemmas.Bool.{and_parts, and_from, or_left, or_right, false≢true}
use Rattle.std.proofs.lemmas.List.Elements.{All-contains}
use Rattle.std.proofs.lemmas.List.Folds.{list_any-append, list_all-append}
use Rattle.std.proofs.lemmas.List.Sums.{AllPass-from_list_all}
use Rattle.bf_base.specs.Distinct.{with_new, distinct}
use Rattle.bf_base.specs.Lists.{has, when, with_before_from}

module _ {X : Type 0} where
  pub none_left : (xs ys : List X) → xs ++ ys ≡ [] → xs ≡ []
  none_left [] ys e = refl
  none_left (x ∷ xs) ys e = absurd cc

  pub none_right : (xs ys : List X) → xs ++ ys ≡ [] → ys ≡ []
  none_right [] ys e = e
  none_right (x ∷ xs) ys e = absurd cc

  pub none_when : (test : Bool) (x : X) → when test x ≡ [] → test ≡ false
  none_when true x e = absurd cc
  none_when false x e = refl

  -- nothing comes of the whole, so nothing comes of each
  pub none_of_each : {Y : Type 0} (f : Y → List X) (test : Y → Bool) → ((y : Y) → f y ≡ [] → test y ≡ true) → (ys : List Y) → flat_map f ys ≡ [] → list_all test ys ≡ true
  none_of_each f test one [] e = refl
  none_of_each f test one (y ∷ ys) e = and_from _ _ (one y (none_left (f y) (flat_map f ys) e)) (none_of_each f test one ys (none_right (f y) (flat_map f ys) e))

  pub all_both : (p q r : X → Bool) → ((x : X) → p x ≡ true → q x ≡ true → r x ≡ true) → (xs : List X) → list_all p xs ≡ true → list_all q xs ≡ true → list_all r xs ≡ true
  all_both p q r one [] h g = refl
  all_both p q r one (x ∷ xs) h g = and_from _ _ (one x (and_parts _ _ h).0 (and_parts _ _ g).0) (all_both p q r one xs (and_parts _ _ h).1 (and_parts _ _ g).1)

  pub all_so : (p q : X → Bool) → ((x : X) → p x ≡ true → q x ≡ true) → (xs : List X) → list_all p xs ≡ true → list_all q xs ≡ true
  all_so p q one [] h = refl
  all_so p q one (x ∷ xs) h = and_from _ _ (one x (and_parts _ _ h).0) (all_so p q one xs (and_parts _ _ h).1)

  pub all_append : (p : X → Bool) (xs ys : List X) → list_all p xs ≡ true → list_all p ys ≡ true → list_all p (xs ++ ys) ≡ true
  all_append p [] ys h g = g
  all_append p (x ∷ xs) ys h g = and_from _ _ (and_parts _ _ h).0 (all_append p xs ys (and_parts _ _ h).1 g)

  pub all_found : (p test : X → Bool) (xs : List X) (x : X) → list_all p xs ≡ true → find test xs ≡ Some x → p x ≡ true
  all_found p test [] x h e = absurd cc
  all_found p test (y ∷ ys) x h e = elim (test y) as (λ b. cond b (Some y) (find test ys) ≡ Some x → p x ≡ true) [
    | true ↦ λ found. let same : y ≡ x = cc in ap p (sym same) ∙ (and_parts _ _ h).0
    | false ↦ λ found. all_found p test ys x (and_parts _ _ h).1 found
  ] e

pub all_of_blocks : {X Y : Type 0} (p : Y → Bool) (f : X → List Y) (xs : List X) → list_all (λ x. list_all p (f x)) xs ≡ true → list_all p (flat_map f xs) ≡ true
all_of_blocks p f [] h = refl
all_of_blocks p f (x ∷ xs) h = all_append p (f x) (flat_map f xs) (and_parts _ _ h).0 (all_of_blocks p f xs (and_parts _ _ h).1)

pub all_of_map : {X Y : Type 0} (p : Y → Bool) (f : X → Y) (xs : List X) → list_all (λ x. p (f x)) xs ≡ true → list_all p (map f xs) ≡ true
all_of_map p f [] h = refl
all_of_map p f (x ∷ xs) h = and_from _ _ (and_parts _ _ h).0 (all_of_map p f xs (and_parts _ _ h).1)

module _ {X K : Type 0} (same : K → K → Bool) (itself : (k : K) → same k k ≡ true) (key : X → K) where
  -- a list has the keys of its items
  pub all_in_own : (before xs : List X) (behind : List K) → list_all (λ x. has same (map key before ++ (map key xs ++ behind)) (key x)) xs ≡ true
  all_in_own before [] behind = refl
  all_in_own before (x ∷ xs) behind =
      let here : has same (map key before ++ (key x ∷ (map key xs ++ behind))) (key x) ≡ true = list_any-append (same (key x)) (map key before) (key x ∷ (map key xs ++ behind)) ∙ or_right _ _ (or_left _ _ (itself (key x))) in
      let moved : map key (before ++ x ∷ []) ++ (map key xs ++ behind) ≡ map key before ++ (key x ∷ (map key xs ++ behind)) = one_moved before in
      and_from _ _ here (ap (λ ks. list_all (λ x. has same ks (key x)) xs) (sym moved) ∙ all_in_own (before ++ x ∷ []) xs behind)
    where
      one_moved : (ys : List X) → map key (ys ++ x ∷ []) ++ (map key xs ++ behind) ≡ map key ys ++ (key x ∷ (map key xs ++ behind))
      one_moved [] = refl
      one_moved (y ∷ ys) = ap (λ ks. key y ∷ ks) (one_moved ys)

  pub all_in : (xs : List X) (behind : List K) → list_all (λ x. has same (map key xs ++ behind) (key x)) xs ≡ true
  all_in xs behind = all_in_own [] xs behind

-- a list has its own items
pub has_own : {K : Type 0} (same : K → K → Bool) → ((k : K) → same k k ≡ true) → (ks : List K) → list_all (has same ks) ks ≡ true
has_own same itself ks = ap (λ zs. list_all (has same zs) ks) (sym (append-nil (map (λ k. k) ks) ∙ map-id ks)) ∙ all_in same itself (λ k. k) ks []

-- blocks are in the whole
module _ {X K : Type 0} (same : K → K → Bool) (itself : (k : K) → same k k ≡ true) (f : X → List K) where
  own_block : (before ks behind : List K) → list_all (has same (before ++ (ks ++ behind))) ks ≡ true
  own_block before [] behind = refl
  own_block before (k ∷ ks) behind =
      let here : has same (before ++ (k ∷ (ks ++ behind))) k ≡ true = list_any-append (same k) before (k ∷ (ks ++ behind)) ∙ or_right _ _ (or_left _ _ (itself k)) in
      and_from _ _ here (ap (λ zs. list_all (has same zs) ks) (sym (append_assoc before (k ∷ []) (ks ++ behind))) ∙ own_block (before ++ k ∷ []) ks behind)

  blocks_from : (before : List K) (xs : List X) → list_all (λ x. list_all (has same (before ++ flat_map f xs)) (f x)) xs ≡ true
  blocks_from before [] = refl
  blocks_from before (x ∷ xs) =
      and_from _ _ (own_block before (f x) (flat_map f xs)) (ap (λ zs. list_all (λ y. list_all (has same zs) (f y)) xs) (sym (append_assoc before (f x) (flat_map f xs))) ∙ blocks_from (before ++ f x) xs)

  pub each_block_within : (xs : List X) → list_all (λ x. list_all (has same (flat_map f xs)) (f x)) xs ≡ true
  each_block_within xs = blocks_from [] xs

pub all_kept : {X : Type 0} (p q : X → Bool) (xs : List X) → list_all p xs ≡ true → list_all p (filter q xs) ≡ true
all_kept p q [] all = refl
all_kept p q (x ∷ xs) all = of (q x) (all_kept p q xs (and_parts _ _ all).1)
  where
    of : (b : Bool) → list_all p (filter q xs) ≡ true → list_all p (cond b (x ∷ filter q xs) (filter q xs)) ≡ true
    of true rest = and_from _ _ (and_parts _ _ all).0 rest
    of false rest = rest

pub all_in_blocks : {X Y : Type 0} (p : Y → Bool) (f : X → List Y) (xs : List X) → list_all p (flat_map f xs) ≡ true → list_all (λ x. list_all p (f x)) xs ≡ true
all_in_blocks p f [] h = refl
all_in_blocks p f (x ∷ xs) h =
    let both = and_parts (list_all p (f x)) (list_all p (flat_map f xs)) (sym (list_all-append p (f x) (flat_map f xs)) ∙ h) in
    and_from _ _ both.0 (all_in_blocks p f xs both.1)

pub all_with_numbers : {X : Type 0} (p : X → Bool) (n : ℕ) (xs : List X) → list_all p xs ≡ true → list_all (λ q. p q.1) (enumerate_from n xs) ≡ true
all_with_numbers p n [] h = refl
all_with_numbers p n (x ∷ xs) h = and_from _ _ (and_parts _ _ h).0 (all_with_numbers p (n + 1) xs (and_parts _ _ h).1)

pub all_of_contained : {X : Type 0} (p : X → Bool) (xs : List X) (x : X) → list_all p xs ≡ true → Contains xs x → p x ≡ true
all_of_contained p xs x h among = All-contains (λ x. p x ≡ true) xs x (AllPass-from_list_all p xs h) among

module _ {X : Type 0} (same : X → X → Bool) (p : X → Bool) where
  all_with_new : (seen xs : List X) → list_all p seen ≡ true → list_all p xs ≡ true → list_all p (fold (with_new same) seen xs) ≡ true
  all_with_new seen [] h g = h
  all_with_new seen (x ∷ xs) h g = all_with_new (with_new same seen x) xs (of (has same seen x)) (and_parts _ _ g).1
    where
      of : (b : Bool) → list_all p (if b then seen else seen ++ x ∷ []) ≡ true
      of true = h
      of false = all_append p seen (x ∷ []) h (and_from _ _ (and_parts _ _ g).0 refl)

  pub all_distinct : (xs : List X) → list_all p xs ≡ true → list_all p (distinct same xs) ≡ true
  all_distinct xs h = all_with_new [] xs refl h

-- where an item passes one test, and each item that passes both gives a third
pub some_of_those : {X : Type 0} (p q : X → Bool) (r : Bool) → ((x : X) → p x ≡ true → q x ≡ true → r ≡ true) → (xs : List X) → list_all p xs ≡ true → list_any q xs ≡ true → r ≡ true
some_of_those p q r one [] h some = absurd (false≢true some)
some_of_those p q r one (x ∷ xs) h some = of (q x) refl (some_of_those p q r one xs (and_parts _ _ h).1)
  where
    of : (b : Bool) → q x ≡ b → (list_any q xs ≡ true → r ≡ true) → r ≡ true
    of true at rest = one x (and_parts _ _ h).0 at
    of false at rest = rest (sym (ap (λ b. b || list_any q xs) at) ∙ some)

-- functions that agree on each item that passes a test
module _ {X : Type 0} (ok : X → Bool) where
  pub all_equal_where : (f g : X → Bool) → ((x : X) → ok x ≡ true → f x ≡ g x) → (xs : List X) → list_all ok xs ≡ true → list_all f xs ≡ list_all g xs
  all_equal_where f g one [] all = refl
  all_equal_where f g one (x ∷ xs) all = ap₂ (λ b c. b && c) (one x (and_parts _ _ all).0) (all_equal_where f g one xs (and_parts _ _ all).1)

  pub any_equal_where : (f g : X → Bool) → ((x : X) → ok x ≡ true → f x ≡ g x) → (xs : List X) → list_all ok xs ≡ true → list_any f xs ≡ list_any g xs
  any_equal_where f g one [] all = refl
  any_equal_where f g one (x ∷ xs) all = ap₂ (λ b c. b || c) (one x (and_parts _ _ all).0) (any_equal_where f g one xs (and_parts _ _ all).1)

  pub filter_equal_where : (f g : X → Bool) → ((x : X) → ok x ≡ true → f x ≡ g x) → (xs : List X) → list_all ok xs ≡ true → filter f xs ≡ filter g xs
  filter_equal_where f g one [] all = refl
  filter_equal_where f g one (x ∷ xs) all = ap₂ (λ b zs. cond b (x ∷ zs) zs) (one x (and_parts _ _ all).0) (filter_equal_where f g one xs (and_parts _ _ all).1)

  module _ {Y : Type 0} where
    pub map_equal_where : (f g : X → Y) → ((x : X) → ok x ≡ true → f x ≡ g x) → (xs : List X) → list_all ok xs ≡ true → map f xs ≡ map g xs
    map_equal_where f g one [] all = refl
    map_equal_where f g one (x ∷ xs) all = ap₂ (λ y ys. y ∷ ys) (one x (and_parts _ _ all).0) (map_equal_where f g one xs (and_parts _ _ all).1)

    pub looked_up_where : (f g : X → Y) → ((x : X) → ok x ≡ true → f x ≡ g x) → (xs : List X) → list_all ok xs ≡ true → (i : ℕ) → option_map f (slice_get xs i) ≡ option_map g (slice_get xs i)
    looked_up_where f g one [] all i = refl
    looked_up_where f g one (x ∷ xs) all zero = ap Some (one x (and_parts _ _ all).0)
    looked_up_where f g one (x ∷ xs) all (suc i) = looked_up_where f g one xs (and_parts _ _ all).1 i

    -- a relation between each item and those before it
    pub pairs_equal_where : (r : Y → Y → Bool) (f g : X → Y) → ((x : X) → ok x ≡ true → f x ≡ g x) → (before xs : List X) → list_all ok before ≡ true → list_all ok xs ≡ true
        → list_all (λ p. list_all (λ x. r (f x) (f p.1)) p.0) (with_before_from before xs) ≡ list_all (λ p. list_all (λ x. r (g x) (g p.1)) p.0) (with_before_from before xs)
    pairs_equal_where r f g one before [] earlier all = refl
    pairs_equal_where r f g one before (y ∷ xs) earlier all =
        let mine = (and_parts _ _ all).0 in
        let here = all_equal_where (λ x. r (f x) (f y)) (λ x. r (g x) (g y)) (λ x e. ap₂ r (one x e) (one y mine)) before earlier in
        ap₂ (λ b c. b && c) here (pairs_equal_where r f g one (before ++ y ∷ []) xs (all_append ok before (y ∷ []) earlier (and_from _ _ mine refl)) (and_parts _ _ all).1)
