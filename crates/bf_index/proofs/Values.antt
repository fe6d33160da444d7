-- Lists cut by a value of their items, and lists of different values.
use Rattle.std.proofs.Common.{◌≡◌, ◌+◌, Bool, true, false, ◌&&◌, ◌||◌, cond, if◌then◌else◌, List, [], ◌∷◌, ◌++◌, map, filter, flat_map, fold, length, slice_range, Ordering, Some, None, refl, sym, ap, ◌∙◌, arith, is_eq, map-id}
use Rattle.std.specs.Cmp.{IsTotalOrder}
use Rattle.std.specs.FinMap.{IsAntisymmetric}
use Rattle.std.specs.List.{list_all, range_with_len}
use Rattle.std.specs.Ordering.{eq_by_cmp}
use Rattle.std.proofs.lemmas.Bool.{and_parts, and_from, or_from, or_left}
use Rattle.std.proofs.lemmas.Cmp.{tied_itself}
use Rattle.std.proofs.lemmas.List.Folds.{list_any-append}
use Rattle.bf_base.specs.Lists.{rises, in_order, has}
use Rattle.bf_base.proofs.Apart.{are_apart, apart-append, apart-filter, apart_from_rises, has-filter, with_placed-items, rises-placed_apart}
use Rattle.bf_base.proofs.Items.{SameItems, through, same_items_if, turned, mapped}
use Rattle.bf_base.proofs.Order.{look_up, equal_from_test, symmetric, same_from_look_ups, has-with_placed}
use Rattle.bf_base.proofs.Parts.{flat_map_of_one, all_not_from_none, has_either_way, filter_all}
use Rattle.bf_base.specs.Distinct.{with_new, distinct}
use Rattle.bf_index.proofs.Bags.{blocks_equal, blocks_equal_where, blocks_filtered, map_blocks, turned_round, in_turn}

module _ {K : Type 0} (same : K → K → Bool) (symmetry : (a b : K) → same a b ≡ same b a) (equal : (a b : K) → same a b ≡ true → a ≡ b) (itself : (a : K) → same a a ≡ true) where
  one_more_apart : (seen : List K) (k : K) → are_apart same seen ≡ true → has same seen k ≡ false → are_apart same (seen ++ k ∷ []) ≡ true
  one_more_apart seen k apart new =
      let none = has_either_way same symmetry (k ∷ []) seen ∙ or_from _ _ new refl in
      apart-append same seen (k ∷ []) apart refl (all_not_from_none _ seen none)

  with_new-apart : (seen xs : List K) → are_apart same seen ≡ true → are_apart same (fold (with_new same) seen xs) ≡ true
  with_new-apart seen [] apart = apart
  with_new-apart seen (x ∷ xs) apart = elim (has same seen x) as (λ b. has same seen x ≡ b → are_apart same (fold (with_new same) (if b then seen else seen ++ x ∷ []) xs) ≡ true) [
    | true ↦ λ e. with_new-apart seen xs apart
    | false ↦ λ e. with_new-apart (seen ++ x ∷ []) xs (one_more_apart seen x apart e)
  ] refl

  pub distinct-apart : (xs : List K) → are_apart same (distinct same xs) ≡ true
  distinct-apart xs = with_new-apart [] xs refl

  has_alike : (xs : List K) (x k : K) → has same xs x ≡ true → same k x ≡ true → has same xs k ≡ true
  has_alike xs x k there is = ap (has same xs) (equal k x is) ∙ there

  with_new-has : (seen xs : List K) (k : K) → has same (fold (with_new same) seen xs) k ≡ (has same seen k || has same xs k)
  with_new-has seen [] k = grind arith
  with_new-has seen (x ∷ xs) k = elim (has same seen x) as (λ b. has same seen x ≡ b → has same (fold (with_new same) (if b then seen else seen ++ x ∷ []) xs) k ≡ (has same seen k || (same k x || has same xs k))) [
    | true ↦ λ e.
        let rest = with_new-has seen xs k in
        let alike : same k x ≡ true → has same seen k ≡ true = has_alike seen x k e in
        rest ∙ grind (arith, alike)
    | false ↦ λ e.
        let rest = with_new-has (seen ++ x ∷ []) xs k in
        let both = list_any-append (same k) seen (x ∷ []) in
        rest ∙ ap (λ b. b || has same xs k) both ∙ grind arith
  ] refl

  pub distinct-has : (xs : List K) (k : K) → has same (distinct same xs) k ≡ has same xs k
  distinct-has xs k = with_new-has [] xs k

  all_alike_kept : (k : K) (xs : List K) → list_all (same k) xs ≡ true → fold (with_new same) (k ∷ []) xs ≡ k ∷ []
  all_alike_kept k [] all = refl
  all_alike_kept k (x ∷ xs) all =
      let is : same x k ≡ true = symmetry x k ∙ (and_parts _ _ all).0 in
      let there : has same (k ∷ []) x ≡ true = or_left _ _ is in
      ap (λ b. fold (with_new same) (if b then k ∷ [] else (k ∷ []) ++ x ∷ []) xs) there ∙ all_alike_kept k xs (and_parts _ _ all).1

  -- the one value of a list of the same
  pub distinct-alike : (k : K) (xs : List K) → list_all (same k) xs ≡ true → distinct same xs ≡ cond (has same xs k) (k ∷ []) []
  distinct-alike k [] all = refl
  distinct-alike k (x ∷ xs) all =
      let is = (and_parts _ _ all).0 in
      let e = equal k x is in
      let rest : list_all (same x) xs ≡ true = ap (λ z. list_all (same z) xs) (sym e) ∙ (and_parts _ _ all).1 in
      all_alike_kept x xs rest ∙ ap (λ z. z ∷ []) (sym e) ∙ ap (λ b. cond b (k ∷ []) []) (sym (or_left (same k x) (has same xs k) is))

  all_filtered : {X : Type 0} (test : X → Bool) (xs : List X) → list_all test (filter test xs) ≡ true
  all_filtered test [] = refl
  all_filtered test (x ∷ xs) = elim (test x) as (λ b. test x ≡ b → list_all test (cond b (x ∷ filter test xs) (filter test xs)) ≡ true) [
    | true ↦ λ e. and_from _ _ e (all_filtered test xs)
    | false ↦ λ e. all_filtered test xs
  ] refl

  module _ {X : Type 0} (value : X → K) where
    all_of_values : (v : K) (xs : List X) → list_all (λ x. same v (value x)) xs ≡ true → list_all (same v) (map value xs) ≡ true
    all_of_values v [] all = refl
    all_of_values v (x ∷ xs) all = and_from _ _ (and_parts _ _ all).0 (all_of_values v xs (and_parts _ _ all).1)

    still_there : (v : K) (xs : List X) → has same (map value (filter (λ x. same v (value x)) xs)) v ≡ has same (map value xs) v
    still_there v [] = refl
    still_there v (x ∷ xs) = elim (same v (value x)) as (λ b. same v (value x) ≡ b → has same (map value (cond b (x ∷ filter (λ x. same v (value x)) xs) (filter (λ x. same v (value x)) xs))) v ≡ (b || has same (map value xs) v)) [
      | true ↦ λ e. or_left _ _ e
      | false ↦ λ e. still_there v xs
    ] refl

    module _ {Y : Type 0} (made : List X → Y) where
      -- what comes of the items of each value
      abbrev pub by_value : List X → List Y
      by_value xs = map made (map (λ k. filter (λ x. same k (value x)) xs) (distinct same (map value xs)))

      pub of_one_value : (v : K) (xs : List X) → by_value (filter (λ x. same v (value x)) xs) ≡ cond (has same (map value xs) v) (made (filter (λ x. same v (value x)) xs) ∷ []) []
      of_one_value v xs =
          let those = filter (λ x. same v (value x)) xs in
          let all = all_filtered (λ x. same v (value x)) xs in
          let one : distinct same (map value those) ≡ cond (has same (map value xs) v) (v ∷ []) [] =
          distinct-alike v (map value those) (all_of_values v those all) ∙ ap (λ b. cond b (v ∷ []) []) (still_there v xs) in
          ap (λ ks. map made (map (λ k. filter (λ x. same k (value x)) those) ks)) one ∙ in_either (has same (map value xs) v) those all
        where
          in_either : (b : Bool) (those : List X) → list_all (λ x. same v (value x)) those ≡ true → map made (map (λ k. filter (λ x. same k (value x)) those) (cond b (v ∷ []) [])) ≡ cond b (made those ∷ []) []
          in_either true those all = ap (λ zs. made zs ∷ []) (filter_all (λ x. same v (value x)) those all)
          in_either false those all = refl

      -- the values one after the other give the whole, where each value comes once
      pub values_in_turn : (xs : List X) (vs : List K) → SameItems (filter (has same (map value xs)) vs) (distinct same (map value xs))
          → SameItems (flat_map (λ v. by_value (filter (λ x. same v (value x)) xs)) vs) (by_value xs)
      values_in_turn xs vs r =
          let made_of : K → Y = λ v. made (filter (λ x. same v (value x)) xs) in
          let each = blocks_equal (λ v. by_value (filter (λ x. same v (value x)) xs)) (λ v. cond (has same (map value xs) v) (made_of v ∷ []) []) (λ v. of_one_value v xs) vs in
          let ours = each ∙ sym (blocks_filtered (λ v. made_of v ∷ []) (has same (map value xs)) vs) ∙ sym (map_blocks made_of (filter (has same (map value xs)) vs)) in
          through (same_items_if _ _ ours) (through (mapped made_of r) (same_items_if _ _ (twice (distinct same (map value xs)))))
        where
          twice : (ks : List K) → map (λ v. made (filter (λ x. same v (value x)) xs)) ks ≡ map made (map (λ k. filter (λ x. same k (value x)) xs) ks)
          twice [] = refl
          twice (k ∷ ks) = ap (λ zs. made (filter (λ x. same k (value x)) xs) ∷ zs) (twice ks)

  -- pairs of equal values, by value
  module _ {X Y Z : Type 0} (left : X → K) (right : Y → K) (ok : X → Bool) (h : X → Y → List Z)
      (nothing : (x : X) (y : Y) → ok x ≡ true → same (left x) (right y) ≡ false → h x y ≡ [])
    where
      either_way : (x : X) (y : Y) → ok x ≡ true → (b : Bool) → same (left x) (right y) ≡ b → cond b (h x y) [] ≡ h x y
      either_way x y fine true e = refl
      either_way x y fine false e = sym (nothing x y fine e)

      pub pairs_by_value : (vs : List K) (xs : List X) (ys : List Y) → are_apart same vs ≡ true → ((x : X) → ok x ≡ true → has same vs (left x) ≡ true) → list_all ok xs ≡ true
          → SameItems (flat_map (λ v. flat_map (λ x. flat_map (h x) (filter (λ y. same v (right y)) ys)) (filter (λ x. same v (left x)) xs)) vs) (flat_map (λ x. flat_map (h x) ys) xs)
      pairs_by_value vs xs ys apart there all =
          let these : X → K → List Z = λ x v. flat_map (h x) (filter (λ y. same v (right y)) ys) in
          let cut = blocks_equal (λ v. flat_map (λ x. these x v) (filter (λ x. same v (left x)) xs)) (λ v. flat_map (λ x. cond (same v (left x)) (these x v) []) xs) (λ v. blocks_filtered (λ x. these x v) (λ x. same v (left x)) xs) vs in
          let whole : (x : X) → ok x ≡ true → these x (left x) ≡ flat_map (h x) ys = λ x fine.
          blocks_filtered (h x) (λ y. same (left x) (right y)) ys ∙ blocks_equal (λ y. cond (same (left x) (right y)) (h x y) []) (h x) (λ y. either_way x y fine (same (left x) (right y)) refl) ys in
          let one : (x : X) → ok x ≡ true → flat_map (λ v. cond (same v (left x)) (these x v) []) vs ≡ flat_map (h x) ys = λ x fine.
          flat_map_of_one same (λ v. cond (same v (left x)) (these x v) []) (left x) (λ v e. ap (λ b. cond b (these x v) []) (symmetry v (left x) ∙ e)) (λ v e. equal (left x) v e) vs apart (there x fine)
          ∙ ap (λ b. cond b (these x (left x)) []) (itself (left x)) ∙ whole x fine in
          through (same_items_if _ _ cut) (through (turned_round (λ v x. cond (same v (left x)) (these x v) []) vs xs) (same_items_if _ _ (blocks_equal_where ok (λ x. flat_map (λ v. cond (same v (left x)) (these x v) []) vs) (λ x. flat_map (h x) ys) one xs all)))

-- pairs, by the right side's items one after the other
pub pairs_by_right : {X Y Z : Type 0} (h : X → Y → List Z) (xs : List X) (ys : List Y)
    → SameItems (flat_map (λ p. flat_map (λ x. flat_map (h x) (slice_range ys p (p + 1))) xs) (range_with_len 0 (length ys))) (flat_map (λ x. flat_map (h x) ys) xs)
pairs_by_right h xs ys =
    through (turned_round (λ p x. flat_map (h x) (slice_range ys p (p + 1))) (range_with_len 0 (length ys)) xs)
    (same_items_if _ _ (blocks_equal (λ x. flat_map (λ p. flat_map (h x) (slice_range ys p (p + 1))) (range_with_len 0 (length ys))) (λ x. flat_map (h x) ys) (λ x. in_turn (h x) ys 0 (length ys) (omega arith)) xs))

module _ {K : Type 0} {cmp : K → K → Ordering} (o : IsTotalOrder cmp) (anti : IsAntisymmetric cmp) where
  pub same-equal : (a b : K) → eq_by_cmp cmp a b ≡ true → a ≡ b
  same-equal a b e = anti a b (equal_from_test _ e)

  pub same-itself : (a : K) → eq_by_cmp cmp a a ≡ true
  same-itself a = ap is_eq (tied_itself o a)

  found_itself : (zs : List K) (k : K) → look_up cmp (λ x. x) zs k ≡ cond (has (eq_by_cmp cmp) zs k) (Some k) None
  found_itself [] k = refl
  found_itself (z ∷ zs) k = elim (eq_by_cmp cmp k z) as (λ b. eq_by_cmp cmp k z ≡ b → cond (eq_by_cmp cmp z k) (Some z) (look_up cmp (λ x. x) zs k) ≡ cond (b || has (eq_by_cmp cmp) zs k) (Some k) None) [
    | true ↦ λ e. ap (λ b. cond b (Some z) (look_up cmp (λ x. x) zs k)) (symmetric o z k ∙ e) ∙ ap Some (sym (same-equal k z e))
    | false ↦ λ e. ap (λ b. cond b (Some z) (look_up cmp (λ x. x) zs k)) (symmetric o z k ∙ e) ∙ found_itself zs k
  ] refl

  pub in_order-apart : (xs : List K) → are_apart (eq_by_cmp cmp) xs ≡ true → rises cmp (map (λ x. x) (in_order cmp (λ x. x) xs)) ≡ true
  in_order-apart xs apart = rises-placed_apart o (λ x. x) [] xs refl (ap (are_apart (eq_by_cmp cmp)) (map-id xs) ∙ apart)

  pub in_order-has : (xs : List K) (k : K) → has (eq_by_cmp cmp) (in_order cmp (λ x. x) xs) k ≡ has (eq_by_cmp cmp) xs k
  in_order-has xs k =
      ap (λ zs. has (eq_by_cmp cmp) zs k) (sym (map-id (in_order cmp (λ x. x) xs))) ∙ has-with_placed o (λ x. x) [] xs k ∙ ap (λ zs. has (eq_by_cmp cmp) zs k) (map-id xs)

  -- lists of different values that have the same values
  pub same_values : (xs ys : List K) → are_apart (eq_by_cmp cmp) xs ≡ true → are_apart (eq_by_cmp cmp) ys ≡ true → ((k : K) → has (eq_by_cmp cmp) xs k ≡ has (eq_by_cmp cmp) ys k) → SameItems xs ys
  same_values xs ys p q agree =
      let found : (k : K) → look_up cmp (λ x. x) (in_order cmp (λ x. x) xs) k ≡ look_up cmp (λ x. x) (in_order cmp (λ x. x) ys) k = λ k.
      found_itself (in_order cmp (λ x. x) xs) k
      ∙ ap (λ b. cond b (Some k) None) (in_order-has xs k ∙ agree k ∙ sym (in_order-has ys k))
      ∙ sym (found_itself (in_order cmp (λ x. x) ys) k) in
      let e = same_from_look_ups o (λ x. x) (in_order cmp (λ x. x) xs) (in_order cmp (λ x. x) ys) (in_order-apart xs p) (in_order-apart ys q) found in
      through (with_placed-items o (λ x. x) [] xs) (through (same_items_if _ _ e) (turned (with_placed-items o (λ x. x) [] ys)))

  -- the values of a list, each once and in order
  pub values_in_order-apart : (xs : List K) → are_apart (eq_by_cmp cmp) (in_order cmp (λ x. x) (distinct (eq_by_cmp cmp) xs)) ≡ true
  values_in_order-apart xs =
      let apart = distinct-apart (eq_by_cmp cmp) (symmetric o) same-equal same-itself xs in
      ap (are_apart (eq_by_cmp cmp)) (sym (map-id (in_order cmp (λ x. x) (distinct (eq_by_cmp cmp) xs)))) ∙ apart_from_rises o _ (in_order-apart (distinct (eq_by_cmp cmp) xs) apart)

  pub values_in_order-has : (xs : List K) (k : K) → has (eq_by_cmp cmp) (in_order cmp (λ x. x) (distinct (eq_by_cmp cmp) xs)) k ≡ has (eq_by_cmp cmp) xs k
  values_in_order-has xs k = in_order-has (distinct (eq_by_cmp cmp) xs) k ∙ distinct-has (eq_by_cmp cmp) (symmetric o) same-equal same-itself xs k

  has-filtered : (some all : List K) (k : K) → (has (eq_by_cmp cmp) some k ≡ true → has (eq_by_cmp cmp) all k ≡ true) → has (eq_by_cmp cmp) (filter (has (eq_by_cmp cmp) some) all) k ≡ has (eq_by_cmp cmp) some k
  has-filtered some all k inside =
      ap (λ zs. has (eq_by_cmp cmp) zs k) (sym (map-id (filter (has (eq_by_cmp cmp) some) all)))
      ∙ has-filter o (λ x. x) anti (has (eq_by_cmp cmp) some) all k
      ∙ ap (λ zs. has (eq_by_cmp cmp) zs k && has (eq_by_cmp cmp) some k) (map-id all)
      ∙ within (has (eq_by_cmp cmp) some k) (has (eq_by_cmp cmp) all k) inside
    where
      within : (b c : Bool) → (b ≡ true → c ≡ true) → (c && b) ≡ b
      within true c f = ap (λ d. d && true) (f refl)
      within false true f = refl
      within false false f = refl

  -- those values of a list that another has
  pub values_among : (some all : List K) → are_apart (eq_by_cmp cmp) all ≡ true → ((k : K) → has (eq_by_cmp cmp) some k ≡ true → has (eq_by_cmp cmp) all k ≡ true)
      → SameItems (filter (has (eq_by_cmp cmp) some) all) (distinct (eq_by_cmp cmp) some)
  values_among some all apart inside =
      same_values (filter (has (eq_by_cmp cmp) some) all) (distinct (eq_by_cmp cmp) some) (apart-filter (eq_by_cmp cmp) (has (eq_by_cmp cmp) some) all apart)
      (distinct-apart (eq_by_cmp cmp) (symmetric o) same-equal same-itself some)
      (λ k. has-filtered some all k (inside k) ∙ sym (distinct-has (eq_by_cmp cmp) (symmetric o) same-equal same-itself some k))
