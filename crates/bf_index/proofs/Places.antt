-- Whether an index has a pair, and what its pairs are with that one more and without it, from the place in the pair's page.
use Rattle.std.proofs.Common.{◌≡◌, ℕ, zero, suc, ◌+◌, ◌-◌, ◌<◌, ◌≤◌, true, false, List, [], ◌∷◌, length, get_or, set, Equal, Less, Greater, Ordering, is_some, refl, sym, ap, ◌∙◌, inl, inr, arith, insert, IsTrue}
use Rattle.std.specs.List.{HoldsAt, remove, list_all}
use Rattle.std.specs.List.Sorted.{IsPartitionPoint, IsNonDecreasingBy}
use Rattle.std.specs.Ordering.{ordering_index, is_gt}
use Rattle.std.proofs.lemmas.Bool.{cases_lt, false≢true}
use Rattle.bf_base.specs.Maps.{is_map}
use Rattle.bf_base.proofs.Order.{searchable_from_rises}
use Rattle.bf_base.proofs.Maps.{IsGap, entry_at-found, entry_at-gap, with_entry-gap, without_key-found, without_key-gap}
use Rattle.bf_heap.specs.Pages.{is_used_page, page_at}
use Rattle.bf_heap.proofs.Flat.{place_of, in_page, within_all, below_all, joined-insert, joined-remove, gap_between, page_rises}
use Rattle.bf_heap.proofs.Places.{some_rows, place_next, place_end}
use Rattle.bf_index.specs.Pages.{pairs_of, begins_behind, IsPageOf}
use Rattle.bf_index.specs.Pairs.{Pair, itself, pair_cmp, has_pair, with_pair, without_pair}
use Rattle.bf_index.proofs.Orders.{pair_cmp_total}

pub greater_from_test : (r : Ordering) → is_gt r ≡ true → r ≡ Greater
greater_from_test Less e = absurd (false≢true e)
greater_from_test Equal e = absurd (false≢true e)
greater_from_test Greater e = refl

-- a page with pairs that begins behind a pair has a greater pair first
first_behind : (pair : Pair) (page : List Pair) (d : Pair) → begins_behind pair page ≡ true → pair_cmp (get_or page 0 d) pair ≡ Greater
first_behind pair [] d h = absurd (false≢true h)
first_behind pair (e ∷ es) d h = greater_from_test _ h

begins_from_first : (pair : Pair) (page : List Pair) → 0 < length page → ((d : Pair) → pair_cmp (get_or page 0 d) pair ≡ Greater) → begins_behind pair page ≡ true
begins_from_first pair [] some h = absurd (omega arith)
begins_from_first pair (e ∷ es) some h = ap is_gt (h e)

place_suc : (pages : List (List Pair)) (i j : ℕ) → i < length pages → place_of pages i (suc j) ≡ place_of pages i j + 1
place_suc [] i j within = absurd (omega arith)
place_suc (p ∷ ps) zero j within = omega arith
place_suc (p ∷ ps) (suc i) j within = omega (arith, place_suc ps i j (omega arith))

first_place : (pages : List (List Pair)) (i : ℕ) → 0 < place_of pages i 0 → 0 < i
first_place [] i some = absurd (omega arith)
first_place (p ∷ ps) zero some = absurd (omega arith)
first_place (p ∷ ps) (suc i) some = omega arith

module _ (pages : List (List Pair)) (in_order : is_map pair_cmp itself (pairs_of pages) ≡ true) (pair : Pair) (i : ℕ) where
  -- the page's search has found the pair
  module _ (within : i < length pages) (j : ℕ) (inside : j < length (page_at pages i)) (tied : HoldsAt (λ (e : Pair). pair_cmp e pair ≡ Equal) (page_at pages i) j) where
    there : place_of pages i j < length (pairs_of pages)
    there = below_all pages i j within inside

    same_pair : pair_cmp (get_or (pairs_of pages) (place_of pages i j) pair) pair ≡ Equal
    same_pair = rw (in_page pages i j pair within inside) (tied pair)

    pub pair_found : has_pair (pairs_of pages) pair ≡ true
    pair_found = ap is_some (entry_at-found pair_cmp_total itself (pairs_of pages) (place_of pages i j) pair pair in_order there same_pair)

    pub removed : pairs_of (set pages i (remove (page_at pages i) j)) ≡ without_pair (pairs_of pages) pair
    removed =
        joined-remove pages i j within inside
        ∙ sym (without_key-found pair_cmp_total itself (pairs_of pages) (place_of pages i j) pair pair in_order there same_pair)

  -- the page's search has found where the pair goes
  module _ (used : IsTrue (list_all is_used_page pages)) (found : IsPageOf pages pair i) (j : ℕ) (inside : j ≤ length (page_at pages i))
      (parted : IsNonDecreasingBy (λ (e : Pair). ordering_index (pair_cmp e pair)) (page_at pages i) → IsPartitionPoint (λ (e : Pair). pair_cmp e pair ≡ Less) (λ (e : Pair). pair_cmp e pair ≡ Greater) (page_at pages i) j) where
    in_its_page : IsGap pair_cmp_total itself (page_at pages i) j pair
    in_its_page = parted (searchable_from_rises pair_cmp_total itself (page_at pages i) pair (page_rises pair_cmp_total itself pages i found.within in_order))

    not_first : (n : ℕ) → n ≡ j → 0 < i → 0 < n
    not_first zero same behind_first =
        let all : (d : Pair) → pair_cmp (get_or (page_at pages i) 0 d) pair ≡ Greater = λ d. in_its_page.1 0 d (omega arith) (some_rows pages i used found.within) in
        absurd (false≢true (sym (found.begins behind_first) ∙ begins_from_first pair (page_at pages i) (some_rows pages i used found.within) all))
    not_first (suc n) same behind_first = omega arith

    before_at : (n : ℕ) → n ≡ j → (d : Pair) → 0 < place_of pages i n → pair_cmp (get_or (pairs_of pages) (place_of pages i n - 1) d) pair ≡ Less
    before_at zero same d some = absurd (omega (arith, not_first zero same (first_place pages i some)))
    before_at (suc n) same d some =
        let step : place_of pages i (suc n) - 1 ≡ place_of pages i n = omega (arith, place_suc pages i n found.within) in
        let at : get_or (pairs_of pages) (place_of pages i (suc n) - 1) d ≡ get_or (page_at pages i) n d = ap (λ m. get_or (pairs_of pages) m d) step ∙ in_page pages i n d found.within (omega (arith, inside)) in
        ap (λ (e : Pair). pair_cmp e pair) at ∙ in_its_page.0 n d (omega arith) (omega arith)

    behind : (d : Pair) → place_of pages i j < length (pairs_of pages) → pair_cmp (get_or (pairs_of pages) (place_of pages i j) d) pair ≡ Greater
    behind d some = elim (cases_lt j (length (page_at pages i))) [
      | inl lt ↦ ap (λ (e : Pair). pair_cmp e pair) (in_page pages i j d found.within lt) ∙ in_its_page.1 j d (omega arith) lt
      | inr le ↦
          let last : j ≡ length (page_at pages i) = omega (arith, le, inside) in
          elim (cases_lt (suc i) (length pages)) [
            | inl more ↦
                let plus : i + 1 ≡ suc i = omega arith in
                let begins : begins_behind pair (page_at pages (suc i)) ≡ true = ap (λ m. begins_behind pair (page_at pages m)) (sym plus) ∙ found.next (omega (arith, more)) in
                ap (λ m. pair_cmp (get_or (pairs_of pages) m d) pair) (ap (place_of pages i) last ∙ place_next pages i more)
                ∙ ap (λ (e : Pair). pair_cmp e pair) (in_page pages (suc i) 0 d more (some_rows pages (suc i) used more))
                ∙ first_behind pair (page_at pages (suc i)) d begins
            | inr none ↦ absurd (omega (arith, some, ap (place_of pages i) last, place_end pages i (omega (arith, none, found.within))))
          ]
    ]

    gap : IsGap pair_cmp_total itself (pairs_of pages) (place_of pages i j) pair
    gap = gap_between pair_cmp_total itself (pairs_of pages) (place_of pages i j) pair in_order (before_at j refl) behind (within_all pages i j found.within inside)

    pub no_pair : has_pair (pairs_of pages) pair ≡ false
    no_pair = ap is_some (entry_at-gap pair_cmp_total itself (pairs_of pages) (place_of pages i j) pair gap)

    pub inserted : pairs_of (set pages i (insert (page_at pages i) j pair)) ≡ with_pair (pairs_of pages) pair
    inserted =
        joined-insert pages i j pair found.within inside
        ∙ sym (with_entry-gap pair_cmp_total itself (pairs_of pages) (place_of pages i j) pair gap)

    pub nothing_removed : pairs_of pages ≡ without_pair (pairs_of pages) pair
    nothing_removed = sym (without_key-gap pair_cmp_total itself (pairs_of pages) (place_of pages i j) pair gap)
