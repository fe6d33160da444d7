-- Finite maps: what is read, put and taken away at the place that a search gives, and look-ups after a change.
use Rattle.std.proofs.Common.{◌≡◌, ℕ, zero, suc, ◌<◌, ◌≤◌, true, false, not, cond, List, [], ◌∷◌, map, length, get_or, set, Ordering, Less, Equal, Greater, Option, Some, None, refl, sym, ap, ◌∙◌, inl, inr, arith, insert, is_lt, is_eq}
use Rattle.std.specs.Cmp.{IsTotalOrder}
use Rattle.std.specs.List.{HoldsAt, AllWithin, remove}
use Rattle.std.specs.List.Sorted.{IsPartitionPoint, IsNonDecreasingBy}
use Rattle.std.specs.Ordering.{ordering_index}
use Rattle.std.proofs.lemmas.Bool.{and_parts, and_from, cases_Bool}
use Rattle.std.proofs.lemmas.Cmp.{alike_right}
use Rattle.std.proofs.lemmas.Simd.{map-map}
use Rattle.std.proofs.lemmas.List.{length-map, get_or-map}
use Rattle.bf_base.specs.Lists.{rises}
use Rattle.bf_base.specs.Maps.{is_map, has_key, entry_at, with_entry, beside, without_key}
use Rattle.bf_base.proofs.Order.{first_is, less_from_test, equal_from_test, turned, turned_less, turned_equal, symmetric, rises_alike, rises_first, rises_cons, rises_tail, rises_skip, look_up-at, look_up-none, searchable_from_rises}
use Rattle.bf_base.proofs.Apart.{rises-filter}

module _ {K : Type 0} {cmp : K → K → Ordering} (o : IsTotalOrder cmp) {X : Type 0} (key : X → K) where
  -- the first of a list in order has a lesser key than each item behind it
  above_first : (x : X) (xs : List X) → rises cmp (key x ∷ map key xs) ≡ true → (j : ℕ) (d : X) → j < length xs → cmp (key x) (key (get_or xs j d)) ≡ Less
  above_first x [] h j d in_range = absurd (omega arith)
  above_first x (y ∷ ys) h zero d in_range = less_from_test _ (and_parts _ _ h).0
  above_first x (y ∷ ys) h (suc j) d in_range = o.trans _ (key y) _ (less_from_test _ (and_parts _ _ h).0) (above_first y ys (and_parts _ _ h).1 j d (omega arith))

  -- the place of a key that a map does not have: all keys before it are less, and those from it on are greater
  abbrev pub IsGap : List X → ℕ → K → Type 0
  IsGap xs i k = IsPartitionPoint (λ y. cmp (key y) k ≡ Less) (λ y. cmp (key y) k ≡ Greater) xs i

  -- an item before another one has a lesser key than a tie of the other
  less_than_tie : (y : X) (ys : List X) (i : ℕ) (k : K) (d : X) → rises cmp (key y ∷ map key ys) ≡ true → i < length ys → cmp (key (get_or ys i d)) k ≡ Equal → cmp (key y) k ≡ Less
  less_than_tie y ys i k d h in_range e =
      let before = above_first y ys h i d in_range in
      rw (← alike_right o _ _ (key y) e) before

  gap_behind : (y : X) (ys : List X) (i : ℕ) (k : K) → IsGap (y ∷ ys) (suc i) k → IsGap ys i k
  gap_behind y ys i k at = (λ j d low high. at.0 (suc j) d (omega arith) (omega arith), λ j d low high. at.1 (suc j) d (omega arith) (omega arith))

  -- look-ups at a place
  pub entry_at-found : (xs : List X) (i : ℕ) (k : K) (d : X) → is_map cmp key xs ≡ true → i < length xs → cmp (key (get_or xs i d)) k ≡ Equal → entry_at cmp key xs k ≡ Some (get_or xs i d)
  entry_at-found = look_up-at o key

  pub entry_at-gap : (xs : List X) (i : ℕ) (k : K) → IsGap xs i k → entry_at cmp key xs k ≡ None
  entry_at-gap = look_up-none o key

  -- an entry takes the place of the one that has its key
  pub with_entry-found : (xs : List X) (i : ℕ) (x d : X) → is_map cmp key xs ≡ true → i < length xs → cmp (key (get_or xs i d)) (key x) ≡ Equal → with_entry cmp key xs x ≡ set xs i x
  with_entry-found [] i x d h in_range e = absurd (omega arith)
  with_entry-found (y ∷ ys) zero x d h in_range e = rw (turned_equal o (key y) (key x) e) refl
  with_entry-found (y ∷ ys) (suc i) x d h in_range e =
      let first = turned_less o (key y) (key x) (less_than_tie y ys i (key x) d h (omega arith) e) in
      rw (first, with_entry-found ys i x d (rises_tail o (key y) (map key ys) h) (omega arith) e) refl

  -- and else it goes into the gap
  pub with_entry-gap : (xs : List X) (i : ℕ) (x : X) → IsGap xs i (key x) → with_entry cmp key xs x ≡ insert xs i x
  with_entry-gap [] zero x at = refl
  with_entry-gap [] (suc i) x at = refl
  with_entry-gap (y ∷ ys) zero x at = rw (turned o (key y) (key x) (at.1 0 y (omega arith) (omega arith))) refl
  with_entry-gap (y ∷ ys) (suc i) x at =
      let first = turned_less o (key y) (key x) (at.0 0 y (omega arith) (omega arith)) in
      rw (first, with_entry-gap ys i x (gap_behind y ys i (key x) at)) refl

  without_key-below : (k : K) (xs : List X) → rises cmp (k ∷ map key xs) ≡ true → without_key cmp key xs k ≡ xs
  without_key-below k [] h = refl
  without_key-below k (y ∷ ys) h =
      let later = turned_less o k (key y) (less_from_test _ (and_parts _ _ h).0) in
      rw (later, without_key-below k ys (rises_skip o k (key y) (map key ys) h)) refl

  -- the entry of a key is taken out of its place
  pub without_key-found : (xs : List X) (i : ℕ) (k : K) (d : X) → is_map cmp key xs ≡ true → i < length xs → cmp (key (get_or xs i d)) k ≡ Equal → without_key cmp key xs k ≡ remove xs i
  without_key-found [] i k d h in_range e = absurd (omega arith)
  without_key-found (y ∷ ys) zero k d h in_range e = rw (e, without_key-below k ys (rises_alike o (key y) k (map key ys) e h)) refl
  without_key-found (y ∷ ys) (suc i) k d h in_range e =
      let first = less_than_tie y ys i k d h (omega arith) e in
      rw (first, without_key-found ys i k d (rises_tail o (key y) (map key ys) h) (omega arith) e) refl

  -- and nothing is taken out where no entry has the key
  pub without_key-none : (xs : List X) (k : K) → entry_at cmp key xs k ≡ None → without_key cmp key xs k ≡ xs
  without_key-none [] k none = refl
  without_key-none (y ∷ ys) k none = elim (cases_Bool (is_eq (cmp (key y) k))) [
    | inl tied ↦
        let found : Some y ≡ None = rw tied at none in
        absurd cc
    | inr apart ↦
        let rest : entry_at cmp key ys k ≡ None = rw apart at none in
        rw (apart, without_key-none ys k rest) refl
  ]

  pub without_key-gap : (xs : List X) (i : ℕ) (k : K) → IsGap xs i k → without_key cmp key xs k ≡ xs
  without_key-gap xs i k at = without_key-none xs k (entry_at-gap xs i k at)

  first_with_entry : (k : K) (xs : List X) (x : X) → first_is (λ b. is_lt (cmp k b)) (map key xs) ≡ true → cmp k (key x) ≡ Less → first_is (λ b. is_lt (cmp k b)) (map key (with_entry cmp key xs x)) ≡ true
  first_with_entry k [] x h e = ap is_lt e
  first_with_entry k (y ∷ ys) x h e = elim (cmp (key x) (key y)) as (λ r. first_is (λ b. is_lt (cmp k b)) (map key (beside r y ys x (with_entry cmp key ys x))) ≡ true) [
    | Less ↦ ap is_lt e
    | Equal ↦ ap is_lt e
    | Greater ↦ h
  ]

  -- a map stays a map
  pub is_map-with_entry : (xs : List X) (x : X) → is_map cmp key xs ≡ true → is_map cmp key (with_entry cmp key xs x) ≡ true
  is_map-with_entry [] x h = refl
  is_map-with_entry (y ∷ ys) x h =
      elim (cmp (key x) (key y)) as (λ r. cmp (key x) (key y) ≡ r → is_map cmp key (beside r y ys x (with_entry cmp key ys x)) ≡ true) [
        | Less ↦ λ e. and_from _ _ (ap is_lt e) h
        | Equal ↦ λ e. rises_alike o (key y) (key x) (map key ys) (turned_equal o (key x) (key y) e) h
        | Greater ↦ λ e.
            let first = first_with_entry (key y) ys x (rises_first o (key y) (map key ys) h) (turned o (key x) (key y) e) in
            rises_cons o (key y) (map key (with_entry cmp key ys x)) first (is_map-with_entry ys x (rises_tail o (key y) (map key ys) h))
      ] refl

  pub is_map-without_key : (xs : List X) (k : K) → is_map cmp key xs ≡ true → is_map cmp key (without_key cmp key xs k) ≡ true
  is_map-without_key xs k = rises-filter o key (λ x. not (has_key cmp key k x)) xs

  -- look-ups after a change
  pub entry_at-with_entry : (xs : List X) (x : X) (k : K) → entry_at cmp key (with_entry cmp key xs x) k ≡ cond (has_key cmp key k x) (Some x) (entry_at cmp key xs k)
  entry_at-with_entry [] x k = refl
  entry_at-with_entry (y ∷ ys) x k =
      elim (cmp (key x) (key y)) as (λ r. cmp (key x) (key y) ≡ r
      → entry_at cmp key (beside r y ys x (with_entry cmp key ys x)) k ≡ cond (has_key cmp key k x) (Some x) (entry_at cmp key (y ∷ ys) k)) [
        | Less ↦ λ e. refl
        | Equal ↦ λ e.
            let alike : has_key cmp key k x ≡ has_key cmp key k y = ap is_eq (o.congr (key x) (key y) k e) in
            rw (← alike) (elim (has_key cmp key k x) as (λ b. cond b (Some x) (entry_at cmp key ys k) ≡ cond b (Some x) (cond b (Some y) (entry_at cmp key ys k))) [ true ↦ refl | false ↦ refl ])
        | Greater ↦ λ e. rw (entry_at-with_entry ys x k) (not_both x y k e (entry_at cmp key ys k))
      ] refl
    where
      not_both : (x y : X) (k : K) → cmp (key x) (key y) ≡ Greater → (rest : Option X)
          → cond (has_key cmp key k y) (Some y) (cond (has_key cmp key k x) (Some x) rest) ≡ cond (has_key cmp key k x) (Some x) (cond (has_key cmp key k y) (Some y) rest)
      not_both x y k e rest = elim (cases_Bool (has_key cmp key k x)) [
        | inl tied ↦
            let other : cmp (key y) k ≡ Less = sym (alike_right o (key x) k (key y) (equal_from_test _ tied)) ∙ turned o (key x) (key y) e in
            rw (tied, other) refl
        | inr apart ↦ rw apart refl
      ]

  pub entry_at-without_key : (xs : List X) (gone k : K) → entry_at cmp key (without_key cmp key xs gone) k ≡ cond (is_eq (cmp gone k)) None (entry_at cmp key xs k)
  entry_at-without_key [] gone k = elim (is_eq (cmp gone k)) as (λ b. ◌≡◌ {A = Option X} None (cond b None None)) [ true ↦ refl | false ↦ refl ]
  entry_at-without_key (y ∷ ys) gone k =
      let rest = entry_at-without_key ys gone k in
      elim (cases_Bool (is_eq (cmp (key y) gone))) [
        | inl tied ↦
            let alike : is_eq (cmp (key y) k) ≡ is_eq (cmp gone k) = ap is_eq (o.congr (key y) gone k (equal_from_test _ tied)) in
            rw (tied, alike, rest) (elim (is_eq (cmp gone k)) as (λ b. cond b None (entry_at cmp key ys k) ≡ cond b None (cond b (Some y) (entry_at cmp key ys k))) [ true ↦ refl | false ↦ refl ])
        | inr apart ↦ rw (apart, rest) (elim (cases_Bool (is_eq (cmp (key y) k))) [
          | inl tied ↦
              let other : is_eq (cmp gone k) ≡ false = symmetric o gone k ∙ ap is_eq (sym (o.congr (key y) k gone (equal_from_test _ tied))) ∙ apart in
              rw (tied, other) refl
          | inr apart_too ↦ rw apart_too refl
        ])
      ]

-- an edit before a map, and behind it
module _ {X B : Type 0} (opened : B → X) where
  pub map-insert : (boxes : List B) (i : ℕ) (b : B) → map opened (insert boxes i b) ≡ insert (map opened boxes) i (opened b)
  map-insert [] zero b = refl
  map-insert [] (suc i) b = refl
  map-insert (c ∷ cs) zero b = refl
  map-insert (c ∷ cs) (suc i) b = ap (λ zs. opened c ∷ zs) (map-insert cs i b)

  pub map-remove : (boxes : List B) (i : ℕ) → map opened (remove boxes i) ≡ remove (map opened boxes) i
  map-remove [] zero = refl
  map-remove [] (suc i) = refl
  map-remove (c ∷ cs) zero = refl
  map-remove (c ∷ cs) (suc i) = ap (λ zs. opened c ∷ zs) (map-remove cs i)

  -- what holds of what is in each of some boxes
  pub in_boxes : (P : X → Type 0) (boxes : List B) (low high : ℕ) → high ≤ length boxes → AllWithin (λ b. P (opened b)) boxes low high → AllWithin P (map opened boxes) low high
  in_boxes P [] low high within all = λ j d above below. absurd (omega arith)
  in_boxes P (b ∷ bs) low high within all = λ j d above below. rw (get_or-map opened (b ∷ bs) j b d (omega arith)) (all j b above below)

-- a search among boxes finds what a search among what is in them does
module _ {K : Type 0} {cmp : K → K → Ordering} (o : IsTotalOrder cmp) {X B : Type 0} (key : X → K) (opened : B → X) where
  pub tie_in_boxes : (boxes : List B) (i : ℕ) (k : K) → i < length boxes → HoldsAt (λ b. cmp (key (opened b)) k ≡ Equal) boxes i → HoldsAt (λ x. cmp (key x) k ≡ Equal) (map opened boxes) i
  tie_in_boxes [] i k in_range tied = absurd (omega arith)
  tie_in_boxes (b ∷ bs) i k in_range tied = λ d. rw (get_or-map opened (b ∷ bs) i b d in_range) (tied b)

  pub gap_in_boxes : (boxes : List B) (i : ℕ) (k : K) → is_map cmp key (map opened boxes) ≡ true → i ≤ length boxes
      → (IsNonDecreasingBy (λ b. ordering_index (cmp (key (opened b)) k)) boxes → IsPartitionPoint (λ b. cmp (key (opened b)) k ≡ Less) (λ b. cmp (key (opened b)) k ≡ Greater) boxes i)
      → IsGap o key (map opened boxes) i k
  gap_in_boxes boxes i k h within parted =
      let rising = searchable_from_rises o (λ (b : B). key (opened b)) boxes k (ap (rises cmp) (sym (map-map key opened boxes)) ∙ h) in
      let here = parted rising in (
        in_boxes opened (λ x. cmp (key x) k ≡ Less) boxes 0 i within here.0,
        rw (length-map boxes opened) (in_boxes opened (λ x. cmp (key x) k ≡ Greater) boxes i (length boxes) (omega arith) here.1),
      )
