-- The items of a list of pages, one page behind the other: what an edit in one page is among all items.
use Rattle.std.proofs.Common.{◌≡◌, ℕ, zero, suc, ◌+◌, ◌-◌, ◌<◌, ◌≤◌, true, List, [], ◌∷◌, ◌++◌, length, get_or, set, Less, Greater, Ordering, refl, sym, ap, ◌∙◌, inl, inr, arith, insert}
use Rattle.std.specs.Cmp.{IsTotalOrder}
use Rattle.std.specs.List.{remove, flat_map}
use Rattle.std.proofs.lemmas.Bool.{and_parts, and_from, cases_lt}
use Rattle.std.proofs.lemmas.List.{append_assoc, length-append, get_or_append_left, get_or-append-add, set-append_left, set-append_right}
use Rattle.std.proofs.lemmas.List.Edits.{insert-append_left, insert-append_right, remove-append_left, remove-append_right}
use Rattle.bf_base.specs.Maps.{is_map}
use Rattle.bf_base.proofs.Order.{less_from_rises, turned, turned_less}
use Rattle.bf_base.proofs.Maps.{IsGap}

module _ {X : Type 0} where
  abbrev pub joined : List (List X) → List X
  joined pages = flat_map (λ page. page) pages

  -- the place among all items of a place in a page
  abbrev pub place_of : List (List X) → ℕ → ℕ → ℕ
  place_of [] i j = j
  place_of (p ∷ ps) zero j = j
  place_of (p ∷ ps) (suc i) j = length p + place_of ps i j

  back : (p : List X) (n : ℕ) → length p + n - length p ≡ n
  back p n = omega arith

  pub in_page : (pages : List (List X)) (i j : ℕ) (d : X) → i < length pages → j < length (get_or pages i []) → get_or (joined pages) (place_of pages i j) d ≡ get_or (get_or pages i []) j d
  in_page [] i j d within inside = absurd (omega arith)
  in_page (p ∷ ps) zero j d within inside = get_or_append_left p (joined ps) d j inside
  in_page (p ∷ ps) (suc i) j d within inside =
      get_or-append-add p (joined ps) (place_of ps i j) d
      ∙ in_page ps i j d (omega arith) inside

  pub within_all : (pages : List (List X)) (i j : ℕ) → i < length pages → j ≤ length (get_or pages i []) → place_of pages i j ≤ length (joined pages)
  within_all [] i j within inside = absurd (omega arith)
  within_all (p ∷ ps) zero j within inside = omega (arith, length-append p (joined ps), inside)
  within_all (p ∷ ps) (suc i) j within inside = omega (arith, length-append p (joined ps), within_all ps i j (omega arith) inside)

  pub below_all : (pages : List (List X)) (i j : ℕ) → i < length pages → j < length (get_or pages i []) → place_of pages i j < length (joined pages)
  below_all [] i j within inside = absurd (omega arith)
  below_all (p ∷ ps) zero j within inside = omega (arith, length-append p (joined ps), inside)
  below_all (p ∷ ps) (suc i) j within inside = omega (arith, length-append p (joined ps), below_all ps i j (omega arith) inside)

  -- an item that is replaced, put and taken out in a page is so among all
  pub joined-set : (pages : List (List X)) (i j : ℕ) (x : X) → i < length pages → j < length (get_or pages i []) → joined (set pages i (set (get_or pages i []) j x)) ≡ set (joined pages) (place_of pages i j) x
  joined-set [] i j x within inside = absurd (omega arith)
  joined-set (p ∷ ps) zero j x within inside = sym (set-append_left p (joined ps) j x inside)
  joined-set (p ∷ ps) (suc i) j x within inside =
      ap (λ zs. p ++ zs) (joined-set ps i j x (omega arith) inside ∙ ap (λ n. set (joined ps) n x) (sym (back p (place_of ps i j))))
      ∙ sym (set-append_right p (joined ps) (length p) (length p + place_of ps i j) x refl (omega arith))

  pub joined-insert : (pages : List (List X)) (i j : ℕ) (x : X) → i < length pages → j ≤ length (get_or pages i []) → joined (set pages i (insert (get_or pages i []) j x)) ≡ insert (joined pages) (place_of pages i j) x
  joined-insert [] i j x within inside = absurd (omega arith)
  joined-insert (p ∷ ps) zero j x within inside = sym (insert-append_left p (joined ps) j x inside)
  joined-insert (p ∷ ps) (suc i) j x within inside =
      ap (λ zs. p ++ zs) (joined-insert ps i j x (omega arith) inside ∙ ap (λ n. insert (joined ps) n x) (sym (back p (place_of ps i j))))
      ∙ sym (insert-append_right p (joined ps) (length p) (length p + place_of ps i j) x refl (omega arith))

  pub joined-remove : (pages : List (List X)) (i j : ℕ) → i < length pages → j < length (get_or pages i []) → joined (set pages i (remove (get_or pages i []) j)) ≡ remove (joined pages) (place_of pages i j)
  joined-remove [] i j within inside = absurd (omega arith)
  joined-remove (p ∷ ps) zero j within inside = sym (remove-append_left p (joined ps) j inside)
  joined-remove (p ∷ ps) (suc i) j within inside =
      ap (λ zs. p ++ zs) (joined-remove ps i j (omega arith) inside ∙ ap (λ n. remove (joined ps) n) (sym (back p (place_of ps i j))))
      ∙ sym (remove-append_right p (joined ps) (length p) (length p + place_of ps i j) refl (omega arith))

  -- a page that is split in two
  pub joined-split : (pages : List (List X)) (i : ℕ) (a b : List X) → i < length pages → joined (insert (set pages i a) (suc i) b) ≡ joined (set pages i (a ++ b))
  joined-split [] i a b within = absurd (omega arith)
  joined-split (p ∷ ps) zero a b within = sym (append_assoc a b (joined ps))
  joined-split (p ∷ ps) (suc i) a b within = ap (λ zs. p ++ zs) (joined-split ps i a b (omega arith))

  -- a page without items that leaves
  pub joined-leave : (pages : List (List X)) (i : ℕ) → i < length pages → joined (remove pages i) ≡ joined (set pages i [])
  joined-leave [] i within = absurd (omega arith)
  joined-leave (p ∷ ps) zero within = refl
  joined-leave (p ∷ ps) (suc i) within = ap (λ zs. p ++ zs) (joined-leave ps i (omega arith))

module _ {K : Type 0} {cmp : K → K → Ordering} (o : IsTotalOrder cmp) {X : Type 0} (key : X → K) where
  -- items in order, where the one before a place is lesser than a key and the one at the place is greater
  pub gap_between : (xs : List X) (i : ℕ) (k : K) → is_map cmp key xs ≡ true
      → ((d : X) → 0 < i → cmp (key (get_or xs (i - 1) d)) k ≡ Less) → ((d : X) → i < length xs → cmp (key (get_or xs i d)) k ≡ Greater)
      → i ≤ length xs → IsGap o key xs i k
  gap_between xs i k h before behind within = (
    λ j d low high. elim (cases_lt j (i - 1)) [
      | inl lt ↦ o.trans _ (key (get_or xs (i - 1) d)) _ (less_from_rises o key xs j (i - 1) d h lt (omega arith)) (before d (omega arith))
      | inr le ↦ let last : j ≡ i - 1 = omega arith in rw last (before d (omega arith))
    ],
    λ j d low high. elim (cases_lt i j) [
      | inl lt ↦ turned_less o _ _ (o.trans _ (key (get_or xs i d)) _ (turned o _ _ (behind d (omega arith))) (less_from_rises o key xs i j d h lt high))
      | inr le ↦ let first : j ≡ i = omega arith in rw first (behind d (omega arith))
    ],
  )

  pub rises_left : (xs ys : List X) → is_map cmp key (xs ++ ys) ≡ true → is_map cmp key xs ≡ true
  rises_left [] ys h = refl
  rises_left (x ∷ []) ys h = refl
  rises_left (x ∷ y ∷ xs) ys h = and_from _ _ (and_parts _ _ h).0 (rises_left (y ∷ xs) ys (and_parts _ _ h).1)

  pub rises_right : (xs ys : List X) → is_map cmp key (xs ++ ys) ≡ true → is_map cmp key ys ≡ true
  rises_right [] ys h = h
  rises_right (x ∷ []) [] h = refl
  rises_right (x ∷ []) (y ∷ ys) h = (and_parts _ _ h).1
  rises_right (x ∷ y ∷ xs) ys h = rises_right (y ∷ xs) ys (and_parts _ _ h).1

  -- the items of each page are in order
  pub page_rises : (pages : List (List X)) (i : ℕ) → i < length pages → is_map cmp key (joined pages) ≡ true → is_map cmp key (get_or pages i []) ≡ true
  page_rises [] i within h = absurd (omega arith)
  page_rises (p ∷ ps) zero within h = rises_left p (joined ps) h
  page_rises (p ∷ ps) (suc i) within h = page_rises ps i (omega arith) (rises_right p (joined ps) h)
