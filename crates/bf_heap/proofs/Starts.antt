-- The positions of the first rows of pages, and the row at a position by them.
use Rattle.std.proofs.Common.{◌≡◌, ℕ, zero, suc, ◌+◌, ◌-◌, ◌<◌, ◌≤◌, true, false, nat_le, List, [], ◌∷◌, ◌++◌, length, get_or, Some, None, refl, sym, ap, ◌∙◌, inl, inr, arith, slice_get}
use Rattle.std.specs.List.Sorted.{IsPartitionedBy}
use Rattle.std.proofs.lemmas.Bool.{cases_lt, leb-true, le-leb, false≢true}
use Rattle.std.proofs.lemmas.List.{append_assoc}
use Rattle.std.proofs.lemmas.Option.{slice_get-get_or, slice_get_past}
use Rattle.bf_heap.specs.Heaps.{Entry}
use Rattle.bf_heap.specs.Frozen.{starts_from, AreBegun}
use Rattle.bf_heap.specs.Pages.{rows_of}
use Rattle.bf_heap.proofs.Flat.{place_of, in_page, below_all}
use Rattle.bf_heap.proofs.Places.{place_next, place_end}

pub length-starts : (start : ℕ) (pages : List (List Entry)) → length (starts_from start pages) ≡ length pages
length-starts start [] = refl
length-starts start (p ∷ ps) = omega (arith, length-starts (start + length p) ps)

-- a page begins where its first row stands
pub start_at : (start : ℕ) (pages : List (List Entry)) (i d : ℕ) → i < length pages → get_or (starts_from start pages) i d ≡ start + place_of pages i 0
start_at start [] i d within = absurd (omega arith)
start_at start (p ∷ ps) zero d within = omega arith
start_at start (p ∷ ps) (suc i) d within = omega (arith, start_at (start + length p) ps i d (omega arith))

-- the rows of a page stand one behind the other
pub place_from_first : (pages : List (List Entry)) (i j : ℕ) → i < length pages → place_of pages i j ≡ place_of pages i 0 + j
place_from_first [] i j within = absurd (omega arith)
place_from_first (p ∷ ps) zero j within = omega arith
place_from_first (p ∷ ps) (suc i) j within = omega (arith, place_from_first ps i j (omega arith))

-- a row's position, by that of its page
pub position_of : (pages : List (List Entry)) (here place start : ℕ) → here < length pages → start ≡ get_or (starts_from 0 pages) here start → start + place ≡ place_of pages here place
position_of pages here place start within begins = omega (arith, begins, start_at 0 pages here start within, place_from_first pages here place within)

places_rise : (pages : List (List Entry)) (i j : ℕ) → i ≤ j → j < length pages → place_of pages i 0 ≤ place_of pages j 0
places_rise [] i j le within = absurd (omega arith)
places_rise (p ∷ ps) zero j le within = omega arith
places_rise (p ∷ ps) (suc i) zero le within = absurd (omega arith)
places_rise (p ∷ ps) (suc i) (suc j) le within = omega (arith, places_rise ps i j (omega arith) (omega arith))

-- a page's position, with one more row of it
pub one_more : (starts : List ℕ) (start : ℕ) (page : List Entry) (pages : List (List Entry)) → (starts ++ start ∷ []) ++ starts_from (start + length page) pages ≡ starts ++ starts_from start (page ∷ pages)
one_more starts start page pages = append_assoc starts (start ∷ []) (starts_from (start + length page) pages)

-- the pages that begin at a position or before it come first
pub starts_parted : (pages : List (List Entry)) (position : ℕ) → IsPartitionedBy (λ start. nat_le start position) (starts_from 0 pages)
starts_parted pages position i j d le below passes =
    let within : j < length pages = omega (arith, below, length-starts 0 pages) in
    let reached : get_or (starts_from 0 pages) j d ≤ position = leb-true _ _ passes in
    le-leb _ _ (omega (arith, reached, start_at 0 pages j d within, start_at 0 pages i d (omega arith), places_rise pages i j le within))

no_rows : (pages : List (List Entry)) (position : ℕ) → (0 < length pages → nat_le (get_or (starts_from 0 pages) 0 0) position ≡ false) → length (rows_of pages) ≤ position
no_rows [] position above = omega arith
no_rows (p ∷ ps) position above = absurd (false≢true (sym (above (omega arith)) ∙ le-leb 0 position (omega arith)))

module _ (pages : List (List Entry)) (position behind : ℕ) (at : AreBegun (starts_from 0 pages) position behind) where
  -- no page begins at the position or before it, so there is none
  pub no_page : behind ≡ 0 → slice_get (rows_of pages) position ≡ None
  no_page none = slice_get_past (rows_of pages) position (no_rows pages position (λ some. at.1 0 0 (omega (arith, none)) (omega (arith, some, length-starts 0 pages))))

  module _ (here start : ℕ) (last : here + 1 ≡ behind) (within : behind ≤ length pages) (begins : start ≡ get_or (starts_from 0 pages) here start) where
    in_pages : here < length pages
    in_pages = omega (arith, last, within)

    start_is : start ≡ place_of pages here 0
    start_is = omega (arith, begins, start_at 0 pages here start in_pages)

    -- the page begins at the position or before it
    pub reached : start ≤ position
    reached = leb-true _ _ (ap (λ n. nat_le n position) begins ∙ at.0 here start (omega arith) (omega (arith, last)))

    pub row_at : (d : Entry) → position - start < length (get_or pages here []) → Some (get_or (get_or pages here []) (position - start) d) ≡ slice_get (rows_of pages) position
    row_at d inside =
        let place_is : place_of pages here (position - start) ≡ position = omega (arith, place_from_first pages here (position - start) in_pages, start_is, reached) in
        ap Some (sym (in_page pages here (position - start) d in_pages inside))
        ∙ sym (slice_get-get_or (rows_of pages) (place_of pages here (position - start)) d (below_all pages here (position - start) in_pages inside))
        ∙ ap (slice_get (rows_of pages)) place_is

    -- the page ends before the position, and so does the last one
    pub no_row_at : length (get_or pages here []) ≤ position - start → slice_get (rows_of pages) position ≡ None
    no_row_at outside = slice_get_past (rows_of pages) position (elim (cases_lt (suc here) (length pages)) [
      | inl more ↦
          let next : get_or (starts_from 0 pages) (suc here) 0 ≡ place_of pages (suc here) 0 = omega (arith, start_at 0 pages (suc here) 0 more) in
          let ends : place_of pages (suc here) 0 ≤ position = omega (arith, sym (place_next pages here more), place_from_first pages here (length (get_or pages here [])) in_pages, start_is, reached, outside) in
          let before : nat_le (get_or (starts_from 0 pages) (suc here) 0) position ≡ true = le-leb _ _ (omega (arith, next, ends)) in
          absurd (false≢true (sym (at.1 (suc here) 0 (omega (arith, last)) (omega (arith, more, length-starts 0 pages))) ∙ before))
      | inr none ↦ omega (arith, place_end pages here (omega (arith, none, in_pages)), place_from_first pages here (length (get_or pages here [])) in_pages, start_is, reached, outside)
    ])
