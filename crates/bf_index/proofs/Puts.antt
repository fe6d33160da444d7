-- What is true of an index's pages stays so when a pair is added at the place where it goes, and taken out of the place where it is.
use Rattle.std.proofs.Common.{◌≡◌, ℕ, ◌+◌, ◌-◌, ◌*◌, ◌<◌, ◌≤◌, ◌⊎◌, true, List, [], length, sym, ap, ◌∙◌, subst, inl, inr, arith, IsTrue}
use Rattle.std.proofs.lemmas.Bool.{false≢true, cases_lt}
use Rattle.std.proofs.lemmas.List.Edits.{length-insert, length-remove}
use Rattle.bf_base.specs.Maps.{is_map}
use Rattle.bf_base.proofs.Maps.{is_map-with_entry, is_map-without_key}
use Rattle.bf_heap.specs.Pages.{above_half, first_page, page_at, IsPutNew, IsTakenOut}
use Rattle.bf_heap.proofs.Flat.{place_of, joined-insert, joined-remove, within_all, below_all}
use Rattle.bf_heap.proofs.Takes.{room_kept}
use Rattle.bf_heap.proofs.Counts.{over-set, page_within}
use Rattle.bf_index.specs.Pages.{pairs_of, IsGapAt, IsPairAt, IsPaged}
use Rattle.bf_index.specs.Pairs.{PairSet, Pair, itself, pair_cmp, has_pair, with_pair, without_pair}
use Rattle.bf_index.proofs.Orders.{pair_cmp_total}
use Rattle.bf_index.proofs.Kept as keeps

module _ (pages spares : List (List Pair)) (count spare over pages_capacity spares_capacity : ℕ) (kept : IsPaged pages spares count spare over pages_capacity spares_capacity) (pair : Pair) (here place : ℕ) where
  module _ (at : IsPairAt pages pair here place) where
    pub over_there : (pairs : ℕ) → pairs ≡ length (page_at pages here) → 32 < pairs → 0 < over
    over_there pairs counted many = omega (arith, many, counted, over-set pages here [] at.within, kept.over_is)

    module _ (pages_now spares_now : List (List Pair)) (out : IsTakenOut pages spares here place pages_now spares_now) where
      pub taken : pairs_of pages_now ≡ without_pair (pairs_of pages) pair
      taken = out.rows ∙ at.without

      one_less : length (pairs_of pages_now) + 1 ≡ length (pairs_of pages)
      one_less = ap (λ (pairs : List Pair). length pairs + 1) (out.rows ∙ joined-remove pages here place at.within at.inside) ∙ length-remove (pairs_of pages) (place_of pages here place) (below_all pages here place at.within at.inside)

      pub some_pair : 1 ≤ count
      some_pair = omega (arith, one_less, kept.counted)

      pub kept_taken : (pairs over_now first spare_now pages_capacity_now spares_capacity_now : ℕ) → pairs ≡ length (page_at pages here) → over_now + (pairs - 32) ≡ over + (pairs - 33) → first ≡ first_page pages_now
          → spare ≤ spare_now → spare_now ≤ spare + 1 → (spare < spare_now → length spares_now < spare_now → spare_now + (over_now + first) ≤ 32 * length spares_now)
          → pages_capacity_now ≡ pages_capacity → spares_capacity ≤ spares_capacity_now
          → IsPaged pages_now spares_now (count - 1) spare_now over_now pages_capacity_now spares_capacity_now
      kept_taken pairs over_now first spare_now pages_capacity_now spares_capacity_now counted fewer first_is least most raised same fits =
          let over_is : over_now ≡ above_half pages_now = omega (arith, fewer, counted, kept.over_is, out.over) in
          record {
            in_order = subst (λ es. is_map pair_cmp itself es ≡ true) (sym taken) (is_map-without_key pair_cmp_total itself (pairs_of pages) pair kept.in_order);
            within = omega (arith, one_less, kept.within, most);
            counted = omega (arith, kept.counted, one_less);
            used = out.used kept.used;
            unused = out.unused kept.unused;
            over_is = over_is;
            room = room_kept pages spares pages_now spares_now here place spare spare_now kept.room at.within (omega (arith, at.inside)) out most (λ a b. omega (arith, raised a b, over_is, first_is));
            fits_pages = omega (arith, out.all, kept.fits_pages, same);
            fits_spares = omega (arith, out.all, kept.fits_spares, fits);
          }

  module _ (at : IsGapAt pages pair here place) (columns : List ℕ) (index : PairSet) (view_is : record { columns = columns; pairs = pairs_of pages; spare = spare } ≡ index) (room : IsTrue (has_pair index.pairs pair) ⊎ (0 < index.spare)) where
    none_there : IsTrue (has_pair index.pairs pair) ⊎ (0 < index.spare) → 0 < index.spare
    none_there (inl there) = absurd (false≢true (sym at.absent ∙ ap (λ (i : PairSet). has_pair i.pairs pair) view_is ∙ there))
    none_there (inr some) = some

    pub some_room : 0 < spare
    some_room = subst (λ (i : PairSet). 0 < i.spare) (sym view_is) (none_there room)

    pub page_there : length (page_at pages here) ≡ 64 → 0 < length spares
    page_there full = keeps.spare_page pages spares count spare over pages_capacity spares_capacity kept here at.within some_room (omega (arith, over-set pages here [] at.within, full))

    module _ (pages_now spares_now : List (List Pair)) (new : IsPutNew pages spares here place pair pages_now spares_now) where
      pub put : pairs_of pages_now ≡ with_pair (pairs_of pages) pair
      put = new.rows ∙ at.with

      small : length (page_at pages here) ≤ 64
      small = page_within pages here kept.used at.within

      -- the pairs above half a page, by the number of pairs that the page had
      over_now_is : (pairs result : ℕ) → pairs ≡ length (page_at pages here) → (pairs ≡ 64 → result + 31 ≡ over) → (32 ≤ pairs → pairs < 64 → result ≡ over + 1) → (pairs < 32 → result ≡ over) → result ≡ above_half pages_now
      over_now_is pairs result size split more same =
          elim (cases_lt pairs 64) [
            | inl below ↦ elim (cases_lt pairs 32) [
              | inl low ↦ omega (arith, same low, new.over_same (omega (arith, size, low)), kept.over_is)
              | inr high ↦ omega (arith, more high below, new.over_more (omega (arith, size, below)) (omega (arith, size, high)), kept.over_is)
            ]
            | inr full ↦ omega (arith, split (omega (arith, full, size, small)), new.over_split (omega (arith, full, small, size)), kept.over_is)
          ]

      pub kept_put : (pairs over_now pages_capacity_now spares_capacity_now : ℕ) → pairs ≡ length (page_at pages here) → (pairs ≡ 64 → over_now + 31 ≡ over) → (32 ≤ pairs → pairs < 64 → over_now ≡ over + 1) → (pairs < 32 → over_now ≡ over)
          → pages_capacity ≤ pages_capacity_now → spares_capacity_now ≡ spares_capacity
          → IsPaged pages_now spares_now (count + 1) (spare - 1) over_now pages_capacity_now spares_capacity_now
      kept_put pairs over_now pages_capacity_now spares_capacity_now size split more same fits kept_spares =
          subst (IsPaged pages_now spares_now (count + 1) (spare - 1) over_now pages_capacity_now) (sym kept_spares)
          (keeps.kept_put pages spares count spare over pages_capacity spares_capacity kept here place pair pages_now spares_now at.within small some_room new
          (subst (λ es. is_map pair_cmp itself es ≡ true) (sym put) (is_map-with_entry pair_cmp_total itself (pairs_of pages) pair kept.in_order))
          (ap length new.rows ∙ ap length (joined-insert pages here place pair at.within at.inside) ∙ length-insert (pairs_of pages) (place_of pages here place) pair (within_all pages here place at.within at.inside))
          over_now pages_capacity_now (over_now_is pairs over_now size split more same) fits)
