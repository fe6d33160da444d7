-- What is true of an index's pages stays so when a pair is added: the spare pages are enough.
use Rattle.std.proofs.Common.{◌≡◌, ℕ, ◌+◌, ◌-◌, ◌*◌, ◌<◌, ◌≤◌, true, List, length, inl, inr, arith}
use Rattle.std.proofs.lemmas.Bool.{cases_lt}
use Rattle.bf_base.specs.Maps.{is_map}
use Rattle.bf_heap.specs.Pages.{above_half, first_page, page_at, IsPutNew}
use Rattle.bf_heap.proofs.Kept.{first_none}
use Rattle.bf_index.specs.Pages.{pairs_of, IsPaged}
use Rattle.bf_index.specs.Pairs.{Pair, itself, pair_cmp}

module _ (pages spares : List (List Pair)) (count spare over pages_capacity spares_capacity : ℕ) (kept : IsPaged pages spares count spare over pages_capacity spares_capacity) where
  -- a full page has a spare one for its upper half, where there is room for a pair
  pub spare_page : (here : ℕ) → here < length pages → 0 < spare → 32 ≤ above_half pages → 0 < length spares
  spare_page here within some much = elim (cases_lt (length spares) spare) [
    | inl less ↦ omega (arith, kept.room less, some, much)
    | inr enough ↦ omega (arith, enough, some)
  ]

  -- a pair that is put in a page
  module _ (here place : ℕ) (pair : Pair) (pages_now spares_now : List (List Pair)) (within : here < length pages) (size : length (page_at pages here) ≤ 64) (some : 0 < spare)
      (new : IsPutNew pages spares here place pair pages_now spares_now) (in_order : is_map pair_cmp itself (pairs_of pages_now) ≡ true) (one_more : length (pairs_of pages_now) ≡ length (pairs_of pages) + 1) where
    some_now : 0 < length pages_now
    some_now = elim (cases_lt (length (page_at pages here)) 64) [
      | inl less ↦ omega (arith, (new.whole less).0, within)
      | inr full ↦ omega (arith, (new.split (omega (arith, full, size))).0, within)
    ]

    room_put : length spares_now < spare - 1 → spare - 1 + above_half pages_now + first_page pages_now ≤ 32 * length spares_now
    room_put less =
        let first = first_none pages (omega (arith, within)) in
        let first_now = first_none pages_now some_now in
        elim (cases_lt (length (page_at pages here)) 64) [
          | inl below ↦
              let whole = new.whole below in
              let room = kept.room (omega (arith, less, whole.1)) in
              elim (cases_lt (length (page_at pages here)) 32) [
                | inl low ↦ omega (arith, room, whole.1, new.over_same low, first, first_now, some)
                | inr high ↦ omega (arith, room, whole.1, new.over_more below high, first, first_now, some)
              ]
          | inr full ↦
              let split = new.split (omega (arith, full, size)) in
              let room = kept.room (omega (arith, less, split.1)) in
              omega (arith, room, split.1, new.over_split (omega (arith, full, size)), first, first_now, some)
        ]

    pub kept_put : (over_now pages_capacity_now : ℕ) → over_now ≡ above_half pages_now → pages_capacity ≤ pages_capacity_now → IsPaged pages_now spares_now (count + 1) (spare - 1) over_now pages_capacity_now spares_capacity
    kept_put over_now pages_capacity_now over_is fits =
        let all : length pages_now + length spares_now ≡ length pages + length spares = elim (cases_lt (length (page_at pages here)) 64) [
          | inl below ↦ omega (arith, (new.whole below).0, (new.whole below).1)
          | inr full ↦ omega (arith, (new.split (omega (arith, full, size))).0, (new.split (omega (arith, full, size))).1)
        ] in
        record {
          in_order = in_order;
          within = omega (arith, kept.within, one_more, some);
          counted = omega (arith, kept.counted, one_more);
          used = new.used kept.used;
          unused = new.unused;
          over_is = over_is;
          room = room_put;
          fits_pages = omega (arith, all, kept.fits_pages, fits);
          fits_spares = omega (arith, all, kept.fits_spares);
        }
