-- What a heap shows of a put and of a removal at the place that the searches give.
use Rattle.std.proofs.Common.{◌≡◌, ℕ, ◌+◌, ◌-◌, ◌*◌, ◌<◌, ◌≤◌, ◌⊎◌, true, List, [], length, get_or, set, Equal, Less, Greater, Some, None, is_some, refl, sym, ap, ◌∙◌, subst, inl, inr, arith, IsTrue}
use Rattle.std.specs.List.{HoldsAt}
use Rattle.std.specs.List.Sorted.{IsPartitionPoint, IsNonDecreasingBy}
use Rattle.std.specs.Ordering.{ordering_index}
use Rattle.std.proofs.lemmas.Bool.{false≢true, cases_lt}
use Rattle.std.proofs.lemmas.List.{get_or_default, length-set}
use Rattle.std.proofs.lemmas.List.Edits.{length-insert, length-remove}
use Rattle.bf_base.specs.declared.value.Value.{Value}
use Rattle.bf_base.specs.Values.{key_cmp, key_cmp_total}
use Rattle.bf_base.specs.Maps.{is_map}
use Rattle.bf_base.proofs.Maps.{is_map-with_entry, is_map-without_key}
use Rattle.bf_heap.specs.Heaps.{Entry, Rows, key_of_entry, row_under, has_row, with_row, without_row, spare_after}
use Rattle.bf_heap.specs.Pages.{rows_of, above_half, first_page, page_at, IsPageOf, IsPaged, IsPutNew, IsTakenOut}
use Rattle.bf_heap.proofs.Flat.{place_of, joined-set, joined-insert, joined-remove, within_all, below_all}
use Rattle.bf_heap.proofs.Takes.{room_kept}
use Rattle.bf_heap.proofs.Counts.{over-set, used-set, page_within}
use Rattle.bf_heap.proofs.Places as places
use Rattle.bf_heap.proofs.Kept as keeps

-- a put of a key that is there leaves the room
left_for : (heap : Rows) (key row : List Value) → row_under heap.entries key ≡ Some row → heap.spare ≡ spare_after heap key
left_for heap key row found = rw found refl

-- a put of a new key takes one of it
taken_for : (heap : Rows) (key : List Value) (spare : ℕ) → row_under heap.entries key ≡ None → spare ≡ heap.spare - 1 → spare ≡ spare_after heap key
taken_for heap key spare none one_less = rw none one_less

-- where a key is there or there is room, there is room for a new key
room_for : (heap : Rows) (key : List Value) → IsTrue (has_row heap.entries key) ⊎ (0 < heap.spare) → row_under heap.entries key ≡ None → 0 < heap.spare
room_for heap key (inl found) none = absurd (false≢true (sym (ap is_some none) ∙ found))
room_for heap key (inr room) none = room

module _ (pages spares : List (List Entry)) (count spare over pages_capacity spares_capacity : ℕ) (kept : IsPaged pages spares count spare over pages_capacity spares_capacity)
    (heap : Rows) (view_is : record { entries = rows_of pages; spare = spare } ≡ heap)
    (shown : List (List Entry)) (shown_is : shown ≡ pages) (key : List Value) (here : ℕ) (of_shown : IsPageOf shown key here) (page : List Entry) (read : page ≡ get_or pages here page) where
  of : IsPageOf pages key here
  of = subst (λ (ps : List (List Entry)). IsPageOf ps key here) shown_is of_shown

  page_is : page ≡ page_at pages here
  page_is = read ∙ get_or_default pages here page [] of.within

  -- the page, when it is read again to be written
  pub now_page : (again : List Entry) → again ≡ get_or pages here again → again ≡ page_at pages here
  now_page again read_again = read_again ∙ get_or_default pages here again [] of.within

  entries_are : rows_of pages ≡ heap.entries
  entries_are = ap (λ (h : Rows). h.entries) view_is

  module _ (place : ℕ) (inside_page : place < length page) (tied_page : HoldsAt (λ (e : Entry). key_cmp e.0 key ≡ Equal) page place) where
    inside : place < length (page_at pages here)
    inside = subst (λ (p : List Entry). place < length p) page_is inside_page

    tied : HoldsAt (λ (e : Entry). key_cmp e.0 key ≡ Equal) (page_at pages here) place
    tied = subst (λ (p : List Entry). HoldsAt (λ (e : Entry). key_cmp e.0 key ≡ Equal) p place) page_is tied_page

    pub row_found : (d : Entry) → row_under heap.entries key ≡ Some (get_or (page_at pages here) place d).1
    row_found d = ap (λ rows. row_under rows key) (sym entries_are) ∙ places.row_found pages kept.rows.in_order key here of.within place inside tied d

    pub spare_left : spare ≡ spare_after heap key
    spare_left = ap (λ (h : Rows). h.spare) view_is ∙ left_for heap key _ (row_found ([], []))

    module _ (row : List Value) (page_now : List Entry) (written : page_now ≡ set (page_at pages here) place (key, row)) where
      pages_are : set pages here page_now ≡ set pages here (set (page_at pages here) place (key, row))
      pages_are = ap (set pages here) written

      replaced : rows_of (set pages here page_now) ≡ with_row (rows_of pages) key row
      replaced = ap rows_of pages_are ∙ places.replaced pages kept.rows.in_order key here of.within place inside tied row

      pub entries_replaced : rows_of (set pages here page_now) ≡ with_row heap.entries key row
      entries_replaced = replaced ∙ ap (λ rows. with_row rows key row) entries_are

      pub kept_replaced : IsPaged (set pages here page_now) spares count spare over pages_capacity spares_capacity
      kept_replaced =
          let size : length page_now ≡ length (page_at pages here) = ap length written ∙ length-set (page_at pages here) place (key, row) in
          let rows : length (rows_of (set pages here page_now)) ≡ length (rows_of pages) = ap (λ ps. length (rows_of ps)) pages_are ∙ ap length (joined-set pages here place (key, row) of.within inside) ∙ length-set (rows_of pages) (place_of pages here place) (key, row) in
          let same : above_half (set pages here page_now) ≡ above_half pages = omega (arith, over-set pages here page_now of.within, size) in
          let many : length (set pages here page_now) ≡ length pages = length-set pages here page_now in
          record {
            rows = record { in_order = subst (λ es. is_map key_cmp key_of_entry es ≡ true) (sym replaced) (is_map-with_entry key_cmp_total key_of_entry (rows_of pages) (key, row) kept.rows.in_order); within = omega (arith, rows, kept.rows.within) };
            counted = kept.counted ∙ sym rows;
            used = used-set pages here page_now (omega (arith, size, inside)) (omega (arith, size, page_within pages here kept.used of.within)) kept.used;
            unused = kept.unused;
            over_is = kept.over_is ∙ sym same;
            room = λ less. omega (arith, kept.room less, same, keeps.first_none pages (omega (arith, of.within)), keeps.first_none (set pages here page_now) (omega (arith, many, of.within)));
            fits_pages = omega (arith, many, kept.fits_pages);
            fits_spares = omega (arith, many, kept.fits_spares);
          }

    pub place_there : place < length (page_at pages here)
    place_there = inside

    pub over_there : 32 < length page → 0 < over
    over_there many = omega (arith, many, ap length page_is, over-set pages here [] of.within, kept.over_is)

    module _ (pages_now spares_now : List (List Entry)) (out : IsTakenOut pages spares here place pages_now spares_now) where
      taken : rows_of pages_now ≡ without_row (rows_of pages) key
      taken = out.rows ∙ places.removed pages kept.rows.in_order key here of.within place inside tied

      pub entries_taken : rows_of pages_now ≡ without_row heap.entries key
      entries_taken = taken ∙ ap (λ rows. without_row rows key) entries_are

      one_less : length (rows_of pages_now) + 1 ≡ length (rows_of pages)
      one_less = ap (λ (rows : List Entry). length rows + 1) (out.rows ∙ joined-remove pages here place of.within inside) ∙ length-remove (rows_of pages) (place_of pages here place) (below_all pages here place of.within inside)

      pub some_row : 1 ≤ count
      some_row = omega (arith, one_less, kept.counted)

      pub kept_taken : (rows over_now first spare_now pages_capacity_now spares_capacity_now : ℕ) → rows ≡ length page → over_now + (rows - 32) ≡ over + (rows - 33) → first ≡ first_page pages_now
          → spare ≤ spare_now → spare_now ≤ spare + 1 → (spare < spare_now → length spares_now < spare_now → spare_now + (over_now + first) ≤ 32 * length spares_now)
          → pages_capacity_now ≡ pages_capacity → spares_capacity ≤ spares_capacity_now
          → IsPaged pages_now spares_now (count - 1) spare_now over_now pages_capacity_now spares_capacity_now
      kept_taken rows over_now first spare_now pages_capacity_now spares_capacity_now counted fewer first_is least most raised same fits =
          let over_is : over_now ≡ above_half pages_now = omega (arith, fewer, counted, ap length page_is, kept.over_is, out.over) in
          record {
            rows = record { in_order = subst (λ es. is_map key_cmp key_of_entry es ≡ true) (sym taken) (is_map-without_key key_cmp_total key_of_entry (rows_of pages) key kept.rows.in_order); within = omega (arith, one_less, kept.rows.within, most) };
            counted = omega (arith, kept.counted, one_less);
            used = out.used kept.used;
            unused = out.unused kept.unused;
            over_is = over_is;
            room = room_kept pages spares pages_now spares_now here place spare spare_now kept.room of.within (omega (arith, inside)) out most (λ a b. omega (arith, raised a b, over_is, first_is));
            fits_pages = omega (arith, out.all, kept.fits_pages, same);
            fits_spares = omega (arith, out.all, kept.fits_spares, fits);
          }

  module _ (place : ℕ) (inside_page : place ≤ length page)
      (parted_page : IsNonDecreasingBy (λ (e : Entry). ordering_index (key_cmp e.0 key)) page → IsPartitionPoint (λ (e : Entry). key_cmp e.0 key ≡ Less) (λ (e : Entry). key_cmp e.0 key ≡ Greater) page place) where
    inside_gap : place ≤ length (page_at pages here)
    inside_gap = subst (λ (p : List Entry). place ≤ length p) page_is inside_page

    parted : IsNonDecreasingBy (λ (e : Entry). ordering_index (key_cmp e.0 key)) (page_at pages here) → IsPartitionPoint (λ (e : Entry). key_cmp e.0 key ≡ Less) (λ (e : Entry). key_cmp e.0 key ≡ Greater) (page_at pages here) place
    parted = subst (λ (p : List Entry). IsNonDecreasingBy (λ (e : Entry). ordering_index (key_cmp e.0 key)) p → IsPartitionPoint (λ (e : Entry). key_cmp e.0 key ≡ Less) (λ (e : Entry). key_cmp e.0 key ≡ Greater) p place) page_is parted_page

    pub no_row : row_under heap.entries key ≡ None
    no_row = ap (λ rows. row_under rows key) (sym entries_are) ∙ places.no_row pages kept.rows.in_order key here kept.used of place inside_gap parted

    pub nothing_taken : heap.entries ≡ without_row heap.entries key
    nothing_taken = subst (λ es. es ≡ without_row es key) entries_are (places.nothing_removed pages kept.rows.in_order key here kept.used of place inside_gap parted)

    pub room_there : IsTrue (has_row heap.entries key) ⊎ (0 < heap.spare) → 0 < spare
    room_there there = subst (λ (h : Rows). 0 < h.spare) (sym view_is) (room_for heap key there no_row)

    pub page_there : IsTrue (has_row heap.entries key) ⊎ (0 < heap.spare) → length (page_at pages here) ≡ 64 → 0 < length spares
    page_there there full = keeps.spare_page pages spares count spare over pages_capacity spares_capacity kept here of.within (room_there there) (omega (arith, over-set pages here [] of.within, full))

    pub spare_taken : spare - 1 ≡ spare_after heap key
    spare_taken = taken_for heap key (spare - 1) no_row (ap (λ (h : Rows). h.spare - 1) view_is)

    module _ (row : List Value) (pages_now spares_now : List (List Entry)) (new : IsPutNew pages spares here place (key, row) pages_now spares_now) where
      put : rows_of pages_now ≡ with_row (rows_of pages) key row
      put = new.rows ∙ places.inserted pages kept.rows.in_order key here kept.used of place inside_gap parted row

      pub entries_put : rows_of pages_now ≡ with_row heap.entries key row
      entries_put = put ∙ ap (λ rows. with_row rows key row) entries_are

      pub kept_put : IsTrue (has_row heap.entries key) ⊎ (0 < heap.spare) → length page ≤ 64 → (over_now pages_capacity_now spares_capacity_now : ℕ) → over_now ≡ above_half pages_now → pages_capacity ≤ pages_capacity_now → spares_capacity_now ≡ spares_capacity
          → IsPaged pages_now spares_now (count + 1) (spare - 1) over_now pages_capacity_now spares_capacity_now
      kept_put there small over_now pages_capacity_now spares_capacity_now over_is fits same =
          subst (IsPaged pages_now spares_now (count + 1) (spare - 1) over_now pages_capacity_now) (sym same)
          (keeps.kept_put pages spares count spare over pages_capacity spares_capacity kept here place (key, row) pages_now spares_now of.within (omega (arith, ap length page_is, small)) (room_there there) new
          (subst (λ es. is_map key_cmp key_of_entry es ≡ true) (sym put) (is_map-with_entry key_cmp_total key_of_entry (rows_of pages) (key, row) kept.rows.in_order))
          (ap length new.rows ∙ ap length (joined-insert pages here place (key, row) of.within inside_gap) ∙ length-insert (rows_of pages) (place_of pages here place) (key, row) (within_all pages here place of.within inside_gap))
          over_now pages_capacity_now over_is fits)

      -- the rows above half a page, by the number of rows that the page had
      pub over_now : (rows result : ℕ) → rows ≡ length page → length page ≤ 64 → (rows ≡ 64 → result + 31 ≡ over) → (32 ≤ rows → rows < 64 → result ≡ over + 1) → (rows < 32 → result ≡ over) → result ≡ above_half pages_now
      over_now rows result counted small split more same =
          let size : rows ≡ length (page_at pages here) = counted ∙ ap length page_is in
          elim (cases_lt rows 64) [
            | inl below ↦ elim (cases_lt rows 32) [
              | inl low ↦ omega (arith, same low, new.over_same (omega (arith, size, low)), kept.over_is)
              | inr high ↦ omega (arith, more high below, new.over_more (omega (arith, size, below)) (omega (arith, size, high)), kept.over_is)
            ]
            | inr full ↦ omega (arith, split (omega (arith, full, counted, small)), new.over_split (omega (arith, full, counted, small, size)), kept.over_is)
          ]
