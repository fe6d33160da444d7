-- What a heap's rows have under a key, and what a put and a removal leave, from the place in the key's page.
use Rattle.std.proofs.Common.{◌≡◌, ℕ, zero, suc, ◌+◌, ◌-◌, ◌<◌, ◌≤◌, true, false, List, [], ◌∷◌, length, get_or, set, Equal, Less, Greater, Ordering, Some, None, refl, sym, ap, ◌∙◌, inl, inr, arith, insert, option_map, IsTrue}
use Rattle.std.specs.List.{HoldsAt, remove, list_all}
use Rattle.std.specs.List.Sorted.{IsPartitionPoint, IsNonDecreasingBy}
use Rattle.std.specs.Ordering.{ordering_index, is_gt}
use Rattle.std.proofs.lemmas.Bool.{and_parts, cases_lt, false≢true}
use Rattle.std.proofs.lemmas.List.{length-append}
use Rattle.bf_base.specs.declared.value.Value.{Value}
use Rattle.bf_base.specs.Values.{key_cmp, key_cmp_total}
use Rattle.bf_base.specs.Maps.{is_map}
use Rattle.bf_base.proofs.Order.{searchable_from_rises}
use Rattle.bf_base.proofs.Maps.{IsGap, entry_at-found, entry_at-gap, with_entry-found, with_entry-gap, without_key-found, without_key-gap}
use Rattle.bf_heap.specs.Heaps.{Entry, key_of_entry, row_under, with_row, without_row}
use Rattle.bf_heap.specs.Pages.{rows_of, is_used_page, begins_behind, page_at, IsPageOf}
use Rattle.bf_heap.proofs.Flat.{place_of, in_page, within_all, below_all, joined-set, joined-insert, joined-remove, gap_between, page_rises}

greater_from_test : (r : Ordering) → is_gt r ≡ true → r ≡ Greater
greater_from_test Less e = absurd (false≢true e)
greater_from_test Equal e = absurd (false≢true e)
greater_from_test Greater e = refl

-- a page with rows that begins behind a key has a greater key first
first_behind : (key : List Value) (page : List Entry) (d : Entry) → begins_behind key page ≡ true → key_cmp (get_or page 0 d).0 key ≡ Greater
first_behind key [] d h = absurd (false≢true h)
first_behind key (e ∷ es) d h = greater_from_test _ h

begins_from_first : (key : List Value) (page : List Entry) → 0 < length page → ((d : Entry) → key_cmp (get_or page 0 d).0 key ≡ Greater) → begins_behind key page ≡ true
begins_from_first key [] some h = absurd (omega arith)
begins_from_first key (e ∷ es) some h = ap is_gt (h e)

pub some_rows : (pages : List (List Entry)) (i : ℕ) → IsTrue (list_all is_used_page pages) → i < length pages → 0 < length (get_or pages i [])
some_rows [] i h within = absurd (omega arith)
some_rows ([] ∷ ps) zero h within = absurd (false≢true (and_parts false (list_all is_used_page ps) h).0)
some_rows ((e ∷ es) ∷ ps) zero h within = omega arith
some_rows (p ∷ ps) (suc i) h within = some_rows ps i (and_parts (is_used_page p) (list_all is_used_page ps) h).1 (omega arith)

place_suc : (pages : List (List Entry)) (i j : ℕ) → i < length pages → place_of pages i (suc j) ≡ place_of pages i j + 1
place_suc [] i j within = absurd (omega arith)
place_suc (p ∷ ps) zero j within = omega arith
place_suc (p ∷ ps) (suc i) j within = omega (arith, place_suc ps i j (omega arith))

pub place_next : (pages : List (List Entry)) (i : ℕ) → suc i < length pages → place_of pages i (length (get_or pages i [])) ≡ place_of pages (suc i) 0
place_next [] i within = absurd (omega arith)
place_next (p ∷ []) i within = absurd (omega arith)
place_next (p ∷ q ∷ ps) zero within = omega arith
place_next (p ∷ q ∷ ps) (suc i) within = ap (λ n. length p + n) (place_next (q ∷ ps) i (omega arith))

pub place_end : (pages : List (List Entry)) (i : ℕ) → suc i ≡ length pages → place_of pages i (length (get_or pages i [])) ≡ length (rows_of pages)
place_end [] i last = absurd (omega arith)
place_end (p ∷ []) zero last = omega (arith, length-append p (rows_of []))
place_end (p ∷ q ∷ ps) zero last = absurd (omega arith)
place_end (p ∷ ps) (suc i) last = ap (λ n. length p + n) (place_end ps i (omega arith)) ∙ sym (length-append p (rows_of ps))

first_place : (pages : List (List Entry)) (i : ℕ) → 0 < place_of pages i 0 → 0 < i
first_place [] i some = absurd (omega arith)
first_place (p ∷ ps) zero some = absurd (omega arith)
first_place (p ∷ ps) (suc i) some = omega arith

module _ (pages : List (List Entry)) (in_order : is_map key_cmp key_of_entry (rows_of pages) ≡ true) (key : List Value) (i : ℕ) where
  -- the page's search has found the key
  module _ (within : i < length pages) (j : ℕ) (inside : j < length (page_at pages i)) (tied : HoldsAt (λ (e : Entry). key_cmp e.0 key ≡ Equal) (page_at pages i) j) where
    there : place_of pages i j < length (rows_of pages)
    there = below_all pages i j within inside

    same_key : (d : Entry) → key_cmp (get_or (rows_of pages) (place_of pages i j) d).0 key ≡ Equal
    same_key d = rw (in_page pages i j d within inside) (tied d)

    pub row_found : (d : Entry) → row_under (rows_of pages) key ≡ Some (get_or (page_at pages i) j d).1
    row_found d =
        ap (option_map (λ (e : Entry). e.1)) (entry_at-found key_cmp_total key_of_entry (rows_of pages) (place_of pages i j) key d in_order there (same_key d))
        ∙ ap (λ (e : Entry). Some e.1) (in_page pages i j d within inside)

    pub replaced : (row : List Value) → rows_of (set pages i (set (page_at pages i) j (key, row))) ≡ with_row (rows_of pages) key row
    replaced row =
        joined-set pages i j (key, row) within inside
        ∙ sym (with_entry-found key_cmp_total key_of_entry (rows_of pages) (place_of pages i j) (key, row) (key, row) in_order there (same_key (key, row)))

    pub removed : rows_of (set pages i (remove (page_at pages i) j)) ≡ without_row (rows_of pages) key
    removed =
        joined-remove pages i j within inside
        ∙ sym (without_key-found key_cmp_total key_of_entry (rows_of pages) (place_of pages i j) key (key, key) in_order there (same_key (key, key)))

  -- the page's search has found where the key goes
  module _ (used : IsTrue (list_all is_used_page pages)) (found : IsPageOf pages key i) (j : ℕ) (inside : j ≤ length (page_at pages i))
      (parted : IsNonDecreasingBy (λ (e : Entry). ordering_index (key_cmp e.0 key)) (page_at pages i) → IsPartitionPoint (λ (e : Entry). key_cmp e.0 key ≡ Less) (λ (e : Entry). key_cmp e.0 key ≡ Greater) (page_at pages i) j) where
    in_its_page : IsGap key_cmp_total key_of_entry (page_at pages i) j key
    in_its_page = parted (searchable_from_rises key_cmp_total key_of_entry (page_at pages i) key (page_rises key_cmp_total key_of_entry pages i found.within in_order))

    not_first : (n : ℕ) → n ≡ j → 0 < i → 0 < n
    not_first zero same behind_first =
        let all : (d : Entry) → key_cmp (get_or (page_at pages i) 0 d).0 key ≡ Greater = λ d. in_its_page.1 0 d (omega arith) (some_rows pages i used found.within) in
        absurd (false≢true (sym (found.begins behind_first) ∙ begins_from_first key (page_at pages i) (some_rows pages i used found.within) all))
    not_first (suc n) same behind_first = omega arith

    before_at : (n : ℕ) → n ≡ j → (d : Entry) → 0 < place_of pages i n → key_cmp (get_or (rows_of pages) (place_of pages i n - 1) d).0 key ≡ Less
    before_at zero same d some = absurd (omega (arith, not_first zero same (first_place pages i some)))
    before_at (suc n) same d some =
        let step : place_of pages i (suc n) - 1 ≡ place_of pages i n = omega (arith, place_suc pages i n found.within) in
        let at : get_or (rows_of pages) (place_of pages i (suc n) - 1) d ≡ get_or (page_at pages i) n d = ap (λ m. get_or (rows_of pages) m d) step ∙ in_page pages i n d found.within (omega (arith, inside)) in
        ap (λ (e : Entry). key_cmp e.0 key) at ∙ in_its_page.0 n d (omega arith) (omega arith)

    behind : (d : Entry) → place_of pages i j < length (rows_of pages) → key_cmp (get_or (rows_of pages) (place_of pages i j) d).0 key ≡ Greater
    behind d some = elim (cases_lt j (length (page_at pages i))) [
      | inl lt ↦ ap (λ (e : Entry). key_cmp e.0 key) (in_page pages i j d found.within lt) ∙ in_its_page.1 j d (omega arith) lt
      | inr le ↦
          let last : j ≡ length (page_at pages i) = omega (arith, le, inside) in
          elim (cases_lt (suc i) (length pages)) [
            | inl more ↦
                let plus : i + 1 ≡ suc i = omega arith in
                let begins : begins_behind key (page_at pages (suc i)) ≡ true = ap (λ m. begins_behind key (page_at pages m)) (sym plus) ∙ found.next (omega (arith, more)) in
                ap (λ m. key_cmp (get_or (rows_of pages) m d).0 key) (ap (place_of pages i) last ∙ place_next pages i more)
                ∙ ap (λ (e : Entry). key_cmp e.0 key) (in_page pages (suc i) 0 d more (some_rows pages (suc i) used more))
                ∙ first_behind key (page_at pages (suc i)) d begins
            | inr none ↦ absurd (omega (arith, some, ap (place_of pages i) last, place_end pages i (omega (arith, none, found.within))))
          ]
    ]

    gap : IsGap key_cmp_total key_of_entry (rows_of pages) (place_of pages i j) key
    gap = gap_between key_cmp_total key_of_entry (rows_of pages) (place_of pages i j) key in_order (before_at j refl) behind (within_all pages i j found.within inside)

    pub no_row : row_under (rows_of pages) key ≡ None
    no_row = ap (option_map (λ (e : Entry). e.1)) (entry_at-gap key_cmp_total key_of_entry (rows_of pages) (place_of pages i j) key gap)

    pub inserted : (row : List Value) → rows_of (set pages i (insert (page_at pages i) j (key, row))) ≡ with_row (rows_of pages) key row
    inserted row =
        joined-insert pages i j (key, row) found.within inside
        ∙ sym (with_entry-gap key_cmp_total key_of_entry (rows_of pages) (place_of pages i j) (key, row) gap)

    pub nothing_removed : rows_of pages ≡ without_row (rows_of pages) key
    nothing_removed = sym (without_key-gap key_cmp_total key_of_entry (rows_of pages) (place_of pages i j) key gap)
