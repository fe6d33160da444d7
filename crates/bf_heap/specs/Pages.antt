-- How a heap is kept: the rows in pages, and pages for the room.
use Rattle.std.specs.Prelude.{◌≡◌, ℕ, ℤ, negsuc, ◌+◌, ◌-◌, ◌*◌, ◌<◌, ◌≤◌, Bool, true, false, nat_lt, List, [], ◌∷◌, length, IsTrue, slice_index_or, slice_set}
use Rattle.std.specs.List.{flat_map, list_all, insert, remove, HoldsAt}
use Rattle.std.specs.declared.cmp.Ordering.TheVariants.{Equal}
use Rattle.std.specs.Ordering.{is_gt}
use Rattle.bf_base.specs.declared.value.Value.{Value}
use Rattle.bf_base.specs.Values.{key_cmp, rank_of}
use Rattle.bf_heap.specs.Heaps.{Entry, IsHeap}

-- the rows of the pages, one page behind the other
abbrev pub rows_of : List (List Entry) → List Entry
rows_of pages = flat_map (λ page. page) pages

abbrev pub is_empty_page : List Entry → Bool
is_empty_page [] = true
is_empty_page (e ∷ es) = false

-- whether a page has 1 to 64 rows
abbrev pub is_used_page : List Entry → Bool
is_used_page [] = false
is_used_page (e ∷ es) = nat_lt (length es) 64

-- the rank of a page's first key
abbrev pub rank_of_page : List Entry → ℤ
rank_of_page [] = negsuc 9223372036854775807
rank_of_page (e ∷ es) = rank_of e.0

-- whether a page's first key is greater than a key
abbrev pub begins_behind : List Value → List Entry → Bool
begins_behind key [] = false
begins_behind key (e ∷ es) = is_gt (key_cmp e.0 key)

-- whether a page's last key passes a test; a page without rows does
abbrev pub ends_with : (List Value → Bool) → List Entry → Bool
ends_with test [] = true
ends_with test (e ∷ []) = test e.0
ends_with test (e ∷ f ∷ es) = ends_with test (f ∷ es)

-- the sum over all pages of the rows above half a page
abbrev pub above_half : List (List Entry) → ℕ
above_half [] = 0
above_half (page ∷ pages) = (length page - 32) + above_half pages

-- a whole half where there is no page yet
abbrev pub first_page : List (List Entry) → ℕ
first_page [] = 32
first_page (page ∷ pages) = 0

-- a page, by its place
abbrev pub page_at : List (List Entry) → ℕ → List Entry
page_at pages place = slice_index_or pages place []

-- what is ahead of a place in a page, the pages behind it, and what counts of one last page: without rows only where nothing is behind
pub record IsAhead (rows : List Entry) (pages : List (List Entry)) (last : List Entry) : Type 0 where
  pub used : IsTrue (list_all is_used_page pages)
  pub none : rows ≡ [] → (pages ≡ []) × (last ≡ [])

-- the last page that does not begin behind a key, or the first page
pub record IsPageOf (pages : List (List Entry)) (key : List Value) (place : ℕ) : Type 0 where
  pub within : place < length pages
  pub begins : (0 < place) → begins_behind key (page_at pages place) ≡ false
  pub next : place + 1 < length pages → begins_behind key (page_at pages (place + 1)) ≡ true

-- where the row under a key is: the place of its page, and its place there
pub record IsRowOf (pages : List (List Entry)) (key : List Value) (here place : ℕ) : Type 0 where
  pub within : here < length pages
  pub inside : place < length (page_at pages here)
  pub tied : HoldsAt (λ (entry : Entry). key_cmp entry.0 key ≡ Equal) (page_at pages here) place

-- what is true of each heap's pages and spare pages
pub record IsPaged (pages spares : List (List Entry)) (count spare over pages_capacity spares_capacity : ℕ) : Type 0 where
  pub rows : IsHeap (record { entries = rows_of pages; spare = spare })
  pub counted : count ≡ length (rows_of pages)
  pub used : IsTrue (list_all is_used_page pages)
  pub unused : IsTrue (list_all is_empty_page spares)
  pub over_is : over ≡ above_half pages
  -- as many further rows take no memory: 32 F ≥ min (32 s) (s + E + 32 z)
  pub room : length spares < spare → spare + above_half pages + first_page pages ≤ 32 * length spares
  pub fits_pages : length pages + length spares ≤ pages_capacity
  pub fits_spares : length pages + length spares ≤ spares_capacity

-- an entry was put in a place of a page, which was split first where it was full
pub record IsPutNew (pages spares : List (List Entry)) (here place : ℕ) (entry : Entry) (pages_now spares_now : List (List Entry)) : Type 0 where
  pub rows : rows_of pages_now ≡ rows_of (slice_set pages here (insert (page_at pages here) place entry))
  pub used : IsTrue (list_all is_used_page pages) → IsTrue (list_all is_used_page pages_now)
  pub unused : IsTrue (list_all is_empty_page spares_now)
  pub over_split : length (page_at pages here) ≡ 64 → above_half pages_now + 31 ≡ above_half pages
  pub over_more : length (page_at pages here) < 64 → 32 ≤ length (page_at pages here) → above_half pages_now ≡ above_half pages + 1
  pub over_same : length (page_at pages here) < 32 → above_half pages_now ≡ above_half pages
  pub split : length (page_at pages here) ≡ 64 → (length pages_now ≡ length pages + 1) × (length spares_now + 1 ≡ length spares)
  pub whole : length (page_at pages here) < 64 → (length pages_now ≡ length pages) × (length spares_now ≡ length spares)

-- a row was taken out of its place in a page, and the page became a spare one where it was the last row
pub record IsTakenOut (pages spares : List (List Entry)) (here place : ℕ) (pages_now spares_now : List (List Entry)) : Type 0 where
  pub rows : rows_of pages_now ≡ rows_of (slice_set pages here (remove (page_at pages here) place))
  pub used : IsTrue (list_all is_used_page pages) → IsTrue (list_all is_used_page pages_now)
  pub unused : IsTrue (list_all is_empty_page spares) → IsTrue (list_all is_empty_page spares_now)
  pub over : above_half pages_now + (length (page_at pages here) - 32) ≡ above_half pages + (length (page_at pages here) - 33)
  pub all : length pages_now + length spares_now ≡ length pages + length spares
  pub more_spares : length spares ≤ length spares_now
  pub left : length (page_at pages here) ≡ 1 → length spares_now ≡ length spares + 1
  pub stays : 1 < length (page_at pages here) → length pages_now ≡ length pages
