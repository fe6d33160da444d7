-- How an index is kept: the pairs in pages, and pages for the room.
use Rattle.std.specs.Prelude.{◌≡◌, ℕ, ◌+◌, ◌*◌, ◌<◌, ◌≤◌, ◌^◌, Bool, true, false, List, [], ◌∷◌, length, IsTrue, slice_set}
use Rattle.std.specs.List.{list_all, insert, remove}
use Rattle.std.specs.Ordering.{is_gt}
use Rattle.bf_base.specs.declared.value.Value.{Value}
use Rattle.bf_base.specs.Maps.{is_map}
use Rattle.bf_base.specs.Values.{key_cmp}
use Rattle.bf_heap.specs.Pages.{rows_of, is_empty_page, is_used_page, above_half, first_page, page_at}
use Rattle.bf_index.specs.Pairs.{Pair, itself, pair_cmp, has_pair, with_pair, without_pair}

-- the pairs of the pages, one page behind the other
abbrev pub pairs_of : List (List Pair) → List Pair
pairs_of pages = rows_of pages

-- whether a page's first pair comes behind a pair
abbrev pub begins_behind : Pair → List Pair → Bool
begins_behind pair [] = false
begins_behind pair (first ∷ others) = is_gt (pair_cmp first pair)

-- whether a page's first pair has a greater value than this one
abbrev pub begins_above : List Value → List Pair → Bool
begins_above value [] = false
begins_above value (first ∷ others) = is_gt (key_cmp first.0 value)

-- the last page that does not begin behind a pair, or the first page
pub record IsPageOf (pages : List (List Pair)) (pair : Pair) (place : ℕ) : Type 0 where
  pub within : place < length pages
  pub begins : (0 < place) → begins_behind pair (page_at pages place) ≡ false
  pub next : place + 1 < length pages → begins_behind pair (page_at pages (place + 1)) ≡ true

-- where a pair is: the place of its page, and its place there
pub record IsPairAt (pages : List (List Pair)) (pair : Pair) (here place : ℕ) : Type 0 where
  pub within : here < length pages
  pub inside : place < length (page_at pages here)
  pub there : has_pair (pairs_of pages) pair ≡ true
  pub without : pairs_of (slice_set pages here (remove (page_at pages here) place)) ≡ without_pair (pairs_of pages) pair

-- where a pair goes that is not there: the place of its page, and its place there
pub record IsGapAt (pages : List (List Pair)) (pair : Pair) (here place : ℕ) : Type 0 where
  pub within : here < length pages
  pub inside : place ≤ length (page_at pages here)
  pub absent : has_pair (pairs_of pages) pair ≡ false
  pub with : pairs_of (slice_set pages here (insert (page_at pages here) place pair)) ≡ with_pair (pairs_of pages) pair

-- what is true of each index's pages and spare pages, as of those of a heap
pub record IsPaged (pages spares : List (List Pair)) (count spare over pages_capacity spares_capacity : ℕ) : Type 0 where
  pub in_order : IsTrue (is_map pair_cmp itself (pairs_of pages))
  pub within : length (pairs_of pages) + spare < 2 ^ 32
  pub counted : count ≡ length (pairs_of pages)
  pub used : IsTrue (list_all is_used_page pages)
  pub unused : IsTrue (list_all is_empty_page spares)
  pub over_is : over ≡ above_half pages
  -- as many further pairs take no memory
  pub room : length spares < spare → spare + above_half pages + first_page pages ≤ 32 * length spares
  pub fits_pages : length pages + length spares ≤ pages_capacity
  pub fits_spares : length pages + length spares ≤ spares_capacity
