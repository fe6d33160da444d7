-- The row at a position, by the pages from one on.
use Rattle.std.proofs.Common.{◌≡◌, ℕ, zero, suc, ◌+◌, ◌-◌, ◌<◌, ◌≤◌, List, [], ◌∷◌, ◌++◌, length, get_or, drop, Some, ap, ◌∙◌, arith, slice_get}
use Rattle.std.proofs.lemmas.List.{length-append, get_or_append_left, drop_more}
use Rattle.std.proofs.lemmas.Option.{slice_get-get_or}
use Rattle.bf_heap.specs.Heaps.{Entry}
use Rattle.bf_heap.specs.Pages.{rows_of}

get_left : (p rest : List Entry) (k : ℕ) (d : Entry) → k < length p → slice_get (p ++ rest) k ≡ Some (get_or p k d)
get_left p rest k d within = slice_get-get_or (p ++ rest) k d (omega (arith, length-append p rest, within)) ∙ ap Some (get_or_append_left p rest d k within)

get_right : (p rest : List Entry) (k : ℕ) → length p ≤ k → slice_get (p ++ rest) k ≡ slice_get rest (k - length p)
get_right [] rest k past = let same : k ≡ k - 0 = omega arith in ap (slice_get rest) same
get_right (x ∷ p) rest zero past = absurd (omega arith)
get_right (x ∷ p) rest (suc k) past = let same : k - length p ≡ suc k - length (x ∷ p) = omega arith in get_right p rest k (omega (arith, past)) ∙ ap (slice_get rest) same

next_page : (pages : List (List Entry)) (i : ℕ) → i < length pages → rows_of (drop i pages) ≡ get_or pages i [] ++ rows_of (drop (i + 1) pages)
next_page pages i within = ap rows_of (drop_more pages i [] within)

pub in_this : (pages : List (List Entry)) (i left : ℕ) (d : Entry) → i < length pages → left < length (get_or pages i []) → slice_get (rows_of (drop i pages)) left ≡ Some (get_or (get_or pages i []) left d)
in_this pages i left d within inside = ap (λ rows. slice_get rows left) (next_page pages i within) ∙ get_left (get_or pages i []) (rows_of (drop (i + 1) pages)) left d inside

pub in_next : (pages : List (List Entry)) (i left : ℕ) → i < length pages → length (get_or pages i []) ≤ left → slice_get (rows_of (drop i pages)) left ≡ slice_get (rows_of (drop (i + 1) pages)) (left - length (get_or pages i []))
in_next pages i left within past = ap (λ rows. slice_get rows left) (next_page pages i within) ∙ get_right (get_or pages i []) (rows_of (drop (i + 1) pages)) left past
