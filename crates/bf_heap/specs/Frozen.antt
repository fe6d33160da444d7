-- A heap that is taken apart, and the positions of its pages.
use Rattle.std.specs.Prelude.{◌≡◌, ℕ, ◌+◌, true, false, nat_le, List, [], ◌∷◌, length, vec_capacity}
use Rattle.std.specs.List.Sorted.{IsPartitionPoint}
use Rattle.bf_heap.specs.declared.heap.Parts.{Parts}
use Rattle.bf_heap.specs.Heaps.{Entry, Rows}
use Rattle.bf_heap.specs.Pages.{rows_of, IsPaged}

-- the heap that has these parts
abbrev pub heap_of : Parts → Rows
heap_of parts = record { entries = rows_of parts.pages.items; spare = parts.spare }

-- what is true of the parts of each heap
abbrev pub AreKept : Parts → Type 0
AreKept parts = IsPaged parts.pages.items parts.spares.items parts.count parts.spare parts.over (vec_capacity parts.pages) (vec_capacity parts.spares)

-- the position of each page's first row, where the first page begins at this one
abbrev pub starts_from : ℕ → List (List Entry) → List ℕ
starts_from start [] = []
starts_from start (page ∷ pages) = start ∷ starts_from (start + length page) pages

-- so many pages, by their positions, begin at a position or before it, and no others
abbrev pub AreBegun : List ℕ → ℕ → ℕ → Type 0
AreBegun starts position begun = IsPartitionPoint (λ start. nat_le start position ≡ true) (λ start. nat_le start position ≡ false) starts begun
