-- Positions in words, and lists of positions, in which order plays no part.
use Rattle.std.specs.Prelude.{ℕ, ◌+◌, ◌/◌, ◌<◌, ◌≤◌, ◌==◌, List, [], ◌∷◌, if◌then◌else◌}

-- how many granules a word has
abbrev pub granules_per_word : ℕ
granules_per_word = 32

-- in which word a position lies
abbrev pub word_of : ℕ → ℕ
word_of p = p / granules_per_word

-- how often a position stands in a list
abbrev pub times : ℕ → List ℕ → ℕ
times p [] = 0
times p (x ∷ xs) = (if p == x then 1 else 0) + times p xs

abbrev pub Has : List ℕ → ℕ → Type 0
Has xs p = 0 < times p xs

-- no position stands twice
abbrev pub IsDistinct : List ℕ → Type 0
IsDistinct xs = (p : ℕ) → times p xs ≤ 1

-- the list without the first place in which a position stands
abbrev pub without : ℕ → List ℕ → List ℕ
without p [] = []
without p (x ∷ xs) = if p == x then xs else x ∷ without p xs

-- the positions lie in so many words
abbrev pub IsWithin : ℕ → List ℕ → Type 0
IsWithin words xs = (p : ℕ) → Has xs p → word_of p < words
