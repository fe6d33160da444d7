-- What is told of a file, where it is told.
use Rattle.std.specs.Prelude.{ℕ, List, Option, None, Some, ⊤}

-- a relation of two files that are both told; a file is told as long as it was
abbrev pub WhereTold : (List ℕ → List ℕ → Type 0) → Option (List ℕ) → Option (List ℕ) → Type 0
WhereTold R None None = ⊤
WhereTold R (Some old) (Some new) = R old new
WhereTold R None (Some new) = ⊥
WhereTold R (Some old) None = ⊥
