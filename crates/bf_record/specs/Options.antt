-- What may be missing: 0, or 1 and what is there.
use Rattle.std.specs.Prelude.{ℕ, List, [], ◌∷◌, Option, Some, None}

abbrev pub IsOptional : {A : Type 0} → (A → Type 0) → Option A → Type 0
IsOptional IsPart None = Unit {0}
IsOptional IsPart (Some a) = IsPart a

abbrev pub optional_spelling : {A : Type 0} → (A → List ℕ) → Option A → List ℕ
optional_spelling part None = 0 ∷ []
optional_spelling part (Some a) = 1 ∷ part a
