-- What readers and writers of fields answer, over the values that have a spelling and the spelling of each.
use Rattle.std.specs.Prelude.{◌≡◌, ◌≢◌, ℕ, List, ◌++◌, length, drop, Option, Some, None}

-- bytes are still the front of those that came of them
abbrev pub KeepsFront : List ℕ → List ℕ → Type 0
KeepsFront old new = (rest : List ℕ) × (new ≡ old ++ rest)

module _ {A : Type 0} (HasSpelling : A → Type 0) (spelling : A → List ℕ) where
  -- the bytes begin with the spelling of a value, which takes so many of them
  pub record BeginWith (bytes : List ℕ) (a : A) (n : ℕ) : Type 0 where
    pub has_spelling : HasSpelling a
    pub taken : n ≡ length (spelling a)
    pub front : bytes ≡ spelling a ++ drop n bytes

  -- what a reader answers: the value whose spelling is a front of the bytes, and its length; nothing, where no front is a spelling
  abbrev pub IsTakenFrom : List ℕ → Option (A × ℕ) → Type 0
  IsTakenFrom bytes (Some found) = BeginWith bytes found.0 found.1
  IsTakenFrom bytes None = (a : A) (rest : List ℕ) → HasSpelling a → bytes ≢ spelling a ++ rest

  -- each value has one spelling of its own, and no spelling is a proper prefix of another
  abbrev pub AreApart : Type 0
  AreApart = (a b : A) (xs ys : List ℕ) → HasSpelling a → HasSpelling b → spelling a ++ xs ≡ spelling b ++ ys → a ≡ b
