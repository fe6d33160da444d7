-- Reading all of a source, and writing a whole text.
use Rattle.std.specs.Prelude.{◌≡◌, ℕ, ◌+◌, List, Option, None, Some, ⊤, take, length, ◌<◌}
use Rattle.std.specs.Io.KnownBytes.{Appends, Consumes}

-- what holds of the bytes, where they are told
abbrev pub IfTold : Option (List ℕ) → (List ℕ → Type 0) → Type 0
IfTold None P = ⊤
IfTold (Some bytes) P = P bytes

-- the source lost a prefix of what was left
abbrev pub LostPrefix : Option (List ℕ) → Option (List ℕ) → Type 0
LostPrefix old new = (read : List ℕ) × Consumes old new read

-- one byte more than the most was read
abbrev pub ReadPast : ℕ → Option (List ℕ) → Option (List ℕ) → Type 0
ReadPast most old new = (read : List ℕ) × (length read ≡ most + 1) × Consumes old new read

-- the sink took a prefix of the text, and not all of it
abbrev pub TookPrefix : Option (List ℕ) → Option (List ℕ) → List ℕ → Type 0
TookPrefix old new text = (n : ℕ) × (n < length text) × Appends old new (take n text)
