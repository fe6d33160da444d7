-- What stands on a disk while a record is stored behind the closed gate of a log.
use Rattle.std.specs.Prelude.{◌⊎◌, ℕ, ◌+◌, List, [], ◌∷◌, ◌++◌, length}
use Rattle.byteorder.specs.Endian.{little_bytes}
use Rattle.bf_disk.specs.Images.{overwritten, Torn}
use Rattle.bf_log.specs.Format.{length_bytes, open_gate}

-- what is written behind the closed gate: the length of the payload, the payload, and a closed gate
abbrev pub record_of : List ℕ → List ℕ
record_of payload = little_bytes length_bytes (length payload) ++ payload ++ 0 ∷ []

-- with a record behind the gate
abbrev pub behind_gate : List ℕ → ℕ → List ℕ → List ℕ
behind_gate file gate bytes = overwritten file (gate + 1) bytes

-- with the gate opened too
abbrev pub opened : List ℕ → ℕ → List ℕ → List ℕ
opened file gate bytes = overwritten (behind_gate file gate bytes) gate (open_gate ∷ [])

-- a crash leaves the file with something in the place of the record, or with the record and something in the gate
abbrev pub IsBeingStored : List ℕ → ℕ → List ℕ → List ℕ → Type 0
IsBeingStored file gate bytes image =
    Torn (gate + 1) (length bytes) file image ⊎ Torn gate 1 (behind_gate file gate bytes) image
