-- A log as a grammar on bytes, and the first thing that breaks it.
use Rattle.std.specs.Prelude.{◌≡◌, ◌≢◌, ◌⊎◌, ℕ, ◌+◌, ◌^◌, ◌<◌, ◌≤◌, List, [], ◌∷◌, ◌++◌, length, take, slice_get, flat_map, codes}
use Rattle.bf_disk.specs.Images.{overwritten}
use Rattle.byteorder.specs.Endian.{little_bytes, little_number}

abbrev pub magic : List ℕ
magic = codes "BFROGLG1"

-- a gate with any other byte is closed
abbrev pub open_gate : ℕ
open_gate = 0xa5

-- how many bytes a payload may have
abbrev pub longest_payload : ℕ
longest_payload = 2 ^ 30

-- how many bytes a length takes, the lowest first
abbrev pub length_bytes : ℕ
length_bytes = 4

-- how many bytes stand before a payload: its gate and its length
abbrev pub frame : ℕ
frame = 1 + length_bytes

-- an open gate, the length of the payload and the payload
abbrev pub entry : List ℕ → List ℕ
entry payload = open_gate ∷ little_bytes length_bytes (length payload) ++ payload

-- A chain of these payloads: a closed gate with anything behind it, or an open gate, a length, a payload and a chain.
abbrev pub IsChain : List (List ℕ) → List ℕ → Type 0
IsChain [] bytes = (gate : ℕ) × (behind : List ℕ) × (gate ≢ open_gate) × (bytes ≡ gate ∷ behind)
IsChain (payload ∷ payloads) bytes =
    (chain : List ℕ) × (length payload ≤ longest_payload) × (bytes ≡ entry payload ++ chain) × IsChain payloads chain

-- a file is a log of these payloads
abbrev pub IsLog : List (List ℕ) → List ℕ → Type 0
IsLog payloads file = (chain : List ℕ) × (file ≡ magic ++ chain) × IsChain payloads chain

-- the magic and an entry for each payload: what stands before the next gate
abbrev pub front : List (List ℕ) → List ℕ
front payloads = magic ++ flat_map entry payloads

-- no entry stands behind an open gate: the length, the payload or the next gate does not fit, or the length is too great
abbrev pub HasNoEntry : List ℕ → Type 0
HasNoEntry behind =
    (length behind < length_bytes) ⊎ (longest_payload < little_number length_bytes behind)
    ⊎ (length behind < length_bytes + little_number length_bytes behind + 1)

-- a chain breaks at the gate behind these payloads
abbrev pub BreaksBehind : List (List ℕ) → List ℕ → Type 0
BreaksBehind [] bytes = (behind : List ℕ) × (bytes ≡ open_gate ∷ behind) × HasNoEntry behind
BreaksBehind (payload ∷ payloads) bytes =
    (chain : List ℕ) × (length payload ≤ longest_payload) × (bytes ≡ entry payload ++ chain) × BreaksBehind payloads chain

-- a file has the magic at its front
abbrev pub HasMagic : List ℕ → Type 0
HasMagic file = take (length magic) file ≡ magic

-- the first byte that differs from the magic
pub record DiffersAt (file : List ℕ) (at : ℕ) : Type 0 where
  pub within : (at < length magic) × (at < length file)
  pub agrees : take at file ≡ take at magic
  pub differs : slice_get file at ≢ slice_get magic at

-- the file ends within the magic or right behind it, and agrees with it so far
pub record EndsAt (file : List ℕ) (at : ℕ) : Type 0 where
  pub ends : at ≡ length file
  pub short : at ≤ length magic
  pub agrees : file ≡ take at magic

-- the magic or the first gate is at fault, at this offset
abbrev pub HeadFault : List ℕ → ℕ → Type 0
HeadFault file at = DiffersAt file at ⊎ EndsAt file at

-- the chain breaks at the gate behind these payloads, at this offset
abbrev pub ChainFault : List (List ℕ) → List ℕ → ℕ → Type 0
ChainFault payloads file at =
    (chain : List ℕ) × (file ≡ magic ++ chain) × BreaksBehind payloads chain × (at ≡ length (front payloads))

-- the first thing that breaks the grammar stands at this offset
abbrev pub IsNoLog : List ℕ → ℕ → Type 0
IsNoLog file at = HeadFault file at ⊎ ((payloads : List (List ℕ)) × ChainFault payloads file at)

-- a new log
abbrev pub empty_log : List ℕ
empty_log = magic ++ 0 ∷ []

-- a file over which an entry and a closed gate are written at an offset; bytes behind these stay
abbrev pub with_entry : List ℕ → ℕ → List ℕ → List ℕ
with_entry file at payload = overwritten file at (entry payload ++ 0 ∷ [])
