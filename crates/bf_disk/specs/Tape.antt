-- A disk that keeps every call, and what follows from them.
use Rattle.std.specs.Prelude.{◌≡◌, ℕ, ◌+◌, ◌%◌, ◌≤◌, ◌==◌, ◌||◌, nat_lt, Bool, true, false, if◌then◌else◌, Option, None, Some, unwrap_or, List, [], ◌∷◌, ◌++◌, length, take, drop, map, replicate, count_by, slice_get, Result, Ok, Err}
use Rattle.std.specs.List.{list_any}
use Rattle.std.specs.Option.{option_map_or}
use Rattle.bf_disk.specs.declared.error.DiskError.{DiskError}
use Rattle.bf_disk.specs.declared.error.DiskError.TheVariants.{Fault, Memory}
use Rattle.bf_disk.specs.Images.{overwritten, Torn, CutShort}
use Rattle.bf_disk.specs.declared.call.Act.{Act}
use Rattle.bf_disk.specs.declared.call.Act.TheVariants.{Look, Write, Cut, Sync}
use Rattle.bf_disk.specs.declared.call.Call.{Call}

-- what the file was at first, every call since, and which calls fail: those with these numbers, and where a last
-- number is given all behind it
pub record Tape : Type 0 where
  pub start : List ℕ
  pub calls : List Call
  pub failing : List ℕ
  pub last : Option ℕ

abbrev pub new_tape : List ℕ → List ℕ → Option ℕ → Tape
new_tape start failing last = record { start = start; calls = []; failing = failing; last = last }

-- whether the next call fails; calls are numbered from 1
abbrev pub next_fails : Tape → Bool
next_fails tape =
    let number = length tape.calls + 1 in
    list_any (λ n. n == number) tape.failing || option_map_or (λ last. nat_lt last number) tape.last false

-- with one more call of this act, which fails or not
abbrev pub after_act : Tape → Act → Tape
after_act tape act = record tape { calls = tape.calls ++ record { act = act; failed = next_fails tape } ∷ [] }

-- what an answer says of a tape: it fails exactly where it is told to and keeps the call, or there was no memory and
-- it is as it was
abbrev pub Keeps : {T : Type 0} → Act → Tape → Tape → Result T DiskError → Type 0
Keeps act old new (Ok value) = (next_fails old ≡ false) × (new ≡ after_act old act)
Keeps act old new (Err Fault) = (next_fails old ≡ true) × (new ≡ after_act old act)
Keeps act old new (Err Memory) = new ≡ old

-- the file after an act that did not fail
abbrev pub file_after_act : List ℕ → Act → List ℕ
file_after_act file Look = file
file_after_act file (Write at bytes) = overwritten file at bytes
file_after_act file (Cut len) = take len file
file_after_act file Sync = file

-- the file as it reads after a call: one that failed did nothing to it
abbrev pub file_after : List ℕ → Call → List ℕ
file_after file call = if call.failed then file else file_after_act file call.act

-- what a crash may leave after an act, of a file as it reads and what a crash might have left before: a write and
-- a cut are pending, whether they failed or not, until a sync succeeds
abbrev pub left_after : Bool → Act → List ℕ → (List ℕ → Type 0) → List ℕ → Type 0
left_after failed Look file images image = images image
left_after failed (Write at bytes) file images image = (old : List ℕ) × images old × Torn at (length bytes) old image
left_after failed (Cut len) file images image = (old : List ℕ) × images old × CutShort len old image
left_after true Sync file images image = images image
left_after false Sync file images image = image ≡ file

-- the same after these calls, in order
abbrev pub left_after_all : List ℕ → (List ℕ → Type 0) → List Call → List ℕ → Type 0
left_after_all file images [] image = images image
left_after_all file images (call ∷ calls) image =
    left_after_all (file_after file call) (left_after call.failed call.act file images) calls image

abbrev pub file_after_all : List ℕ → List Call → List ℕ
file_after_all file [] = file
file_after_all file (call ∷ calls) = file_after_all (file_after file call) calls

-- the file as it reads
abbrev pub file_of : Tape → List ℕ
file_of tape = file_after_all tape.start tape.calls

-- a crash now may leave this; at first nothing is pending
abbrev pub MayLeave : Tape → List ℕ → Type 0
MayLeave tape image = left_after_all tape.start (λ old. old ≡ tape.start) tape.calls image

-- the tape as it was after so many calls
abbrev pub at_call : Tape → ℕ → Tape
at_call tape count = record tape { calls = take count tape.calls }

-- a crash after so many calls, or at some moment from there on, might have left this
abbrev pub LeftSince : Tape → ℕ → List ℕ → Type 0
LeftSince tape since image =
    (count : ℕ) × (since ≤ count) × (count ≤ length tape.calls) × MayLeave (at_call tape count) image

-- how many of the calls failed
abbrev pub faults_of : Tape → ℕ
faults_of tape = count_by (λ call. call.failed) tape.calls

-- so many bytes that are pending
abbrev pub pending : ℕ → List (Option ℕ)
pending n = replicate n None

-- The bytes of a file after an act: each that a crash leaves for certain, and None for one that is pending.
abbrev pub certain_after : Bool → Act → List ℕ → List (Option ℕ) → List (Option ℕ)
certain_after failed Look file certain = certain
certain_after failed (Write at bytes) file certain =
    take at certain ++ pending (length bytes) ++ drop (at + length bytes) certain
certain_after true (Cut len) file certain = certain
certain_after false (Cut len) file certain = take len certain
certain_after true Sync file certain = certain
certain_after false Sync file certain = map Some file

abbrev pub certain_after_all : List ℕ → List (Option ℕ) → List Call → List (Option ℕ)
certain_after_all file certain [] = certain
certain_after_all file certain (call ∷ calls) =
    certain_after_all (file_after file call) (certain_after call.failed call.act file certain) calls

abbrev pub certain_of : Tape → List (Option ℕ)
certain_of tape = certain_after_all tape.start (map Some tape.start) tape.calls

-- each pending byte is the next of `torn`, which begins again at its front where it is used up; 0 where it is empty
abbrev pub torn_from : List ℕ → ℕ → List (Option ℕ) → List ℕ
torn_from torn next [] = []
torn_from torn next (Some byte ∷ rest) = byte ∷ torn_from torn next rest
torn_from torn next (None ∷ rest) = unwrap_or (slice_get torn (next % length torn)) 0 ∷ torn_from torn (next + 1) rest

-- what a crash leaves that tears the pending bytes so
abbrev pub torn_image : Tape → List ℕ → List ℕ
torn_image tape torn = torn_from torn 0 (certain_of tape)
