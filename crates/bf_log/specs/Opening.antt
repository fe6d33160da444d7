-- How far a log has been read.
use Rattle.std.specs.Prelude.{◌≡◌, ℕ, ◌<◌, ◌≤◌, List, [], ◌∷◌, ◌++◌, length, Some, Result, Ok, Err, ◌+◌, All, ⊤}
use Rattle.bf_disk.specs.declared.disk.Disk.{Ghosts}
use Rattle.bf_disk.specs.Images.{Only}
use Rattle.bf_log.specs.Format.{IsLog, longest_payload, frame, front, ChainFault}
use Rattle.bf_log.specs.declared.opening.Opening.{Opening}
use Rattle.bf_log.specs.declared.opening.Progress.{Progress}
use Rattle.bf_log.specs.declared.opening.Progress.TheVariants.{Reading, Ended, Broken}
use Rattle.bf_log.specs.declared.opening.Next.{Next}
use Rattle.bf_log.specs.declared.opening.Next.TheVariants.{Payload, End}
use Rattle.bf_log.specs.declared.error.OpenError.{OpenError}
use Rattle.bf_log.specs.declared.error.OpenError.TheVariants.{NotALog, DiskFault, Memory}

-- an answer that comes only after the sync succeeded: a head was read, or found to be at fault
abbrev pub CameAfterSync : Result ℕ OpenError → Type 0
CameAfterSync (Ok len) = ⊤
CameAfterSync (Err (NotALog at)) = ⊤
CameAfterSync (Err DiskFault) = ⊥
CameAfterSync (Err Memory) = ⊥

-- what was found at the gate behind these payloads, where it was read
abbrev pub Found : Progress → List (List ℕ) → List ℕ → ℕ → Type 0
Found Reading payloads file gate = ⊤
Found Ended payloads file gate = IsLog payloads file
Found Broken payloads file gate = ChainFault payloads file gate

module _ {D : Type 0} {g : Ghosts D} where
  abbrev pub disk_of : Opening D g → D
  disk_of opening = opening.disk

  -- the offset of the gate at which it stands
  abbrev pub gate_of : Opening D g → ℕ
  gate_of opening = opening.gate

  -- the length of the file, as it was found
  abbrev pub len_of : Opening D g → ℕ
  len_of opening = opening.len

  -- how many payloads it has read
  abbrev pub count_of : Opening D g → ℕ
  count_of opening = opening.count

  abbrev pub progress_of : Opening D g → Progress
  progress_of opening = opening.progress

  -- It has read these payloads of this file, of which a crash leaves each byte, and stands at the gate behind them.
  pub record HasRead (file : List ℕ) (payloads : List (List ℕ)) (opening : Opening D g) : Type 0 where
    pub told : g.seen opening.disk ≡ Some file
    pub durable : Only file (g.may_leave opening.disk)
    pub chain : List ℕ
    pub spelled : file ≡ front payloads ++ chain
    pub gate : opening.gate ≡ length (front payloads)
    pub is_there : opening.gate < length file
    pub fit : All (λ payload. length payload ≤ longest_payload) payloads
    pub count : opening.count ≡ length payloads
    pub found : Found opening.progress payloads file opening.gate

  -- what the next answer says, of a file of which these payloads were read: the next payload, that the chain ended,
  -- or where it breaks; where the device failed or there was no memory it stands where it stood
  abbrev pub ReadsNext : List ℕ → List (List ℕ) → Opening D g → Result Next OpenError → Type 0
  ReadsNext file payloads opening (Ok (Payload gate payload)) =
      (gate ≡ length (front payloads)) × HasRead file (payloads ++ payload ∷ []) opening
  ReadsNext file payloads opening (Ok End) =
      IsLog payloads file × HasRead file payloads opening
  ReadsNext file payloads opening (Err (NotALog at)) =
      ChainFault payloads file at × HasRead file payloads opening
  ReadsNext file payloads opening (Err DiskFault) = HasRead file payloads opening
  ReadsNext file payloads opening (Err Memory) = HasRead file payloads opening

  -- how far it is after an answer
  abbrev pub ProgressAfter : Opening D g → Opening D g → Result Next OpenError → Type 0
  ProgressAfter old new (Ok (Payload gate payload)) =
      (new.progress ≡ Reading) × (gate ≡ old.gate) × (new.gate ≡ old.gate + frame + length payload) × (new.count ≡ old.count + 1)
  ProgressAfter old new (Ok End) = (new.progress ≡ Ended) × (new.gate ≡ old.gate) × (new.count ≡ old.count)
  ProgressAfter old new (Err (NotALog at)) =
      (new.progress ≡ Broken) × (at ≡ old.gate) × (new.gate ≡ old.gate) × (new.count ≡ old.count)
  ProgressAfter old new (Err DiskFault) = (new.progress ≡ old.progress) × (new.gate ≡ old.gate) × (new.count ≡ old.count)
  ProgressAfter old new (Err Memory) = (new.progress ≡ old.progress) × (new.gate ≡ old.gate) × (new.count ≡ old.count)

  -- what it answers where it has come to an end already
  abbrev pub AnswersAgain : Opening D g → Opening D g → Result Next OpenError → Type 0
  AnswersAgain old new result = elim old.progress [
    | Reading ↦ ⊤
    | Ended ↦ (result ≡ Ok End) × (new ≡ old)
    | Broken ↦ (result ≡ Err (NotALog old.gate)) × (new ≡ old)
  ]
