-- A log that is open, and what an append makes of it.
use Rattle.std.specs.Prelude.{◌≡◌, ◌≢◌, ◌⊎◌, ℕ, ◌+◌, nat_lt, if◌then◌else◌, List, length, Option, None, Some, Result, Ok, Err}
use Rattle.bf_disk.specs.declared.disk.Disk.{Ghosts}
use Rattle.bf_disk.specs.Images.{Only}
use Rattle.bf_log.specs.Format.{IsLog, frame, front}
use Rattle.bf_log.specs.declared.error.AppendError.{AppendError}
use Rattle.bf_log.specs.declared.error.AppendError.TheVariants.{Halted, TooLarge, LogFull, DiskFault, Memory}
use Rattle.bf_log.specs.declared.log.Log.{Log}
use Rattle.bf_log.specs.declared.log.Standing.{Standing}
use Rattle.bf_log.specs.declared.log.Standing.TheVariants.{Ready, Halted as Stopped, Spent}

-- why an append of so many bytes is refused before it turns to the device, where the closed gate stands at `end`
abbrev pub refusal : Standing → ℕ → ℕ → ℕ → ℕ → Option AppendError
refusal Spent end size largest limit = Some Memory
refusal (Stopped faults) end size largest limit = Some (Halted faults)
refusal Ready end size largest limit =
    if nat_lt largest size then Some (TooLarge size)
    else if nat_lt limit (end + 1 + (size + frame)) then Some (LogFull end (size + frame))
    else None

-- a log of the payloads from before a change, or of those from after it
abbrev pub BeforeOrAfter : List (List ℕ) → List (List ℕ) → List ℕ → Type 0
BeforeOrAfter before after image = IsLog before image ⊎ IsLog after image

module _ {D : Type 0} {g : Ghosts D} where
  abbrev pub disk_of : Log D g → D
  disk_of log = log.disk

  -- the offset of the closed gate
  abbrev pub end_of : Log D g → ℕ
  end_of log = log.end

  -- how many records it has
  abbrev pub count_of : Log D g → ℕ
  count_of log = log.count

  abbrev pub standing_of : Log D g → Standing
  standing_of log = log.standing

  -- the count of faults that it kept, where it is halted
  abbrev pub halted_of : Log D g → Option ℕ
  halted_of log = elim log.standing [ Ready ↦ None | Stopped faults ↦ Some faults | Spent ↦ None ]

  -- Its disk has this file, a log of these payloads, and a crash leaves each byte of it; the log knows where it ends, and
  -- takes records.
  pub record Holds (file : List ℕ) (payloads : List (List ℕ)) (log : Log D g) : Type 0 where
    pub told : g.seen log.disk ≡ Some file
    pub durable : Only file (g.may_leave log.disk)
    pub is_log : IsLog payloads file
    pub end : log.end ≡ length (front payloads)
    pub count : log.count ≡ length payloads
    pub ready : log.standing ≡ Ready

  -- the log has one record more
  pub record Grew (size number : ℕ) (old new : Log D g) : Type 0 where
    pub next : number ≡ old.count + 1
    pub count : new.count ≡ number
    pub end : new.end ≡ old.end + size + frame
    pub ready : new.standing ≡ Ready

  -- the log takes no more records: it is halted or spent, and has those that it had
  pub record Stops (becomes : Standing) (old new : Log D g) : Type 0 where
    pub end : new.end ≡ old.end
    pub count : new.count ≡ old.count
    pub standing : new.standing ≡ becomes

  -- what became of a log whose append of so many bytes was not refused
  abbrev pub Outcome : ℕ → Log D g → Log D g → Result ℕ AppendError → Type 0
  Outcome size old new (Ok number) = Grew size number old new
  Outcome size old new (Err DiskFault) = Stops (Stopped (g.fault_count new.disk)) old new
  Outcome size old new (Err Memory) = (new ≡ old) ⊎ Stops Spent old new
  Outcome size old new (Err (Halted faults)) = ⊥
  Outcome size old new (Err (TooLarge n)) = ⊥
  Outcome size old new (Err (LogFull end need)) = ⊥

  -- a log that is halted or spent: a crash leaves the payloads from before the change that failed, or those from after it
  pub record StoppedAt (before after : List (List ℕ)) (log : Log D g) : Type 0 where
    pub stopped : log.standing ≢ Ready
    pub images : (image : List ℕ) → g.may_leave log.disk image → BeforeOrAfter before after image
