-- WHAT A JOURNAL THAT IS A LOG ANSWERS, and what a crash leaves of it then.
use Rattle.std.specs.Prelude.{◌≡◌, Bool, true, false, ℕ, ◌+◌, ◌<◌, ◌≤◌, ◌^◌, ◌⊎◌, Contains, List, ◌++◌, filter, length, None, Some, Result, Ok, Err}
use Rattle.std.specs.List.{AllByRecursion}
use Rattle.bf_disk.specs.declared.disk.Disk.{Ghosts}
use Rattle.bf_journal.specs.Answered.{IsAnsweredBy}
use Rattle.bf_journal.specs.States.{StandsOn}
use Rattle.bf_log.specs.Append.{disk_of, end_of, halted_of, standing_of}
use Rattle.bf_log.specs.Format.{frame}
use Rattle.bf_log.specs.declared.error.AppendError.{AppendError}
use Rattle.bf_log.specs.declared.error.AppendError.TheVariants as appends
use Rattle.bf_log.specs.declared.log.Log.{Log}
use Rattle.bf_log.specs.declared.log.Standing.{Standing}
use Rattle.bf_log.specs.declared.log.Standing.TheVariants.{Ready, Spent}
use Rattle.bf_machine.specs.declared.journal.KeepError.{KeepError}
use Rattle.bf_machine.specs.declared.journal.KeepError.TheVariants as keeps
use Rattle.bf_machine.specs.interleaving.Journals.{IsMoveIn}
use Rattle.bf_machine.specs.interleaving.Machines.{EndedGroup}
use Rattle.bf_record.specs.declared.change.Change.{Change}
use Rattle.bf_record.specs.declared.change.Change.TheVariants.{Move}
use Rattle.bf_recover.specs.Legal.{first_state}
use Rattle.bf_recover.specs.Steps.{StepsTo, entry_of, run_entry}
use Rattle.bf_sql.specs.Database.{Database}
use Rattle.bf_sql.specs.Groups.{groups_in}
use Rattle.bf_sql.specs.History.{IsEndedBy, replayed}
use Rattle.bf_sql.specs.migrations.Lazy.{LazyState, view_of}
use Rattle.bf_store.specs.States.{IsSeenAs}
use Rattle.bf_tree.specs.declared.history.Entry.{Entry}
use Rattle.bf_tree.specs.declared.history.Outcome.TheVariants.{Committed}
use Rattle.bf_tree.specs.declared.script.Script.{Script}
use Rattle.bf_tree.specs.declared.reply.Cause.{Cause}
use Rattle.bf_tree.specs.declared.reply.Cause.TheVariants.{Died, DiskFault, Halted, LogFull, TooLarge}
use Rattle.bf_tree.specs.declared.reply.Reply.{Reply}

-- the most bytes of a record, and those that a log comes to take
abbrev pub largest_record : ℕ
largest_record = 2 ^ 30

abbrev pub largest_log : ℕ
largest_log = 2 ^ 36

-- a log that takes records
abbrev pub is_ready : Standing → Bool
is_ready Ready = true
is_ready other = false

-- one that was given up
abbrev pub is_spent : Standing → Bool
is_spent Spent = true
is_spent other = false

-- a record that makes the one lazy state of the other has so many bytes
abbrev pub HasRecordOf : LazyState → LazyState → ℕ → Type 0
HasRecordOf lazy next size = (payload : List ℕ) × StepsTo lazy payload next × (size ≡ length payload)

-- a change that a group makes: all but a move
abbrev pub is_of_group : Change → Bool
is_of_group (Move migration unit places) = false
is_of_group other = true

-- a payload makes one lazy state of the other by such a change
abbrev pub StepsByGroup : LazyState → List ℕ → LazyState → Type 0
StepsByGroup lazy payload next = (steps : StepsTo lazy payload next) × (is_of_group steps.change ≡ true)

-- a record of so many bytes makes the one lazy state of the other by such a change
abbrev pub HasOwnRecordOf : LazyState → LazyState → ℕ → Type 0
HasOwnRecordOf lazy next size = (payload : List ℕ) × StepsByGroup lazy payload next × (size ≡ length payload)

-- that has the size of the one that is told to be too large, which is no move's; and with its frame the need that is told where the log comes to
-- take no more
abbrev pub IsSizeTold : LazyState → LazyState → Result (Unit {0}) KeepError → Type 0
IsSizeTold lazy next (Err (keeps.Ended (TooLarge size))) = HasOwnRecordOf lazy next size
IsSizeTold lazy next (Err (keeps.Ended (LogFull end need))) = (size : ℕ) × HasRecordOf lazy next size × (need ≡ size + frame)
IsSizeTold lazy next other = Unit {0}

-- the cause of a fault of the device
abbrev pub IsFaultCause : Cause → Type 0
IsFaultCause DiskFault = Unit {0}
IsFaultCause (Halted faults) = Unit {0}
IsFaultCause other = ⊥

-- how a journal answers for the append of a change: a group is told of each error but want of memory as its cause; where the device
-- failed at a move, perhaps that the log has halted
abbrev pub IsToldAs : LazyState → LazyState → Result (Unit {0}) AppendError → Result (Unit {0}) KeepError → Type 0
IsToldAs lazy next (Ok done) answer = answer ≡ Ok tt
IsToldAs lazy next (Err appends.Memory) answer = answer ≡ Err keeps.Memory
IsToldAs lazy next (Err appends.DiskFault) answer =
    (answer ≡ Err (keeps.Ended DiskFault)) ⊎ (IsMoveIn lazy next × ((faults : ℕ) × (answer ≡ Err (keeps.Ended (Halted faults)))))
IsToldAs lazy next (Err (appends.Halted faults)) answer = answer ≡ Err (keeps.Ended (Halted faults))
IsToldAs lazy next (Err (appends.TooLarge size)) answer = answer ≡ Err (keeps.Ended (TooLarge size))
IsToldAs lazy next (Err (appends.LogFull end need)) answer = answer ≡ Err (keeps.Ended (LogFull end need))

-- what a group is told of an error of an append
abbrev pub told_as : AppendError → KeepError
told_as appends.Memory = keeps.Memory
told_as appends.DiskFault = keeps.Ended DiskFault
told_as (appends.Halted faults) = keeps.Ended (Halted faults)
told_as (appends.TooLarge size) = keeps.Ended (TooLarge size)
told_as (appends.LogFull end need) = keeps.Ended (LogFull end need)

-- the answer of a journal by that of an append
abbrev pub answer_as : Result (Unit {0}) AppendError → Result (Unit {0}) KeepError
answer_as (Ok done) = Ok tt
answer_as (Err error) = Err (told_as error)

-- an append of which the number of the record is told too
abbrev pub numbered : Result (Unit {0}) AppendError → Result ℕ AppendError
numbered (Ok done) = Ok 0
numbered (Err error) = Err error

module _ {D : Type 0} {g : Ghosts D} where
  -- APPENDED: the change from one lazy state to another is appended as one record, which makes the one of the other and is legal.
  -- Where the one state stands on the log, the answer says what a crash leaves
  abbrev pub IsAppended : LazyState → LazyState → Log D g → Log D g → Result (Unit {0}) AppendError → Type 0
  IsAppended lazy next old new r = StandsOn first_state StepsTo lazy old → IsAnsweredBy first_state StepsTo lazy next old new (numbered r)

  -- and the answer of the journal is that of the append
  abbrev pub IsAnsweredAs : LazyState → LazyState → Log D g → Log D g → Result (Unit {0}) KeepError → Type 0
  IsAnsweredAs lazy next old new answer = (r : Result (Unit {0}) AppendError) × IsAppended lazy next old new r × IsToldAs lazy next r answer

  -- TELLS: which causes a log can have told by now
  abbrev pub Tells : Log D g → Cause → Type 0
  Tells log (Died older) = ⊥
  Tells log DiskFault = (faults : ℕ) × (halted_of log ≡ Some faults)
  Tells log (Halted faults) = halted_of log ≡ Some faults
  Tells log (LogFull end need) = (end ≤ end_of log) × (largest_log < end + 1 + need) × (need ≤ largest_record + 5)
  Tells log (TooLarge size) = largest_record < size

  -- and which it tells now: that its device has failed it tells once
  abbrev pub TellsNow : Log D g → Log D g → Cause → Type 0
  TellsNow old new DiskFault = (halted_of old ≡ None) × Tells new DiskFault
  TellsNow old new other = Tells new other

  -- how a log stands behind an answer: where memory ran out it is as it was, or given up
  abbrev pub StandsBehind : Log D g → Log D g → Result (Unit {0}) KeepError → Type 0
  StandsBehind old new (Ok done) = standing_of new ≡ Ready
  StandsBehind old new (Err (keeps.Ended cause)) = TellsNow old new cause
  StandsBehind old new (Err keeps.Memory) = (new ≡ old) ⊎ (standing_of new ≡ Spent)

  -- GOES ON: a log that takes no more records stays as it is; one that halts keeps the count of its device's faults; its end does not
  -- fall back
  pub record GoesOn (old new : Log D g) (answer : Result (Unit {0}) KeepError) : Type 0 where
    pub stays : is_ready (standing_of old) ≡ false → new ≡ old
    pub counted : (faults : ℕ) → halted_of old ≡ None → halted_of new ≡ Some faults → g.fault_count (disk_of new) ≡ faults
    pub rises : end_of old ≤ end_of new
    pub stands : StandsBehind old new answer

  -- ANSWERS: the answer of the journal is that of an append, the log goes on so, and a size or a need that is told is that of a record of the change
  abbrev pub HasAnswered : LazyState → LazyState → Log D g → Log D g → Result (Unit {0}) KeepError → Type 0
  HasAnswered lazy next old new answer = IsAnsweredAs lazy next old new answer × GoesOn old new answer × IsSizeTold lazy next answer

-- the cause that tells that the device failed
abbrev pub is_disk_fault : Cause → Bool
is_disk_fault DiskFault = true
is_disk_fault other = false

module _ {D : Type 0} {g : Ghosts D} where
  -- CAUSES: each group that the log has ended is told what the log can tell, one at most that the device failed; and where it has
  -- halted the log has kept the count of the device's faults
  pub record CausesMatchLog (log : Log D g) (groups : List EndedGroup) : Type 0 where
    pub each : AllByRecursion (λ group. Tells log group.cause) groups
    pub one_fault : length (filter (λ group. is_disk_fault group.cause) groups) ≤ 1
    pub counted : (faults : ℕ) → halted_of log ≡ Some faults → g.fault_count (disk_of log) ≡ faults

-- and each is one of the script, whose cause is the reply to each of its statements
abbrev pub AreToldTheirCauses : Script → List (List Reply) → List EndedGroup → Type 0
AreToldTheirCauses script transcripts groups =
    AllByRecursion (λ group. Contains (groups_in script group.session) group.group × IsEndedBy script transcripts group.session group.group group.cause) groups

-- the entry of a group that a log has ended, had it committed with this number
abbrev pub if_committed : EndedGroup → ℕ → Entry
if_committed group n = record { session = group.session; first = group.group.0; last = group.group.1; outcome = Committed n }

-- what such a group makes of a database
abbrev pub GroupMakes : Script → EndedGroup → Database → Database → Type 0
GroupMakes script group now then = (n : ℕ) × (then ≡ run_entry now (entry_of script (if_committed group n)))

-- or a move, which is not seen
abbrev pub MakesOf : Script → EndedGroup → Database → Database → Type 0
MakesOf script group now then = (then ≡ now) ⊎ GroupMakes script group now then

-- BEHIND a prefix of the history: in a valid state that is seen as the database there, some change makes what a group, or a move, makes of that
-- database, and has a record of this kind
pub record IsBehind (start : Database) (script : Script) (history : List Entry) (Makes : Database → Database → Type 0) (HasRecord : LazyState → LazyState → Type 0) : Type 0 where
  pub prefix : List Entry
  pub later : List Entry
  pub of_history : prefix ++ later ≡ history
  pub lazy : LazyState
  pub next : LazyState
  pub seen_as : IsSeenAs (replayed script start prefix).1 lazy
  pub makes : Makes (view_of lazy) (view_of next)
  pub has_record : HasRecord lazy next

-- A group is told to be too large by the size of a record that makes what it makes, and is no move; and that the log is full by the need of such a
-- record, or of a move
abbrev pub IsSizeOf : Database → Script → List Entry → EndedGroup → Cause → Type 0
IsSizeOf start script history group (TooLarge size) = IsBehind start script history (GroupMakes script group) (λ lazy next. HasOwnRecordOf lazy next size)
IsSizeOf start script history group (LogFull end need) =
    (size : ℕ) × (need ≡ size + frame) × IsBehind start script history (MakesOf script group) (λ lazy next. HasRecordOf lazy next size)
IsSizeOf start script history group other = Unit {0}

abbrev pub AreSizesOf : Database → Script → List Entry → List EndedGroup → Type 0
AreSizesOf start script history groups = AllByRecursion (λ group. IsSizeOf start script history group group.cause) groups
