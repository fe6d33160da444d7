-- WHAT A CRASH LEAVES of a machine beside the journal that is a log.
use Rattle.std.specs.Prelude.{◌≡◌, ◌⊎◌, ℕ, ◌≤◌, Contains, List, [], ◌∷◌, ◌++◌, map, Option, None, Some, IsTrue}
use Rattle.std.specs.List.{list_all}
use Rattle.bf_base.specs.Lists.{with_before}
use Rattle.bf_disk.specs.declared.disk.Disk.{Ghosts}
use Rattle.bf_journal.specs.Crashes.{CrashImages, IsAfterPrefix, Machine as OnLog, ReopensWith}
use Rattle.bf_journal.specs.States.{IsReady, MayLeave, StandsOn, moment_of}
use Rattle.bf_log.specs.Append.{standing_of}
use Rattle.bf_log.specs.declared.log.Log.{Log}
use Rattle.bf_log.specs.declared.log.Standing.TheVariants.{Spent}
use Rattle.bf_machine.specs.interleaving.Journals.{Keeps, ended_in}
use Rattle.bf_machine.specs.interleaving.Machines.{EndedGroup, Machine}
use Rattle.bf_recover.specs.Legal.{first_state}
use Rattle.bf_recover.specs.Steps.{StepsTo, entry_of, run_entry}
use Rattle.bf_sql.specs.Database.{Database}
use Rattle.bf_sql.specs.History.{is_whole_group, may_precede, replayed}
use Rattle.bf_sql.specs.migrations.Lazy.{LazyState, view_of}
use Rattle.bf_tree.specs.declared.history.Entry.{Entry}
use Rattle.bf_tree.specs.declared.history.Outcome.{Outcome}
use Rattle.bf_tree.specs.declared.reply.Cause.TheVariants.{DiskFault}
use Rattle.bf_tree.specs.declared.script.Script.{Script}
use Rattle.bf_tree.specs.declared.statement.Statement.{Statement}
use Rattle.bf_run.specs.Answers.{HasAnswered, if_committed}
use Rattle.bf_run.specs.declared.log_journal.LogJournal.{LogJournal}

-- entries are of whole groups of a script, in an order that it allows
abbrev pub AreGroupsInOrder : Script → List Entry → Type 0
AreGroupsInOrder script history =
    IsTrue (list_all (is_whole_group script) history)
    × IsTrue (list_all (λ p. list_all (λ d. may_precede script d p.1) p.0) (with_before history))

-- FOLLOWS: the group of an entry may follow those of a history, or of a prefix of it behind which the database has not changed: its change failed
-- there, and later groups have stored nothing
pub record Follows (start : Database) (script : Script) (history : List Entry) (now : Database) (entry : Entry) : Type 0 where
  pub prefix : List Entry
  pub later : List Entry
  pub of_history : prefix ++ later ≡ history
  pub unchanged : now ≡ (replayed script start prefix).1
  pub in_order : AreGroupsInOrder script (prefix ++ entry ∷ [])

-- what such a group makes of a database
abbrev pub EntryMakes : Database → Script → List Entry → Entry → Database → Database → Type 0
EntryMakes start script history entry now db = Follows start script history now entry × (db ≡ run_entry now (entry_of script entry))

abbrev pub IsOneGroup : Database → Script → List Entry → Database → Database → Type 0
IsOneGroup start script history now db = (entry : Entry) × EntryMakes start script history entry now db

-- and what one makes of it that was told that the device failed
abbrev pub IsMadeByFaulted : Database → Script → List Entry → List EndedGroup → Database → Database → Type 0
IsMadeByFaulted start script history ended now db =
    (group : EndedGroup) × Contains ended group × (group.cause ≡ DiskFault) × ((n : ℕ) × EntryMakes start script history (if_committed group n) now db)

module _ {D : Type 0} {g : Ghosts D} where
  -- A machine beside its log, as a state on a log: what is seen of it at the opening, the moment from which on crashes are spoken
  -- of, each entry of its history with the statements of its group, and what its one failed change would have made
  abbrev pub beside : Machine → Log D g → Database → ℕ → Option Database → OnLog LazyState D g Database (List Statement × Outcome)
  beside m log opening since failed = record {
    state = m.lazy;
    log = log;
    opening = opening;
    since = since;
    history = map (entry_of m.script) m.history;
    failed = failed;
  }

  -- WHAT HAS FAILED: what the one failed change would have made of the database: the same, by a move; or what a group makes of it that was
  -- told that the device failed; or where the log was given up for want of memory what any one group makes of it that could follow
  abbrev pub IsWhatHasFailed : Log D g → Database → Script → List Entry → List EndedGroup → Database → Database → Type 0
  IsWhatHasFailed log start script history ended now db =
      (db ≡ now) ⊎ IsMadeByFaulted start script history ended now db ⊎ ((standing_of log ≡ Spent) × IsOneGroup start script history now db)

  -- what may be left of a log since a moment before it was opened could be left since then of the log that was opened; or it reopens to the
  -- database after a prefix of the history, or to what the failed change would have made
  abbrev pub LeavesBefore : Log D g → Database → List (List Statement × Outcome) → Option Database → Log D g → Type 0
  LeavesBefore opened opening history failed log =
      (since : ℕ) → since ≤ moment_of opened → (left : Option LazyState) → MayLeave first_state StepsTo log since left
      → MayLeave first_state StepsTo opened since left ⊎ ReopensWith view_of failed (IsAfterPrefix run_entry opening history) left

  -- RECOVERS: the state of the store stands on the log, and one change may have failed, after which the log takes no more. Every image that a
  -- crash now may leave reopens to the database, and every image since the log was opened to the database after a prefix of the history;
  -- or to what that change would have made. One since a moment before may be what could be left since then at the opening
  pub record Recovers (opened : Log D g) (opening : Database) (ended : List EndedGroup) (m : Machine) (log : Log D g) : Type 0 where
    pub stands : StandsOn first_state StepsTo m.lazy log
    pub failed : Option Database
    pub none_failed : IsReady log → failed ≡ None
    pub failed_is : (db : Database) → failed ≡ Some db → IsWhatHasFailed log opening m.script m.history ended (view_of m.lazy) db
    pub images : CrashImages first_state StepsTo view_of run_entry (beside m log opening (moment_of opened) failed)
    pub before : LeavesBefore opened opening (map (entry_of m.script) m.history) failed log

  -- events one after the other, each beside the journal
  abbrev pub KeepsOnLog : Database → Machine → LogJournal D g → Machine → LogJournal D g → Type 0
  KeepsOnLog = Keeps {J = LogJournal D g} (λ lazy next old new answer. HasAnswered lazy next old.log new.log answer)

  -- the groups that the log has ended by them
  abbrev pub ended_on_log : {start : Database} {m : Machine} {j : LogJournal D g} {next : Machine} {k : LogJournal D g} → KeepsOnLog start m j next k → List EndedGroup
  ended_on_log = ended_in {J = LogJournal D g} (λ lazy next old new answer. HasAnswered lazy next old.log new.log answer)
