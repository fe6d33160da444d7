-- WHAT A CRASH LEAVES of the log that a script was run over.
use Rattle.std.specs.Prelude.{◌≡◌, ◌⊎◌, ℕ, ◌≤◌, List, [], ◌∷◌, ◌++◌, Contains, Option, None, Some}
use Rattle.bf_disk.specs.declared.disk.Disk.{Ghosts}
use Rattle.bf_disk.specs.Shelves.{IsHeldOrEmpty}
use Rattle.bf_io.specs.Whole.{IfTold}
use Rattle.bf_journal.specs.Crashes.{ReopensWith}
use Rattle.bf_journal.specs.Reopening.{ReopensTo}
use Rattle.bf_journal.specs.States.{MayLeave, moment_of}
use Rattle.bf_run.specs.Answers.{if_committed}
use Rattle.bf_run.specs.Crashing.{Follows}
use Rattle.bf_log.specs.declared.log.Log.{Log}
use Rattle.bf_machine.specs.interleaving.Machines.{EndedGroup}
use Rattle.bf_recover.specs.Legal.{first_state}
use Rattle.bf_recover.specs.Steps.{StepsTo}
use Rattle.bf_sql.specs.Database.{Database}
use Rattle.bf_sql.specs.History.{replayed}
use Rattle.bf_sql.specs.migrations.Lazy.{LazyState, view_of}
use Rattle.bf_tree.specs.declared.history.Entry.{Entry}
use Rattle.bf_tree.specs.declared.reply.Cause.TheVariants as causes
use Rattle.bf_tree.specs.declared.script.Script.{Script}
use Rattle.bf_run.specs.declared.status.Status.{Status}
use Rattle.bf_run.specs.declared.status.Status.TheVariants.{Done, DiskFault}
use Rattle.bf_run.specs.Creating.{Shelving, WhereHeld}

module _ (script : Script) (start : Database) where
  -- the database behind a history, and one behind a prefix of it
  abbrev pub IsBehind : List Entry → Database → Type 0
  IsBehind history db = db ≡ (replayed script start history).1

  abbrev pub IsBehindPrefix : List Entry → Database → Type 0
  IsBehindPrefix history db = (prefix later : List Entry) × (prefix ++ later ≡ history) × IsBehind prefix db

  -- and one behind a history and one group more, which may follow
  abbrev pub IsBehindMore : List Entry → Entry → Database → Type 0
  IsBehindMore history entry db = Follows start script history (replayed script start history).1 entry × IsBehind (history ++ entry ∷ []) db

  -- be it any of the script
  abbrev pub IsBehindOneMore : List Entry → Database → Type 0
  IsBehindOneMore history db = (entry : Entry) × IsBehindMore history entry db

  -- or that one which was told that the device failed, of the groups that the log has ended
  abbrev pub IsBehindTold : List Entry → List EndedGroup → Database → Type 0
  IsBehindTold history ended db =
      (group : EndedGroup) × Contains ended group × (group.cause ≡ causes.DiskFault) × ((n : ℕ) × IsBehindMore history (if_committed group n) db)

  -- FAILED: at Done no change has failed; else what the one that failed would have made is behind the history, or behind it and one group more,
  -- which at DiskFault is the one that was told so
  abbrev pub IsWhatFailed : Status → List Entry → List EndedGroup → Option Database → Type 0
  IsWhatFailed Done history ended failed = failed ≡ None
  IsWhatFailed DiskFault history ended failed = (db : Database) → failed ≡ Some db → IsBehind history db ⊎ IsBehindTold history ended db
  IsWhatFailed other history ended failed = (db : Database) → failed ≡ Some db → IsBehind history db ⊎ IsBehindOneMore history db

-- an image that reopens does so to such a database, or to the one that the one failed change would have made
abbrev pub OpensAs : (Database → Type 0) → Option Database → List ℕ → Type 0
OpensAs Is failed image = (left : Option LazyState) → ReopensTo first_state StepsTo image left → ReopensWith view_of failed Is left

-- an image whose records give this state, or one that a record more makes of it
abbrev pub GivesOrMore : LazyState → List ℕ → Type 0
GivesOrMore last image =
    ReopensTo first_state StepsTo image (Some last)
    ⊎ ((payload : List ℕ) × (next : LazyState) × StepsTo last payload next × ReopensTo first_state StepsTo image (Some next))

module _ {V : Type 0} (seen : V → Option (List ℕ)) (may_leave : V → List ℕ → Type 0) where
  -- GIVEN: at the end the records of the file give this state; or where a change may have failed those of each image do, or one more
  abbrev pub IsGivenBy : Status → V → LazyState → Type 0
  IsGivenBy Done disk last = IfTold (seen disk) (λ file. ReopensTo first_state StepsTo file (Some last))
  IsGivenBy other disk last = IfTold (seen disk) (λ file. (image : List ℕ) → may_leave disk image → GivesOrMore last image)

-- what an image opens to that could be left before: a state, or None where it is refused
abbrev pub CouldBeLeft : (List ℕ → Type 0) → Option LazyState → Type 0
CouldBeLeft may_leave left = (first : List ℕ) × may_leave first × ReopensTo first_state StepsTo first left

module _ {V : Type 0} (moment : V → ℕ) (left_since : V → ℕ → List ℕ → Type 0) where
  -- LEAVES: every image that a crash now may leave opens to the database behind the history, or to the one that the failed change would have
  -- made. And every image that a crash since a moment might have left opens to what could be left before; or to the database behind a
  -- prefix of the history, or the one that the failed change would have made
  pub record Leaves (Could : Option LazyState → Type 0) (disk : V) (since : ℕ) (script : Script) (start : Database) (history : List Entry) (failed : Option Database) : Type 0 where
    pub now : (image : List ℕ) → left_since disk (moment disk) image → OpensAs (IsBehind script start history) failed image
    pub ever : (image : List ℕ) → left_since disk since image → (left : Option LazyState) → ReopensTo first_state StepsTo image left
        → Could left ⊎ ReopensWith view_of failed (IsBehindPrefix script start history) left

module _ {V : Type 0} (may_leave : V → List ℕ → Type 0) (moment : V → ℕ) (left_since : V → ℕ → List ℕ → Type 0) where
  -- KEEPS: one change at most has failed, and so a crash leaves the file, since the start of the call: before is what a crash at the start
  -- could leave. Where nothing was pending on the file then, that opens to the database behind the empty prefix (the law
  -- `where_nothing_was_pending_a_prefix_is_left`)
  pub record KeepsFile (old new : V) (status : Status) (script : Script) (start : Database) (history : List Entry) (ended : List EndedGroup) : Type 0 where
    pub failed : Option Database
    pub failed_is : IsWhatFailed script start status history ended failed
    pub leaves : Leaves moment left_since (CouldBeLeft (may_leave old)) new (moment old) script start history failed

module _ {V : Type 0} (shelf : Shelving V) where
  -- of a file that was held, or of a new one, and of the one that is held behind it, where this one tells its bytes
  abbrev pub KeepsHeld : Status → Script → Database → List Entry → List EndedGroup → Option V → Option V → Type 0
  KeepsHeld status script start history ended held held_after =
      (old new : V) × IsHeldOrEmpty shelf.seen shelf.may_leave held old × (held_after ≡ Some new)
      × IfTold (shelf.seen new) (λ file. KeepsFile shelf.may_leave shelf.moment shelf.left_since old new status script start history ended)

  -- of the file under a path
  abbrev pub KeepsLog : List ℕ → Status → Script → Database → List Entry → List EndedGroup → Type 0
  KeepsLog path status script start history ended =
      WhereHeld (λ old new. KeepsHeld status script start history ended (old path) (new path)) shelf.held shelf.held_after

  -- the state whose sweep is told is what that log gives
  abbrev pub IsGivenHeld : Status → LazyState → Option V → Type 0
  IsGivenHeld status last held_after = (disk : V) × (held_after ≡ Some disk) × IsGivenBy shelf.seen shelf.may_leave status disk last

  abbrev pub GivesSweep : List ℕ → Status → LazyState → Type 0
  GivesSweep path status last = WhereHeld (λ old new. IsGivenHeld status last (new path)) shelf.held shelf.held_after

module _ {D : Type 0} {g : Ghosts D} where
  -- of a log that a run goes on with, and of its disk at the end, since each moment up to the one at which it was opened
  abbrev pub KeepsOn : Log D g → D → Status → Script → Database → List Entry → List EndedGroup → Type 0
  KeepsOn log disk status script start history ended =
      (failed : Option Database) × IsWhatFailed script start status history ended failed
      × ((since : ℕ) → since ≤ moment_of log → (file : List ℕ) → g.seen disk ≡ Some file
      → Leaves g.moment g.left_since (MayLeave first_state StepsTo log since) disk since script start history failed)
