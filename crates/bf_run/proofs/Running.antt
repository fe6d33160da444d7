-- What becomes of a file that a shelf gives, over which a script is run, and that is put back.
use Rattle.std.proofs.Common.{◌≡◌, ◌≢◌, ◌⊎◌, ℕ, ◌≤◌, Bool, List, Option, None, Some, inl, inr, refl, sym, subst, ◌∙◌, arith}
use Rattle.bf_io.specs.Causes.{Rose}
use Rattle.bf_io.specs.Whole.{IfTold}
use Rattle.bf_disk.specs.Shelves.{ByPath, GivesHeld, PutsWhereTold}
use Rattle.bf_disk.specs.Images.{Only, OnlyRead}
use Rattle.bf_journal.specs.Reopening.{RefusedAt, ReopensTo}
use Rattle.bf_log.specs.Errors.{RisesIf, is_open_fault}
use Rattle.bf_log.specs.declared.error.OpenError.{OpenError}
use Rattle.bf_log.specs.declared.error.OpenError.TheVariants as errors
use Rattle.bf_recover.specs.Legal.{first_state}
use Rattle.bf_recover.specs.Steps.{StepsTo}
use Rattle.bf_sql.specs.Database.{Database}
use Rattle.bf_sql.specs.migrations.Lazy.{LazyState, view_of}
use Rattle.bf_tree.specs.declared.history.Entry.{Entry}
use Rattle.bf_tree.specs.declared.script.Script.{Script}
use Rattle.bf_machine.specs.interleaving.Machines.{EndedGroup}
use Rattle.bf_run.specs.declared.status.Status.{Status}
use Rattle.bf_run.specs.declared.status.Status.TheVariants.{Done, Usage, Script as ScriptError, ReadFault, WriteFault, DiskFault, NotALog, NotEmpty, Memory}
use Rattle.bf_run.specs.Causes.{AreCaused, AreOfHeld, CausesEnds}
use Rattle.bf_run.specs.Creating.{CountsNone, CountsOne, Shelving, WhereHeld}
use Rattle.bf_run.specs.Keeping.{GivesSweep, IsGivenBy, IsGivenHeld, KeepsFile, KeepsHeld, KeepsLog}
use Rattle.bf_run.specs.Options.{Finishes, IsFinished, IsOfHeld}
use Rattle.bf_run.specs.Outcome.{ComesOfLog, RunClaim, HoldsAsked, IsRunTold}
use Rattle.bf_run.specs.Running.{IsLogOf, IsRefusedLog, KeepsOthers, Opens, OpensTo}
use Rattle.bf_run.specs.Top.{HoldsOver, IsOpenErrorTold, IsOpened, IsRunOverDisk, IsServed, IsTextOfRun}
use Rattle.bf_run.specs.Untold.{IsLogBrokenOff, IsReadAtMost, IsReadLog, IsUntold, LeavesUntold, ReadsLog}
use Rattle.bf_words.specs.Words.{Options, running}
use Rattle.bf_run.proofs.NewLogs.{where_held}

-- what is held is as it was
others_itself : {V : Type 0} (path : List ℕ) (held : Option (ByPath V)) → WhereHeld (λ old new. (other : List ℕ) → other ≢ path → new other ≡ old other) held held
others_itself path None = tt
others_itself path (Some held) = λ other apart. refl

read_itself : {V : Type 0} (shelf : Shelving V) (path : List ℕ) (held : Option (ByPath V)) → WhereHeld (λ old new. IsReadLog shelf (old path) (new path)) held held
read_itself shelf path None = tt
read_itself shelf path (Some held) = inl refl

untold_itself : {V : Type 0} (shelf : Shelving V) (path : List ℕ) (script : Script) (held : Option (ByPath V)) → WhereHeld (λ old new. IsReadLog shelf (old path) (new path) ⊎ IsLogBrokenOff shelf script (old path) (new path)) held held
untold_itself shelf path script None = tt
untold_itself shelf path script (Some held) = inl (inl refl)

pub others_stay : {V : Type 0} (shelf : Shelving V) (path : List ℕ) → shelf.held_after ≡ shelf.held → KeepsOthers shelf path
others_stay shelf path same = rw same (others_itself path shelf.held)

-- what is held was not looked at
pub nothing_read : {V : Type 0} (shelf : Shelving V) (path : List ℕ) → shelf.held_after ≡ shelf.held → ReadsLog shelf path
nothing_read shelf path same = rw same (read_itself shelf path shelf.held)

pub nothing_done : {V : Type 0} (shelf : Shelving V) (path : List ℕ) (script : Script) → shelf.held_after ≡ shelf.held → LeavesUntold shelf path script
nothing_done shelf path script same = rw same (untold_itself shelf path script shelf.held)

pub if_told : (told : Option (List ℕ)) (P : List ℕ → Type 0) → ((file : List ℕ) → told ≡ Some file → P file) → IfTold told P
if_told None P each = tt
if_told (Some file) P each = each file refl

-- one disk
module _ {V : Type 0} (seen : V → Option (List ℕ)) (may_leave : V → List ℕ → Type 0) (moment : V → ℕ) (left_since : V → ℕ → List ℕ → Type 0) (fault_count : V → ℕ)
    (options : Options) (script : Script) (disk now : V) where
  pub served : (Served : RunClaim) (before after : ℕ) (status : Status) (text : List ℕ) → IsServed options Served script before after status text
      → before ≡ fault_count disk → after ≡ fault_count now
      → ((status : Status) (start : Database) (history : List Entry) (ended : List EndedGroup) (last : LazyState) → Served status script start history ended last
      → HoldsOver seen may_leave moment left_since fault_count options.finish disk now status script start history ended last)
      → IsRunOverDisk seen may_leave moment left_since fault_count options script disk now status text
  served Served before after status text is first last so = by status is
    where
      told : (status : Status) → IsRunTold options (Served status script) script text
          → IsRunTold options (HoldsOver seen may_leave moment left_since fault_count options.finish disk now status script) script text
      told status run = record {
        start = run.start;
        transcripts = run.transcripts;
        history = run.history;
        ended = run.ended;
        sweep = run.sweep;
        is_run = run.is_run;
        told = run.told;
        holds = so status run.start run.history run.ended run.is_run.last run.holds;
        report_written = run.report_written;
      }

      by : (status : Status) → IsServed options Served script before after status text → IsRunOverDisk seen may_leave moment left_since fault_count options script disk now status text
      by Done is = (told Done is.0, omega (arith, is.1, first, last))
      by DiskFault is = (inr (told DiskFault is.0), omega (arith, is.1, first, last))
      by Usage is = absurd is
      by (ScriptError fault) is = absurd is
      by ReadFault is = absurd is
      by WriteFault is = absurd is
      by (NotALog at) is = absurd is
      by (NotEmpty n) is = absurd is
      by Memory is = absurd is

  pub opened_to : (lazy : LazyState) → ((file : List ℕ) → seen disk ≡ Some file → ReopensTo first_state StepsTo file (Some lazy))
      → IsOpened seen may_leave moment left_since fault_count disk (view_of lazy)
  opened_to lazy gives = if_told (seen disk) _ (λ file told. (lazy, gives file told, refl))

  pub not_opened : (error : OpenError) (status : Status) (text : List ℕ) → IsOpenErrorTold error status text
      → ((at : ℕ) → error ≡ errors.NotALog at → (file : List ℕ) → seen disk ≡ Some file → RefusedAt first_state StepsTo file at × Only file (may_leave now))
      → OnlyRead seen may_leave moment left_since disk now → RisesIf (is_open_fault error) (fault_count disk) (fault_count now)
      → IsRunOverDisk seen may_leave moment left_since fault_count options script disk now status text
  not_opened (errors.NotALog at) status text told refused read counts =
      subst (λ (s : Status). IsRunOverDisk seen may_leave moment left_since fault_count options script disk now s text) (sym told.0)
      (told.1, if_told (seen disk) _ (λ file is. (refused at refl file is).0), read, omega (arith, counts))
  not_opened errors.DiskFault status text told refused read counts =
      subst (λ (s : Status). IsRunOverDisk seen may_leave moment left_since fault_count options script disk now s text) (sym told.0) (inl (told.1, inr read), counts.0)
  not_opened errors.Memory status text told refused read counts = absurd told

module _ {V : Type 0} (shelf : Shelving V) (path : List ℕ) (mid : Option (ByPath V)) (disk now : V)
    (given : GivesHeld shelf.seen shelf.may_leave shelf.held path disk)
    (away : PutsWhereTold path None shelf.held mid) (back : PutsWhereTold path (Some now) mid shelf.held_after) where
  pub others_kept : KeepsOthers shelf path
  others_kept = kept shelf.held mid shelf.held_after away back
    where
      kept : (old mid new : Option (ByPath V)) → PutsWhereTold path None old mid → PutsWhereTold path (Some now) mid new
          → WhereHeld (λ old new. (other : List ℕ) → other ≢ path → new other ≡ old other) old new
      kept None None None away back = tt
      kept (Some old) (Some mid) (Some new) away back = λ other apart. back.others other apart ∙ away.others other apart
      kept None None (Some new) away back = absurd back
      kept None (Some mid) new away back = absurd away
      kept (Some old) None new away back = absurd away
      kept (Some old) (Some mid) None away back = absurd back

  keeps_log : (status : Status) (script : Script) (start : Database) (history : List Entry) (ended : List EndedGroup)
      → IfTold (shelf.seen now) (λ file. KeepsFile shelf.may_leave shelf.moment shelf.left_since disk now status script start history ended)
      → KeepsLog shelf path status script start history ended
  keeps_log status script start history ended kept = where_held shelf.seen shelf.may_leave path disk now (KeepsHeld shelf status script start history ended)
      shelf.held mid shelf.held_after given away back (λ was held. (disk, now, held, refl, kept))

  -- the groups that the log has ended
  caused : (status : Status) (script : Script) (start : Database) (history : List Entry) (ended : List EndedGroup) → AreCaused start script history (shelf.seen now) (shelf.disk_faults now) status ended → CausesEnds shelf path status script start history ended
  caused status script start history ended are = (
    shelf.seen now,
    shelf.disk_faults now,
    are,
    where_held shelf.seen shelf.may_leave path disk now (λ old new. AreOfHeld shelf (shelf.seen now) (shelf.disk_faults now) new)
        shelf.held mid shelf.held_after given away back (λ was held. (now, refl, refl, refl)),
  )

  -- the state whose sweep is told
  gives : (status : Status) (last : LazyState) → IsGivenBy shelf.seen shelf.may_leave status now last → GivesSweep shelf path status last
  gives status last given_by = where_held shelf.seen shelf.may_leave path disk now (λ old new. IsGivenHeld shelf status last new)
      shelf.held mid shelf.held_after given away back (λ was held. (now, refl, given_by))

  -- what is left of the last migration
  finishes : (finish : Bool) (status : Status) (last : LazyState) → IsFinished finish status (shelf.seen now) last → Finishes shelf path finish status last
  finishes finish status last is = (
    shelf.seen now,
    is,
    where_held shelf.seen shelf.may_leave path disk now (λ old new. IsOfHeld shelf (shelf.seen now) new)
        shelf.held mid shelf.held_after given away back (λ was held. (now, refl, refl)),
  )

  -- a log that was read at most, and a run over it that was broken off
  reads : IsReadAtMost shelf.seen shelf.may_leave shelf.moment shelf.left_since disk now → ReadsLog shelf path
  reads read = where_held shelf.seen shelf.may_leave path disk now (IsReadLog shelf)
      shelf.held mid shelf.held_after given away back (λ was held. inr (disk, held, read))

  pub untold : (script : Script) → IsUntold shelf.seen shelf.may_leave shelf.moment shelf.left_since script disk now → LeavesUntold shelf path script
  untold script left = where_held shelf.seen shelf.may_leave path disk now (λ old new. IsReadLog shelf old new ⊎ IsLogBrokenOff shelf script old new)
      shelf.held mid shelf.held_after given away back
      (λ was held. elim left as (λ _. IsReadLog shelf was (Some now) ⊎ IsLogBrokenOff shelf script was (Some now)) [
        | inl read ↦ inl (inr (disk, held, read))
        | inr off ↦ inr (disk, now, held, refl, off)
      ])

  opens : (start : Database) → IfTold (shelf.seen disk) (λ file. OpensTo file start) → Opens shelf path start
  opens start told = where_held shelf.seen shelf.may_leave path disk now (λ old new. IsLogOf shelf start old)
      shelf.held mid shelf.held_after given away back (λ was held. (disk, held, told))

  module _ (options : Options) (script : Script) (none : shelf.disk_faults now ≤ shelf.disk_faults disk → CountsNone shelf) (one : Rose (shelf.disk_faults disk) (shelf.disk_faults now) → CountsOne shelf) where
    over : (status : Status) (text : List ℕ)
        → IsRunTold options (HoldsOver shelf.seen shelf.may_leave shelf.moment shelf.left_since shelf.disk_faults options.finish disk now status script) script text
        → IsRunTold options (HoldsAsked (Some (running path options)) shelf status script) script text
    over status text told = record {
      start = told.start;
      transcripts = told.transcripts;
      history = told.history;
      ended = told.ended;
      sweep = told.sweep;
      is_run = told.is_run;
      told = told.told;
      holds = (
        opens told.start told.holds.0,
        keeps_log status script told.start told.history told.ended told.holds.1,
        caused status script told.start told.history told.ended told.holds.2,
        gives status told.is_run.last told.holds.3,
        finishes options.finish status told.is_run.last told.holds.4,
      );
      report_written = told.report_written;
    }

    pub comes : (status : Status) (text : List ℕ) → IsRunOverDisk shelf.seen shelf.may_leave shelf.moment shelf.left_since shelf.disk_faults options script disk now status text
        → ComesOfLog path shelf status × IsTextOfRun options (HoldsAsked (Some (running path options)) shelf) (ReadsLog shelf path) script status text
    comes Done text is = ((none is.1, (is.0.start, opens is.0.start is.0.holds.0)), over Done text is.0)
    comes DiskFault text (inl fault, rose) = (one rose, inl (fault.0, reads fault.1))
    comes DiskFault text (inr told, rose) = (one rose, inr (over DiskFault text told))
    comes (NotALog at) text is = (
      (
        none is.3,
        where_held shelf.seen shelf.may_leave path disk now (IsRefusedLog shelf at) shelf.held mid shelf.held_after given away back
            (λ was held. (disk, held, is.1, inr is.2)),
      ),
      is.0,
    )
    comes Usage text is = absurd is
    comes (ScriptError fault) text is = absurd is
    comes ReadFault text is = absurd is
    comes WriteFault text is = absurd is
    comes (NotEmpty n) text is = absurd is
    comes Memory text is = absurd is
