-- What the parts of the top call owe: the report of a run, and the script that a source is.
use Rattle.std.specs.Prelude.{◌≡◌, ◌⊎◌, ℕ, ◌<◌, ◌≤◌, Bool, List, ◌++◌, codes, Option, None, Some, Result, Ok, Err, ⊤}
use Rattle.std.specs.Global.{Vec}
use Rattle.bf_disk.specs.declared.disk.Disk.{Ghosts}
use Rattle.bf_disk.specs.Images.{OnlyRead}
use Rattle.bf_journal.specs.Reopening.{RefusedAt}
use Rattle.bf_log.specs.declared.error.OpenError.{OpenError}
use Rattle.bf_log.specs.declared.log.Log.{Log}
use Rattle.bf_log.specs.declared.error.OpenError.TheVariants as errors
use Rattle.bf_recover.specs.Legal.{first_state}
use Rattle.bf_recover.specs.Steps.{StepsTo}
use Rattle.bf_run.specs.Running.{OpensTo}
use Rattle.bf_lex.specs.declared.fault.ScriptFault.{ScriptFault}
use Rattle.bf_sql.specs.Database.{Database}
use Rattle.bf_text.specs.Replies.{newline}
use Rattle.bf_tree.specs.declared.script.Script.{Script}
use Rattle.bf_io.specs.Causes.{Rose}
use Rattle.bf_io.specs.Whole.{IfTold}
use Rattle.bf_parse.specs.Scripts.{IsScriptText}
use Rattle.bf_tree.specs.declared.reply.Reply.{Reply}
use Rattle.bf_tree.specs.declared.history.Entry.{Entry}
use Rattle.bf_tree.specs.declared.history.Sweep.{Sweep}
use Rattle.bf_text.specs.Report.{report_text}
use Rattle.bf_run.specs.declared.status.Status.{Status}
use Rattle.bf_run.specs.declared.status.Status.TheVariants.{Done, DiskFault, NotALog, ReadFault, Script as ScriptError}
use Rattle.bf_demo.specs.Shown.{shown_of}
use Rattle.bf_run.specs.Causes.{AreCaused}
use Rattle.bf_run.specs.Creating.{CountsOne, Shelving}
use Rattle.bf_run.specs.Demonstrating.{demo_options}
use Rattle.bf_run.specs.Keeping.{IsGivenBy, KeepsFile, KeepsOn}
use Rattle.bf_run.specs.Outcome.{RunClaim, Stream, ComesOfInput, ComesOfLog, HoldsOfLog, IsRunTold, IsTextOf, fault_of_disk, fault_text, not_a_log_text}
use Rattle.bf_run.specs.Options.{IsFinished}
use Rattle.bf_run.specs.Untold.{IsReadAtMost}
use Rattle.bf_words.specs.Words.{Options, trying}

-- the text is the report of what a run leaves
abbrev pub Tells : (List (List Reply) → List Entry → Sweep → Type 0) → List ℕ → Type 0
Tells Leaves text =
    (transcripts : List (List Reply)) × (history : List Entry) × (sweep : Sweep) × Leaves transcripts history sweep
    × (text ≡ report_text transcripts history None sweep)

-- what tells why there is no script to run: its status, and its text
abbrev pub IsNoScript : Stream → List ℕ → Status → List ℕ → Type 0
IsNoScript input bytes (ScriptError fault) text = ComesOfInput input bytes (ScriptError fault) × (text ≡ fault_text fault)
IsNoScript input bytes ReadFault text = ComesOfInput input bytes ReadFault × (text ≡ codes "read fault" ++ newline)
IsNoScript input bytes other text = ⊥

-- the script that a text is, or why it is none
abbrev pub IsScriptOf : List ℕ → Result Script (Status × Vec ℕ) → Type 0
IsScriptOf bytes (Ok script) = IsScriptText bytes (Ok script)
IsScriptOf bytes (Err told) = (fault : ScriptFault) × IsScriptText bytes (Err fault) × (told.0 ≡ ScriptError fault) × (told.1.items ≡ fault_text fault)

-- the script that a source is which was read to its end, or why there is none
abbrev pub IsScriptRead : Stream → List ℕ → Result Script (Status × Vec ℕ) → Type 0
IsScriptRead input bytes (Ok script) = ComesOfInput input bytes Done × IsScriptText bytes (Ok script)
IsScriptRead input bytes (Err told) = IsNoScript input bytes told.0 told.1.items

-- for the bytes that it tells, or for some
pub record HasRead (input : Stream) (read : Result Script (Status × Vec ℕ)) : Type 0 where
  pub bytes : List ℕ
  pub are_told : IfTold input.bytes (λ told. bytes ≡ told)
  pub is_read : IsScriptRead input bytes read

-- the text of a run over a log with these options, of which this holds; or of none, before which that does; for its status
abbrev pub IsTextOfRun : Options → RunClaim → Type 0 → Script → Status → List ℕ → Type 0
IsTextOfRun options Holds Before script Done text = IsRunTold options (Holds Done script) script text
IsTextOfRun options Holds Before script DiskFault text = ((text ≡ fault_of_disk) × Before) ⊎ IsRunTold options (Holds DiskFault script) script text
IsTextOfRun options Holds Before script (NotALog at) text = text ≡ not_a_log_text at
IsTextOfRun options Holds Before script other text = ⊥

-- a script was served, of which this holds: its status, by a disk's count of faults before and after, and the report
abbrev pub IsServed : Options → RunClaim → Script → ℕ → ℕ → Status → List ℕ → Type 0
IsServed options Holds script before after Done text = IsRunTold options (Holds Done script) script text × (after ≤ before)
IsServed options Holds script before after DiskFault text = IsRunTold options (Holds DiskFault script) script text × (before < after)
IsServed options Holds script before after other text = ⊥

-- over the database that is seen of the state which a log keeps, to be finished or not
abbrev pub ServedOn : {D : Type 0} {g : Ghosts D} → Bool → Database → Log D g → D → RunClaim
ServedOn {g = g} finish opening log disk status script start history ended last =
    (start ≡ opening) × KeepsOn log disk status script start history ended
    × AreCaused start script history (g.seen disk) (g.fault_count disk) status ended
    × IsGivenBy g.seen g.may_leave status disk last × IsFinished finish status (g.seen disk) last

-- what is told of a log that could not be read
abbrev pub IsOpenErrorTold : OpenError → Status → List ℕ → Type 0
IsOpenErrorTold (errors.NotALog at) status text = (status ≡ NotALog at) × (text ≡ not_a_log_text at)
IsOpenErrorTold errors.DiskFault status text = (status ≡ DiskFault) × (text ≡ fault_of_disk)
IsOpenErrorTold errors.Memory status text = ⊥

-- a script was run over the log of one disk: the status and its text, and what became of the disk
module _ {V : Type 0} (seen : V → Option (List ℕ)) (may_leave : V → List ℕ → Type 0) (moment : V → ℕ) (left_since : V → ℕ → List ℕ → Type 0) (fault_count : V → ℕ) where
  abbrev pub IsOpened : V → Database → Type 0
  IsOpened disk start = IfTold (seen disk) (λ file. OpensTo file start)

  -- a run begins with what its file opens to, a crash leaves a prefix of what it commits, groups end by causes of its log,
  -- the sweep is that of the state which its records give, and where that was asked for the last migration is finished
  abbrev pub HoldsOver : Bool → V → V → RunClaim
  HoldsOver finish old new status script start history ended last =
      IsOpened old start × IfTold (seen new) (λ file. KeepsFile may_leave moment left_since old new status script start history ended)
      × AreCaused start script history (seen new) (fault_count new) status ended × IsGivenBy seen may_leave status new last
      × IsFinished finish status (seen new) last

  abbrev pub IsRunOverDisk : Options → Script → V → V → Status → List ℕ → Type 0
  IsRunOverDisk options script old new Done text = IsRunTold options (HoldsOver options.finish old new Done script) script text × (fault_count new ≤ fault_count old)
  IsRunOverDisk options script old new DiskFault text =
      (((text ≡ fault_of_disk) × IsReadAtMost seen may_leave moment left_since old new) ⊎ IsRunTold options (HoldsOver options.finish old new DiskFault script) script text)
      × Rose (fault_count old) (fault_count new)
  IsRunOverDisk options script old new (NotALog at) text =
      (text ≡ not_a_log_text at) × IfTold (seen old) (λ file. RefusedAt first_state StepsTo file at)
      × OnlyRead seen may_leave moment left_since old new × (fault_count new ≤ fault_count old)
  IsRunOverDisk options script old new other text = ⊥

-- a script was run over the log under a path with the options of the demonstration: the status, and at Done these lines, which are what
-- is shown of the report
abbrev pub IsShownRun : {V : Type 0} → List ℕ → Shelving V → Script → List ℕ → Status → List ℕ → Type 0
IsShownRun path shelf script lines Done text =
    ComesOfLog path shelf Done × (text ≡ lines)
    × ((report : List ℕ) × IsRunTold demo_options (HoldsOfLog demo_options.finish path shelf Done script) script report × (text ≡ shown_of report))
IsShownRun path shelf script lines DiskFault text = CountsOne shelf × (text ≡ fault_of_disk)
IsShownRun path shelf script lines other text = ⊥

-- the answer to a source that is asked to be run over nothing, for the bytes that it tells, or for some
pub record IsInputAnswer (input : Stream) (status : Status) (text : List ℕ) : Type 0 where
  pub bytes : List ℕ
  pub are_told : IfTold input.bytes (λ told. bytes ≡ told)
  pub causes : ComesOfInput input bytes status
  pub is_text : IsTextOf (Some trying) (λ status script start history ended last. ⊥) ⊤ bytes status text
