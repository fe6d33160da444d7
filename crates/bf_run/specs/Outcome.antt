-- What a call of the program answers, when, and what it writes.
use Rattle.std.specs.Prelude.{◌≡◌, ℕ, ◌+◌, ◌≤◌, ◌⊎◌, Bool, List, ◌++◌, length, codes, Option, None, Some, Ok, Err, ⊤}
use Rattle.std.specs.Io.KnownBytes.{Appends, Keeps, Consumes, IsAtEnd}
use Rattle.bf_io.specs.Causes.{Rose}
use Rattle.bf_io.specs.Whole.{IfTold, TookPrefix}
use Rattle.bf_lex.specs.declared.fault.ScriptFault.{ScriptFault}
use Rattle.bf_lex.specs.Faults.{kind_text}
use Rattle.bf_base.specs.Limits.{longest_script}
use Rattle.bf_parse.specs.Scripts.{IsScriptText}
use Rattle.bf_tree.specs.declared.script.Script.{Script}
use Rattle.bf_tree.specs.declared.reply.Reply.{Reply}
use Rattle.bf_tree.specs.declared.history.Entry.{Entry}
use Rattle.bf_tree.specs.declared.history.Sweep.{Sweep}
use Rattle.bf_text.specs.Replies.{newline, numbered}
use Rattle.bf_text.specs.Report.{report_text}
use Rattle.bf_run.specs.Answers.{AreToldTheirCauses}
use Rattle.bf_run.specs.declared.status.Status.{Status}
use Rattle.bf_run.specs.declared.status.Status.TheVariants.{Done, Usage, Script as ScriptError, ReadFault, WriteFault, DiskFault, NotALog, NotEmpty, Memory}
use Rattle.bf_run.specs.Causes.{CausesEnds}
use Rattle.bf_run.specs.Creating.{Shelving, Makes, Refuses, CountsNone, CountsOne, Spares}
use Rattle.bf_demo.specs.Script.{demonstration}
use Rattle.bf_demo.specs.Shown.{last_lines, shown_of}
use Rattle.bf_run.specs.Deaths.{IsRunWithDeaths}
use Rattle.bf_run.specs.Demonstrating.{AfterMaking, demo_options}
use Rattle.bf_run.specs.Keeping.{GivesSweep, KeepsLog}
use Rattle.bf_run.specs.Options.{Finishes, audit_if}
use Rattle.bf_run.specs.Running.{KeepsOthers, Opens, RefusesLog}
use Rattle.bf_run.specs.Untold.{ReadsLog, RunsOut}
use Rattle.bf_run.specs.Words.{IfCreating, IfRunning}
use Rattle.bf_words.specs.Words.{Asked, Options, creating, demonstrating, running, trying, asked}
use Rattle.bf_machine.specs.InOrder.{IsRunInOrder}
use Rattle.bf_machine.specs.interleaving.Machines.{EndedGroup}
use Rattle.bf_sql.specs.Database.{Database}
use Rattle.bf_sql.specs.History.{replayed}
use Rattle.bf_sql.specs.migrations.Lazy.{LazyState}

-- STREAM: the bytes that a source has left, or that a sink took, where they are told, and its count of faults, each
-- before and after a call
pub record Stream : Type 0 where
  pub bytes : Option (List ℕ)
  pub bytes_after : Option (List ℕ)
  pub faults : ℕ
  pub faults_after : ℕ

-- no call of it failed
abbrev pub IsCalm : Stream → Type 0
IsCalm stream = stream.faults_after ≡ stream.faults

-- nothing was read
abbrev pub IsUnread : Stream → Type 0
IsUnread input = Keeps input.bytes input.bytes_after × IsCalm input

-- the text is the report of a run of the script that the bytes are
pub record IsReport (bytes text : List ℕ) : Type 0 where
  pub script : Script
  pub transcripts : List (List Reply)
  pub history : List Entry
  pub sweep : Sweep
  pub is_script : IsScriptText bytes (Ok script)
  pub is_run : IsRunInOrder script transcripts history sweep
  pub report_written : text ≡ report_text transcripts history None sweep

-- CLAIM: what holds of a run over a log, for its status: of its script, of the database that it begins with, of its history, of
-- the groups that the log has ended, and of the state whose sweep is told
abbrev pub RunClaim : Type 1
RunClaim = Status → Script → Database → List Entry → List EndedGroup → LazyState → Type 0

-- the text is the report of a run of a script with these options; of its begin, history, ended groups and last state this holds; and each of
-- these groups is one of the script that the report tells its cause
pub record IsRunTold (options : Options) (Holds : Database → List Entry → List EndedGroup → LazyState → Type 0) (script : Script) (text : List ℕ) : Type 0 where
  pub start : Database
  pub transcripts : List (List Reply)
  pub history : List Entry
  pub ended : List EndedGroup
  pub sweep : Sweep
  pub is_run : IsRunWithDeaths options.retries start script ended transcripts history sweep
  pub told : AreToldTheirCauses script transcripts ended
  pub holds : Holds start history ended is_run.last
  pub report_written : text ≡ report_text transcripts history (audit_if options.audit (replayed script start history).1) sweep

-- and the script is the one that the bytes are
abbrev pub IsRunReport : Options → (Script → Database → List Entry → List EndedGroup → LazyState → Type 0) → List ℕ → List ℕ → Type 0
IsRunReport options Holds bytes text = (script : Script) × IsScriptText bytes (Ok script) × IsRunTold options (Holds script) script text

-- the text is a script; each one is served
abbrev pub IsScript : List ℕ → Type 0
IsScript bytes = (script : Script) × IsScriptText bytes (Ok script)

-- the source had no more bytes than a script and was read to its end, or until it had given one byte more
abbrev pub IsReadThrough : Stream → List ℕ → Type 0
IsReadThrough input bytes =
    (IsAtEnd input.bytes_after × (length bytes ≤ longest_script))
    ⊎ ((read : List ℕ) × (length read ≡ longest_script + 1) × Consumes input.bytes input.bytes_after read)

-- when a status comes of words that ask for nothing
abbrev pub ComesOfWords : Status → Type 0
ComesOfWords Usage = ⊤
ComesOfWords Memory = ⊤
ComesOfWords other = ⊥

-- when a status comes of the input that is asked to be run, and of its bytes
abbrev pub ComesOfInput : Stream → List ℕ → Status → Type 0
ComesOfInput input bytes (ScriptError fault) = IsCalm input × IsScriptText bytes (Err fault) × IsReadThrough input bytes
ComesOfInput input bytes Done = IsCalm input × IsScript bytes × IsAtEnd input.bytes_after
ComesOfInput input bytes ReadFault = Rose input.faults input.faults_after
ComesOfInput input bytes Memory = ⊤
ComesOfInput input bytes other = ⊥

-- the shelf is as it was
abbrev pub IsUntouched : {V : Type 0} → Shelving V → Type 0
IsUntouched shelf = (shelf.held_after ≡ shelf.held) × (shelf.faults_after ≡ shelf.faults)

-- when a status comes of the log under a path that a script is run over
abbrev pub ComesOfLog : {V : Type 0} → List ℕ → Shelving V → Status → Type 0
ComesOfLog path shelf Done = CountsNone shelf × ((start : Database) × Opens shelf path start)
ComesOfLog path shelf DiskFault = CountsOne shelf
ComesOfLog path shelf (NotALog at) = RefusesLog shelf path at
ComesOfLog path shelf Memory = ⊤
ComesOfLog path shelf other = ⊥

-- when a status comes of the input that is asked to be run over the log under a path, of its bytes, and of the log
abbrev pub ComesOfRun : {V : Type 0} → List ℕ → Stream → List ℕ → Shelving V → Status → Type 0
ComesOfRun path input bytes shelf (ScriptError fault) = ComesOfInput input bytes (ScriptError fault) × IsUntouched shelf
ComesOfRun path input bytes shelf ReadFault = ComesOfInput input bytes ReadFault × IsUntouched shelf
ComesOfRun path input bytes shelf Memory = ⊤
ComesOfRun path input bytes shelf status = ComesOfInput input bytes Done × ComesOfLog path shelf status

-- when a status comes of the file that is asked to be made a log
abbrev pub ComesOfFile : {V : Type 0} → List ℕ → Shelving V → Status → Type 0
ComesOfFile path shelf Done = Makes shelf path
ComesOfFile path shelf (NotEmpty n) = Refuses shelf path n
ComesOfFile path shelf DiskFault = CountsOne shelf
ComesOfFile path shelf Memory = ⊤
ComesOfFile path shelf other = ⊥

-- when a status comes of the file that the demonstration is asked to make its log in, and of its run over this log
abbrev pub ComesOfDemonstration : {V : Type 0} → List ℕ → Shelving V → Status → Type 0
ComesOfDemonstration path shelf Done = AfterMaking shelf path (λ later. ComesOfLog path later Done)
ComesOfDemonstration path shelf (NotEmpty n) = Refuses shelf path n
ComesOfDemonstration path shelf DiskFault = CountsOne shelf
ComesOfDemonstration path shelf Memory = ⊤
ComesOfDemonstration path shelf other = ⊥

-- CAUSES: when a status comes, for what the words ask, the source and its bytes, and the shelf, before anything is
-- written. No two of Usage, Script with its fault, Done, and NotEmpty and NotALog with their numbers can come for the
-- same bytes and the same file, since a text and a log have one reading; so where source and shelf tell theirs each of
-- them comes exactly there, but for faults and want of memory
abbrev pub Comes : {V : Type 0} → Option Asked → Stream → List ℕ → Shelving V → Status → Type 0
Comes None input bytes shelf status = IsUnread input × ComesOfWords status
Comes (Some trying) input bytes shelf status = ComesOfInput input bytes status
Comes (Some (creating path)) input bytes shelf status = IsUnread input × ComesOfFile path shelf status
Comes (Some (running path options)) input bytes shelf status = ComesOfRun path input bytes shelf status
Comes (Some (demonstrating count path)) input bytes shelf status = IsUnread input × ComesOfDemonstration path shelf status

-- a status that comes of the words, the bytes and the file, and not of a fault or of want of memory
abbrev pub IsDetermined : Status → Type 0
IsDetermined ReadFault = ⊥
IsDetermined WriteFault = ⊥
IsDetermined DiskFault = ⊥
IsDetermined Memory = ⊥
IsDetermined other = ⊤

-- the first fault of a text that is no script, behind the byte where it stands
abbrev pub fault_text : ScriptFault → List ℕ
fault_text fault = numbered (codes "script error at ") fault.at ++ codes ": " ++ kind_text fault.kind ++ newline

-- what refuses a file that has so many bytes
abbrev pub not_empty_text : ℕ → List ℕ
not_empty_text n = numbered (codes "not empty: ") n ++ codes " bytes" ++ newline

-- what refuses a log, for the offset of the first thing that is wrong
abbrev pub not_a_log_text : ℕ → List ℕ
not_a_log_text at = numbered (codes "not a log at ") at ++ newline

-- the text of a failed disk where no run was told of
abbrev pub fault_of_disk : List ℕ
fault_of_disk = codes "disk fault" ++ newline

-- the text of the demonstration: the five lines of its size, which are what is shown of the report of its run; of this run this holds
abbrev pub IsDemonstrationText : ℕ → (Script → Database → List Entry → List EndedGroup → LazyState → Type 0) → List ℕ → Type 0
IsDemonstrationText count Holds text =
    (text ≡ last_lines count)
    × ((report : List ℕ) × IsRunTold demo_options (Holds (demonstration count)) (demonstration count) report × (text ≡ shown_of report))

-- the text of Done, for what was asked, what holds of a run over a log, and the bytes of the source
abbrev pub IsDoneText : Option Asked → RunClaim → List ℕ → List ℕ → Type 0
IsDoneText None Holds bytes text = ⊥
IsDoneText (Some trying) Holds bytes text = IsReport bytes text
IsDoneText (Some (creating path)) Holds bytes text = text ≡ codes "created" ++ newline
IsDoneText (Some (running path options)) Holds bytes text = IsRunReport options (Holds Done) bytes text
IsDoneText (Some (demonstrating count path)) Holds bytes text = IsDemonstrationText count (Holds Done) text

-- the text of DiskFault: the report of a run in whose course the disk failed, or that it failed before, where this holds
abbrev pub IsFaultText : Option Asked → RunClaim → Type 0 → List ℕ → List ℕ → Type 0
IsFaultText (Some (running path options)) Holds Before bytes text = ((text ≡ fault_of_disk) × Before) ⊎ IsRunReport options (Holds DiskFault) bytes text
IsFaultText other Holds Before bytes text = text ≡ fault_of_disk

-- the text of a status that has one
abbrev pub IsTextOf : Option Asked → RunClaim → Type 0 → List ℕ → Status → List ℕ → Type 0
IsTextOf asks Holds Before bytes Usage text = text ≡ codes "usage error" ++ newline
IsTextOf asks Holds Before bytes (ScriptError fault) text = text ≡ fault_text fault
IsTextOf asks Holds Before bytes Done text = IsDoneText asks Holds bytes text
IsTextOf asks Holds Before bytes ReadFault text = text ≡ codes "read fault" ++ newline
IsTextOf asks Holds Before bytes DiskFault text = IsFaultText asks Holds Before bytes text
IsTextOf asks Holds Before bytes (NotALog at) text = text ≡ not_a_log_text at
IsTextOf asks Holds Before bytes (NotEmpty n) text = text ≡ not_empty_text n
IsTextOf asks Holds Before bytes WriteFault text = ⊥
IsTextOf asks Holds Before bytes Memory text = ⊥

-- a run over the log under a path begins with a database that this opens to, a crash leaves a prefix of what it commits, the
-- log has ended groups by its causes alone, the sweep is that of the state which its records give, and where that was asked for the
-- last migration is finished
abbrev pub HoldsOfLog : {V : Type 0} → Bool → List ℕ → Shelving V → RunClaim
HoldsOfLog finish path shelf status script start history ended last =
    Opens shelf path start × KeepsLog shelf path status script start history ended × CausesEnds shelf path status script start history ended × GivesSweep shelf path status last
    × Finishes shelf path finish status last

-- over the log that is asked for, or over the one that the demonstration has made first
abbrev pub HoldsAsked : {V : Type 0} → Option Asked → Shelving V → RunClaim
HoldsAsked (Some (running path options)) shelf status script start history ended last =
    HoldsOfLog options.finish path shelf status script start history ended last
HoldsAsked (Some (demonstrating count path)) shelf status script start history ended last =
    AfterMaking shelf path (λ later. HoldsOfLog demo_options.finish path later status script start history ended last)
HoldsAsked other shelf status script start history ended last = ⊥

-- and before one the log that is asked for was read at most
abbrev pub ReadsAsked : {V : Type 0} → Option Asked → Shelving V → Type 0
ReadsAsked (Some (running path options)) shelf = ReadsLog shelf path
ReadsAsked other shelf = ⊤

module _ {V : Type 0} (asks : Option Asked) (input : Stream) (shelf : Shelving V) where
  -- a status that comes, with its text, both of the same bytes: of those that the source tells, or of some
  pub record IsAnswer (status : Status) (text : List ℕ) : Type 0 where
    pub bytes : List ℕ
    pub are_told : IfTold input.bytes (λ told. bytes ≡ told)
    pub causes : Comes asks input bytes shelf status
    pub is_text : IsTextOf asks (HoldsAsked asks shelf) (ReadsAsked asks shelf) bytes status text

  -- the sink took the whole text of an answer, and no write failed
  pub record AnswersWhole (output : Stream) (status : Status) : Type 0 where
    pub text : List ℕ
    pub answer : IsAnswer status text
    pub written : Appends output.bytes output.bytes_after text
    pub calm : IsCalm output

  -- a write failed in the place of an answer, of whose text the sink took a prefix
  pub record IsCutShort (output : Stream) : Type 0 where
    pub status : Status
    pub text : List ℕ
    pub answer : IsAnswer status text
    pub written : TookPrefix output.bytes output.bytes_after text
    pub rose : Rose output.faults output.faults_after

  -- a whole answer, an answer cut short by a fault of the sink, or want of memory and nothing written
  abbrev pub IsOutcome : Stream → Status → Type 0
  IsOutcome output WriteFault = IsCutShort output
  IsOutcome output Memory = Keeps output.bytes output.bytes_after × IsCalm output
  IsOutcome output Done = AnswersWhole output Done
  IsOutcome output Usage = AnswersWhole output Usage
  IsOutcome output (ScriptError fault) = AnswersWhole output (ScriptError fault)
  IsOutcome output ReadFault = AnswersWhole output ReadFault
  IsOutcome output DiskFault = AnswersWhole output DiskFault
  IsOutcome output (NotALog at) = AnswersWhole output (NotALog at)
  IsOutcome output (NotEmpty n) = AnswersWhole output (NotEmpty n)

-- how a call ends for its words: with an outcome; and whatever that is, files that have bytes are spared where a log is to be
-- made, and files that were not asked for where a script is run over one; and where memory ran out, a crash leaves such a log still
pub record Ends {V : Type 0} (words : List (List ℕ)) (input output : Stream) (shelf : Shelving V) (status : Status) : Type 0 where
  pub outcome : IsOutcome (asked words) input shelf output status
  pub spares : IfCreating (asked words) (λ path. Spares shelf path)
  pub others : IfRunning (asked words) (λ path. KeepsOthers shelf path)
  pub out_of_memory : status ≡ Memory → IfRunning (asked words) (λ path. RunsOut input.bytes shelf path)

-- the number that the program ends with
abbrev pub number_of_status : Status → ℕ
number_of_status Done = 0
number_of_status Usage = 1
number_of_status (ScriptError fault) = 2
number_of_status ReadFault = 3
number_of_status WriteFault = 4
number_of_status DiskFault = 5
number_of_status (NotALog at) = 6
number_of_status Memory = 7
number_of_status (NotEmpty n) = 8
