-- What comes of a log that is made for the demonstration, and of the run over it.
use Rattle.std.proofs.Common.{◌≡◌, ◌≢◌, inl, inr, ℕ, ◌<◌, List, [], ◌∷◌, ◌++◌, length, Option, None, Some, Result, Ok, Err, IfOk, refl, sym, ap, subst, ◌∙◌, arith}
use Rattle.std.proofs.lemmas.Bool.{false≢true}
use Rattle.std.specs.Prelude.{IsSome}
use Rattle.std.specs.Global.{Vec}
use Rattle.bf_disk.specs.Images.{Only}
use Rattle.bf_disk.specs.Shelves.{ByPath}
use Rattle.bf_io.specs.Whole.{IfTold}
use Rattle.bf_journal.specs.Reopening.{After}
use Rattle.bf_log.specs.Format.{IsChain, empty_log, entry, magic, open_gate}
use Rattle.bf_recover.specs.Legal.{first_state}
use Rattle.bf_recover.specs.Steps.{StepsTo}
use Rattle.bf_sql.specs.Database.{Database, empty_database}
use Rattle.bf_sql.specs.migrations.Lazy.{LazyState, view_of}
use Rattle.bf_tree.specs.declared.script.Script.{Script}
use Rattle.bf_demo.specs.Script.{demonstration}
use Rattle.bf_demo.specs.Shown.{last_lines, shown_of}
use Rattle.bf_run.specs.Creating.{CountsNone, CountsOne, IsEmptyFile, IsNewLog, IsReadAlone, KeepsBytes, Makes, Shelving, Spares, TellsFiles, WhereHeld}
use Rattle.bf_run.specs.Demonstrating.{AfterMaking, demo_options}
use Rattle.bf_run.specs.Outcome.{ComesOfDemonstration, ComesOfFile, ComesOfLog, HoldsAsked, HoldsOfLog, IsRunTold, IsTextOf, fault_of_disk}
use Rattle.bf_run.specs.Running.{IsLogOf, KeepsOthers, Opens, OpensTo}
use Rattle.bf_run.specs.Top.{IsShownRun, IsTextOfRun}
use Rattle.bf_run.specs.declared.status.Status.{Status}
use Rattle.bf_run.specs.declared.status.Status.TheVariants.{Done, Usage, Script as ScriptError, ReadFault, WriteFault, DiskFault, NotALog, NotEmpty, Memory}
use Rattle.bf_words.specs.Words.{Options, creating, demonstrating, running}

-- what follows of three facts of a value, if there is one
pub of_three : {X E : Type 0} (r : Result X E) (P Q R T : X → Type 0) → ((x : X) → P x → Q x → R x → T x) → IfOk r P → IfOk r Q → IfOk r R → IfOk r T
of_three (Ok x) P Q R T all p q s = all x p q s
of_three (Err e) P Q R T all p q s = tt

-- A SHELF before a log was made, when it was, and behind the run
module _ {V : Type 0} (shelf : Shelving V) (path : List ℕ) (made : Option (ByPath V)) (faults : ℕ) where
  abbrev making : Shelving V
  making = record shelf { held_after = made; faults_after = faults }

  abbrev later : Shelving V
  later = record shelf { held = made; faults = faults }

  pub counted : CountsNone making → CountsOne later → CountsOne shelf
  counted (inl same) rose = omega (arith, same, rose)
  counted (inr last) rose = omega (arith, last, rose)

  spared_bytes : (old new : Option V) → IsEmptyFile shelf old → KeepsBytes shelf old new
  spared_bytes None new empty = tt
  spared_bytes (Some disk) new empty = go (shelf.seen disk) empty
    where
      go : (told : Option (List ℕ)) → IfTold told (λ file. file ≡ []) → IfTold told (λ file. 0 < length file → IsReadAlone shelf (Some disk) new)
      go None none = tt
      go (Some file) none = λ some. absurd (omega (arith, ap length none, some))

  spared_in : (before mid after : Option (ByPath V)) → WhereHeld (λ old new. IsEmptyFile shelf (old path) × IsNewLog shelf (new path)) before mid
      → WhereHeld (λ old new. ((other : List ℕ) → other ≢ path → new other ≡ old other) × KeepsBytes shelf (old path) (new path)) before mid
      → WhereHeld (λ old new. (other : List ℕ) → other ≢ path → new other ≡ old other) mid after
      → WhereHeld (λ old new. ((other : List ℕ) → other ≢ path → new other ≡ old other) × KeepsBytes shelf (old path) (new path)) before after
  spared_in None None None makes first then = tt
  spared_in None None (Some after) makes first then = absurd then
  spared_in None (Some mid) after makes first then = absurd makes
  spared_in (Some before) None after makes first then = absurd makes
  spared_in (Some before) (Some mid) None makes first then = absurd then
  spared_in (Some before) (Some mid) (Some after) makes first then =
      (λ other apart. then other apart ∙ first.0 other apart, spared_bytes (before path) (after path) makes.0)

  pub spared : Makes making path → Spares making path → KeepsOthers later path → Spares shelf path
  spared makes first then = spared_in shelf.held made shelf.held_after makes.1 first then

  -- a run of the script of a size, whose lines these are
  pub shown_by_size : (count : ℕ) (script : Script) (lines : List ℕ) → script ≡ demonstration count → lines ≡ last_lines count → (status : Status) (text : List ℕ)
      → IsShownRun path later script lines status text → IsShownRun path later (demonstration count) (last_lines count) status text
  shown_by_size count script lines is spell status text shown =
      subst (λ (told : List ℕ). IsShownRun path later (demonstration count) told status text) spell
      (subst (λ (run : Script). IsShownRun path later run lines status text) is shown)

  -- what is told of the run is told of the demonstration
  module _ (makes : Makes making path) (count : ℕ) where
    pub run_comes : (status : Status) (text : List ℕ) → IsShownRun path later (demonstration count) (last_lines count) status text → ComesOfDemonstration path shelf status
    run_comes Done text ran = (made, faults, makes, ran.0)
    run_comes DiskFault text ran = counted makes.0 ran.0
    run_comes Usage text ran = absurd ran
    run_comes (ScriptError f) text ran = absurd ran
    run_comes ReadFault text ran = absurd ran
    run_comes WriteFault text ran = absurd ran
    run_comes (NotALog at) text ran = absurd ran
    run_comes (NotEmpty n) text ran = absurd ran
    run_comes Memory text ran = absurd ran

    pub run_is_told : (status : Status) (text : List ℕ) → IsShownRun path later (demonstration count) (last_lines count) status text → (bytes : List ℕ)
        → IsTextOf (Some (demonstrating count path)) (HoldsAsked (Some (demonstrating count path)) shelf) (Unit {0}) bytes status text
    run_is_told Done text ran bytes =
        let told = ran.2.1 in (
          ran.1,
          (
            ran.2.0,
            record {
              start = told.start;
              transcripts = told.transcripts;
              history = told.history;
              ended = told.ended;
              sweep = told.sweep;
              is_run = told.is_run;
              told = told.told;
              holds = (made, faults, makes, told.holds);
              report_written = told.report_written;
            },
            ran.2.2,
          ),
        )
    run_is_told DiskFault text ran bytes = ran.1
    run_is_told Usage text ran bytes = absurd ran
    run_is_told (ScriptError f) text ran bytes = absurd ran
    run_is_told ReadFault text ran bytes = absurd ran
    run_is_told WriteFault text ran bytes = absurd ran
    run_is_told (NotALog at) text ran bytes = absurd ran
    run_is_told (NotEmpty n) text ran bytes = absurd ran
    run_is_told Memory text ran bytes = absurd ran

-- A RUN with the options of the demonstration is told by its lines
module _ {V : Type 0} (shelf : Shelving V) (path : List ℕ) (script : Script) (lines : List ℕ) (answer : Status × Vec ℕ) where
  pub shows_run : (options : Options) (Before : Type 0) (report : List ℕ) → options ≡ demo_options → ComesOfLog path shelf Done
      → IsTextOfRun options (HoldsAsked (Some (running path options)) shelf) Before script Done report
      → answer.0 ≡ Done → answer.1.items ≡ lines → answer.1.items ≡ shown_of report → IsShownRun path shelf script lines answer.0 answer.1.items
  shows_run options Before report same comes told done is shown =
      subst (λ (s : Status). IsShownRun path shelf script lines s answer.1.items) (sym done)
      (comes, is, (report, subst (λ (o : Options). IsRunTold o (HoldsOfLog o.finish path shelf Done script) script report) same told, shown))

  pub shows_fault : ComesOfLog path shelf DiskFault → answer.0 ≡ DiskFault → answer.1.items ≡ fault_of_disk → IsShownRun path shelf script lines answer.0 answer.1.items
  shows_fault comes fault is = subst (λ (s : Status). IsShownRun path shelf script lines s answer.1.items) (sym fault) (comes, is)

-- where no log was made, that is told
module _ {V : Type 0} (shelf : Shelving V) (path : List ℕ) (count : ℕ) where
  pub refusal_comes : (status : Status) → (status ≡ Done → ⊥) → ComesOfFile path shelf status → ComesOfDemonstration path shelf status
  refusal_comes Done not comes = absurd (not refl)
  refusal_comes DiskFault not comes = comes
  refusal_comes (NotEmpty n) not comes = comes
  refusal_comes Memory not comes = comes
  refusal_comes Usage not comes = absurd comes
  refusal_comes (ScriptError f) not comes = absurd comes
  refusal_comes ReadFault not comes = absurd comes
  refusal_comes WriteFault not comes = absurd comes
  refusal_comes (NotALog at) not comes = absurd comes

  pub refusal_is_told : (status : Status) (text : List ℕ) → (status ≡ Done → ⊥)
      → ((bytes : List ℕ) → IsTextOf (Some (creating path)) (λ status script start history ended last. ⊥) (Unit {0}) bytes status text) → (bytes : List ℕ)
      → IsTextOf (Some (demonstrating count path)) (HoldsAsked (Some (demonstrating count path)) shelf) (Unit {0}) bytes status text
  refusal_is_told Done text not told bytes = absurd (not refl)
  refusal_is_told DiskFault text not told bytes = told bytes
  refusal_is_told (NotEmpty n) text not told bytes = told bytes
  refusal_is_told Memory text not told bytes = told bytes
  refusal_is_told Usage text not told bytes = told bytes
  refusal_is_told (ScriptError f) text not told bytes = told bytes
  refusal_is_told ReadFault text not told bytes = told bytes
  refusal_is_told WriteFault text not told bytes = told bytes
  refusal_is_told (NotALog at) text not told bytes = told bytes

-- A LOG THAT WAS JUST MADE has no records, and so opens to the first state
no_payloads : (payloads : List (List ℕ)) (chain : List ℕ) → empty_log ≡ magic ++ chain → IsChain payloads chain → payloads ≡ []
no_payloads [] chain e is = refl
no_payloads (payload ∷ payloads) chain e is =
    let closed : chain ≡ 0 ∷ [] = cc in
    let begins : 0 ∷ [] ≡ entry payload ++ is.0 = sym closed ∙ is.2 in
    let gate : 0 ≡ open_gate = cc in
    absurd (omega (arith, gate))

behind_none : (payloads : List (List ℕ)) (state : LazyState) → payloads ≡ [] → After StepsTo first_state payloads state → first_state ≡ state
behind_none [] state none after = after
behind_none (payload ∷ payloads) state none after = absurd cc

pub opens_empty : (start : Database) → OpensTo empty_log start → start ≡ empty_database
opens_empty start opens =
    let reopens = opens.1 in
    let log = reopens.1 in
    let first = behind_none reopens.0 opens.0 (no_payloads reopens.0 log.0 log.1 log.2) reopens.2 in
    opens.2 ∙ ap view_of (sym first)

-- so a run over it begins with the empty database, where its file is told
module _ {V : Type 0} (shelf : Shelving V) (path : List ℕ) (start : Database) (tells : TellsFiles shelf) where
  new_told : (Q : List ℕ → Type 0) (told : Option (List ℕ)) → IsSome told → IfTold told (λ file. (file ≡ empty_log) × Q file)
      → IfTold told (λ file. OpensTo file start) → start ≡ empty_database
  new_told Q None is new opens = absurd (false≢true is)
  new_told Q (Some file) is new opens = opens_empty start (subst (λ (f : List ℕ). OpensTo f start) new.0 opens)

  new_held : (held : Option V) → IsNewLog shelf held → IsLogOf shelf start held → start ≡ empty_database
  new_held None new opened = absurd new
  new_held (Some disk) new opened =
      new_told (λ file. Only empty_log (shelf.may_leave disk)) (shelf.seen disk) (tells.1 disk) new
      (subst (λ (d : V). IfTold (shelf.seen d) (λ file. OpensTo file start)) opened.1 opened.2)

  new_made : (before made after : Option (ByPath V)) → IsSome before → WhereHeld (λ old new. IsEmptyFile shelf (old path) × IsNewLog shelf (new path)) before made
      → WhereHeld (λ old new. IsLogOf shelf start (old path)) made after → start ≡ empty_database
  new_made None made after is makes opens = absurd (false≢true is)
  new_made (Some before) None after is makes opens = absurd makes
  new_made (Some before) (Some made) None is makes opens = absurd opens
  new_made (Some before) (Some made) (Some after) is makes opens = new_held (made path) makes.1 opens

  pub begins_empty : AfterMaking shelf path (λ later. Opens later path start) → start ≡ empty_database
  begins_empty made = new_made shelf.held made.0 shelf.held_after tells.0 made.2.1 made.3
