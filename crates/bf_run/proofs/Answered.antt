-- The answers of the top call, with bytes that are those of the source where it tells them.
use Rattle.std.proofs.Common.{◌≡◌, ℕ, ◌+◌, ◌<◌, ◌≤◌, List, [], ◌++◌, length, codes, Option, Some, None, Result, Ok, Err, IfOk, inl, inr, refl, sym, ap, subst, ◌∙◌, arith, length-append}
use Rattle.std.specs.Global.{Vec}
use Rattle.std.specs.Io.KnownBytes.{IsAtEnd}
use Rattle.bf_io.specs.Causes.{Rose}
use Rattle.bf_io.specs.Whole.{IfTold, ReadPast}
use Rattle.bf_io.specs.declared.error.ReadError.{ReadError}
use Rattle.bf_io.specs.declared.error.ReadError.TheVariants.{TooLong, Fault}
use Rattle.bf_base.specs.Limits.{longest_script}
use Rattle.bf_lex.specs.declared.fault.ScriptKind.TheVariants.{ScriptTooLong}
use Rattle.bf_text.specs.Replies.{newline}
use Rattle.bf_run.specs.declared.status.Status.{Status}
use Rattle.bf_run.specs.declared.status.Status.TheVariants.{Done, Usage, Script as ScriptError, ReadFault, WriteFault, DiskFault, NotALog, NotEmpty, Memory}
use Rattle.bf_run.specs.Creating.{Shelving}
use Rattle.bf_parse.specs.Scripts.{IsScriptText}
use Rattle.bf_tree.specs.declared.script.Script.{Script}
use Rattle.bf_run.specs.Outcome.{RunClaim, HoldsAsked, Stream, IsCalm, IsUnread, IsUntouched, ComesOfDemonstration, ComesOfFile, ComesOfInput, ComesOfLog, ComesOfRun, IsAnswer, IsTextOf, fault_text}
use Rattle.bf_run.specs.Top.{HasRead, IsInputAnswer, IsNoScript, IsScriptOf, IsTextOfRun}
use Rattle.bf_run.specs.Untold.{ReadsLog}
use Rattle.bf_words.specs.Words.{Asked, Options, creating, demonstrating, running, trying}

-- what follows of two facts of a value, if there is one
pub of_both : {X E : Type 0} (r : Result X E) (P Q R : X → Type 0) → ((x : X) → P x → Q x → R x) → IfOk r P → IfOk r Q → IfOk r R
of_both (Ok x) P Q R both p q = both x p q
of_both (Err e) P Q R both p q = tt

-- the bytes that a source tells, or some
abbrev bytes_of : Option (List ℕ) → List ℕ
bytes_of None = []
bytes_of (Some bytes) = bytes

told_of : (left : Option (List ℕ)) → IfTold left (λ told. bytes_of left ≡ told)
told_of None = tt
told_of (Some bytes) = refl

-- a source of which more than the most was read had more than the most
more_than : (most : ℕ) (left after : Option (List ℕ)) → ReadPast most left after
    → (bytes : List ℕ) × IfTold left (λ told. bytes ≡ told) × (most < length bytes)
more_than most None after past = (past.0, tt, omega (arith, past.1))
more_than most (Some bytes) (Some rest) past =
    let count : length bytes ≡ length past.0 + length rest = ap length past.2 ∙ length-append past.0 rest in
    (bytes, refl, omega (arith, past.1, count))
more_than most (Some bytes) None past = absurd past.2

-- where too much was read no read failed
pub no_fault : {X : Type 0} (r : Result X ReadError) (e : ReadError) → r ≡ Err e → e ≡ TooLong → r ≡ Err Fault → ⊥
no_fault r e is too_long fault = cc

module _ (input : Stream) where
  -- a source that failed
  pub not_read : (told : Status × Vec ℕ) → told.0 ≡ ReadFault → told.1.items ≡ codes "read fault" ++ newline → Rose input.faults input.faults_after
      → HasRead input (Err told)
  not_read told same spells rose = record {
    bytes = bytes_of input.bytes;
    are_told = told_of input.bytes;
    is_read = subst (λ (s : Status). IsNoScript input (bytes_of input.bytes) s told.1.items) (sym same) (rose, spells);
  }

  -- one with more bytes than a script
  pub too_long : (told : Status × Vec ℕ) → told.0 ≡ ScriptError (record { at = longest_script; kind = ScriptTooLong })
      → told.1.items ≡ fault_text (record { at = longest_script; kind = ScriptTooLong })
      → IsCalm input → ReadPast longest_script input.bytes input.bytes_after → HasRead input (Err told)
  too_long told same spells calm past =
      let long = more_than longest_script input.bytes input.bytes_after past in
      record {
        bytes = long.0;
        are_told = long.1;
        is_read = subst (λ (s : Status). IsNoScript input long.0 s told.1.items) (sym same) ((calm, inl (long.2, refl), inr past), spells);
      }

-- what the bytes are that were read is what the source is that gave them
module _ (input : Stream) (read : List ℕ) (calm : IsCalm input) (told : IfTold input.bytes (λ all. read ≡ all))
    (at_end : IsAtEnd input.bytes_after) (short : length read ≤ longest_script) where
  pub read_whole : (r : Result Script (Status × Vec ℕ)) → IsScriptOf read r → HasRead input r
  read_whole (Ok script) is = record { bytes = read; are_told = told; is_read = ((calm, (script, is), at_end), is) }
  read_whole (Err why) is = record {
    bytes = read;
    are_told = told;
    is_read = subst (λ (s : Status). IsNoScript input read s why.1.items) (sym is.2) ((calm, is.1, inl (at_end, short)), is.3);
  }

-- where there is no script the status and its text answer any call that asked for one
module _ (input : Stream) (bytes : List ℕ) where
  pub no_script : (asks : Option Asked) (Holds : RunClaim) (Before : Type 0) (status : Status) (text : List ℕ) → IsNoScript input bytes status text
      → ComesOfInput input bytes status × IsTextOf asks Holds Before bytes status text
  no_script asks Holds Before (ScriptError fault) text is = is
  no_script asks Holds Before ReadFault text is = is
  no_script asks Holds Before Done text is = absurd is
  no_script asks Holds Before Usage text is = absurd is
  no_script asks Holds Before WriteFault text is = absurd is
  no_script asks Holds Before DiskFault text is = absurd is
  no_script asks Holds Before (NotALog at) text is = absurd is
  no_script asks Holds Before (NotEmpty n) text is = absurd is
  no_script asks Holds Before Memory text is = absurd is

  -- of a run over a log, of which the shelf was not asked
  pub none_run : {V : Type 0} (path : List ℕ) (shelf : Shelving V) (status : Status) (text : List ℕ) → IsUntouched shelf → IsNoScript input bytes status text
      → ComesOfRun path input bytes shelf status
  none_run path shelf (ScriptError fault) text untouched is = (is.0, untouched)
  none_run path shelf ReadFault text untouched is = (is.0, untouched)
  none_run path shelf Done text untouched is = absurd is
  none_run path shelf Usage text untouched is = absurd is
  none_run path shelf WriteFault text untouched is = absurd is
  none_run path shelf DiskFault text untouched is = absurd is
  none_run path shelf (NotALog at) text untouched is = absurd is
  none_run path shelf (NotEmpty n) text untouched is = absurd is
  none_run path shelf Memory text untouched is = absurd is

  -- and of one that was run
  module _ {V : Type 0} (path : List ℕ) (options : Options) (shelf : Shelving V) (script : Script) (comes : ComesOfInput input bytes Done) (reads : IsScriptText bytes (Ok script)) where
    pub ran_over : (status : Status) (text : List ℕ) → ComesOfLog path shelf status → IsTextOfRun options (HoldsAsked (Some (running path options)) shelf) (ReadsLog shelf path) script status text
        → ComesOfRun path input bytes shelf status × IsTextOf (Some (running path options)) (HoldsAsked (Some (running path options)) shelf) (ReadsLog shelf path) bytes status text
    ran_over Done text log told = ((comes, log), (script, reads, told))
    ran_over DiskFault text log (inl fault) = ((comes, log), inl fault)
    ran_over DiskFault text log (inr told) = ((comes, log), inr (script, reads, told))
    ran_over (NotALog at) text log told = ((comes, log), told)
    ran_over Usage text log told = absurd log
    ran_over (ScriptError fault) text log told = absurd log
    ran_over ReadFault text log told = absurd log
    ran_over WriteFault text log told = absurd log
    ran_over (NotEmpty n) text log told = absurd log
    ran_over Memory text log told = absurd told

-- the answers to what the words ask
module _ {V : Type 0} (input : Stream) (shelf : Shelving V) where
  pub of_words : (asks : Option Asked) (status : Status) (text : List ℕ) → None ≡ asks → IsUnread input → status ≡ Usage
      → text ≡ codes "usage error" ++ newline → IsAnswer asks input shelf status text
  of_words asks status text none unread same spells =
      subst (λ (s : Status). IsAnswer asks input shelf s text) (sym same)
      (subst (λ (a : Option Asked). IsAnswer a input shelf Usage text) none
      (record { bytes = bytes_of input.bytes; are_told = told_of input.bytes; causes = (unread, tt); is_text = spells }))

  pub of_input : (asks : Option Asked) (status : Status) (text : List ℕ) → Some trying ≡ asks → IsInputAnswer input status text
      → IsAnswer asks input shelf status text
  of_input asks status text try given =
      subst (λ (a : Option Asked). IsAnswer a input shelf status text) try
      (record { bytes = given.bytes; are_told = given.are_told; causes = given.causes; is_text = given.is_text })

  -- a run over a log, of a script or of none
  pub of_run : (path : List ℕ) (options : Options) (script : Script) (status : Status) (text : List ℕ) → HasRead input (Ok script) → ComesOfLog path shelf status
      → IsTextOfRun options (HoldsAsked (Some (running path options)) shelf) (ReadsLog shelf path) script status text → IsAnswer (Some (running path options)) input shelf status text
  of_run path options script status text read log told =
      let both = ran_over input read.bytes path options shelf script read.is_read.0 read.is_read.1 status text log told in
      record { bytes = read.bytes; are_told = read.are_told; causes = both.0; is_text = both.1 }

  pub of_none_run : (path : List ℕ) (options : Options) (told : Status × Vec ℕ) → HasRead input (Err told) → IsUntouched shelf
      → IsAnswer (Some (running path options)) input shelf told.0 told.1.items
  of_none_run path options told read untouched = record {
    bytes = read.bytes;
    are_told = read.are_told;
    causes = none_run input read.bytes path shelf told.0 told.1.items untouched read.is_read;
    is_text = (no_script input read.bytes (Some (running path options)) (HoldsAsked (Some (running path options)) shelf) (ReadsLog shelf path) told.0 told.1.items read.is_read).1;
  }

  pub of_running : (asks : Option Asked) (path : List ℕ) (options : Options) (status : Status) (text : List ℕ) → Some (running path options) ≡ asks
      → IsAnswer (Some (running path options)) input shelf status text → IsAnswer asks input shelf status text
  of_running asks path options status text run given = subst (λ (a : Option Asked). IsAnswer a input shelf status text) run given

  pub of_file : (asks : Option Asked) (path : List ℕ) (status : Status) (text : List ℕ) → Some (creating path) ≡ asks → IsUnread input
      → ComesOfFile path shelf status → ((bytes : List ℕ) → IsTextOf (Some (creating path)) (λ status script start history ended last. ⊥) (Unit {0}) bytes status text)
      → IsAnswer asks input shelf status text
  of_file asks path status text create unread causes spells =
      subst (λ (a : Option Asked). IsAnswer a input shelf status text) create
      (record { bytes = bytes_of input.bytes; are_told = told_of input.bytes; causes = (unread, causes); is_text = spells (bytes_of input.bytes) })

  pub of_demonstration : (asks : Option Asked) (count : ℕ) (path : List ℕ) (status : Status) (text : List ℕ) → Some (demonstrating count path) ≡ asks → IsUnread input
      → ComesOfDemonstration path shelf status
      → ((bytes : List ℕ) → IsTextOf (Some (demonstrating count path)) (HoldsAsked (Some (demonstrating count path)) shelf) (Unit {0}) bytes status text)
      → IsAnswer asks input shelf status text
  of_demonstration asks count path status text demo unread causes spells =
      subst (λ (a : Option Asked). IsAnswer a input shelf status text) demo
      (record { bytes = bytes_of input.bytes; are_told = told_of input.bytes; causes = (unread, causes); is_text = spells (bytes_of input.bytes) })
