-- What the answer of an appending call says of a log and of two states.
use Rattle.std.proofs.Common.{◌≡◌, ◌≢◌, inl, inr, ℕ, ◌≤◌, List, [], ◌∷◌, ◌++◌, length, Option, Some, Result, Ok, Err, IfSome, IfNone, OnOk, refl, sym, subst}
use Rattle.bf_disk.specs.declared.disk.Disk.{Ghosts}
use Rattle.bf_disk.specs.Images.{LeavesOnly}
use Rattle.bf_disk.specs.Told.{WhereTold}
use Rattle.bf_log.specs.Append.{Holds, StoppedAt, Outcome, BeforeOrAfter, refusal}
use Rattle.bf_log.specs.Format.{with_entry}
use Rattle.bf_log.specs.declared.error.AppendError.{AppendError}
use Rattle.bf_log.specs.declared.error.AppendError.TheVariants.{Halted, TooLarge, LogFull, DiskFault, Memory}
use Rattle.bf_log.specs.declared.log.Log.{Log}
use Rattle.bf_log.specs.declared.log.Standing.TheVariants.{Ready}
use Rattle.bf_journal.specs.Answered.{IsAnsweredBy}
use Rattle.bf_journal.specs.Leaving.{Fails, LeavesNoOther, Stores, StoresNothing}
use Rattle.bf_journal.specs.Reopening.{ReopensTo}
use Rattle.bf_journal.specs.States.{IsTold, LastMade, MayLeave, StandsOn, Stored}
use Rattle.bf_journal.proofs.Appended.{IsRefusedWith, Went, went_wrong, went_well, nothing_else, either, made_last, stands_stopped}
use Rattle.bf_journal.proofs.Readings.{after_change, reopens_so}

module _ {L : Type 0} (first : L) (Steps : L → List ℕ → L → Type 0)
    (once : (state : L) (payload : List ℕ) (a b : L) → Steps state payload a → Steps state payload b → a ≡ b) {D : Type 0} {g : Ghosts D}
    (only_now : (disk : D) (image : List ℕ) → g.left_since disk (g.moment disk) image → g.may_leave disk image) where
  -- the state that the last record made stands on the log
  last_is_stored : (state next : L) (log : Log D g) → LastMade first Steps state next log → Stored first Steps next log
  last_is_stored state next log made = record {
    file = made.file;
    payloads = made.payloads ++ made.last ∷ [];
    holds = made.holds;
    gives = after_change Steps made.payloads made.last first state next made.gives made.legal;
  }

  -- a crash leaves the state alone that is stored on a log
  pub alone : (state : L) (log : Log D g) → (IsTold log → Stored first Steps state log) → (left : Option L)
      → MayLeave first Steps log (g.moment log.disk) left → left ≡ Some state
  alone state log stored left leaves =
      let here = stored leaves.0 in
      let is : leaves.1.0 ≡ here.file = here.holds.durable leaves.1.0 (only_now log.disk leaves.1.0 leaves.1.1) in
      reopens_so first Steps once here.file here.payloads state left here.holds.is_log here.gives
      (subst (λ (image : List ℕ). ReopensTo first Steps image left) is leaves.1.2)

module _ {L : Type 0} (first : L) (Steps : L → List ℕ → L → Type 0)
    (once : (state : L) (payload : List ℕ) (a b : L) → Steps state payload a → Steps state payload b → a ≡ b) {D : Type 0} {g : Ghosts D}
    (earlier : (disk : D) (t u : ℕ) (image : List ℕ) → t ≤ u → g.left_since disk u image → g.left_since disk t image)
    (only_now : (disk : D) (image : List ℕ) → g.left_since disk (g.moment disk) image → g.may_leave disk image)
    (old new : Log D g) (payload : List ℕ) (state next : L) (stands : StandsOn first Steps state old) (change : Steps state payload next)
    (told : WhereTold (λ before now. length before ≤ length now) (g.seen old.disk) (g.seen new.disk))
    (later : g.moment old.disk ≤ g.moment new.disk)
    (any_moment : (file : List ℕ) (payloads : List (List ℕ)) → Holds file payloads old
    → LeavesOnly g.moment g.left_since old.disk new.disk (BeforeOrAfter payloads (payloads ++ payload ∷ [])))
    (stops : (file : List ℕ) (payloads : List (List ℕ)) → Holds file payloads old → new.standing ≢ Ready → StoppedAt payloads (payloads ++ payload ∷ []) new)
    (stopped : (before after : List (List ℕ)) → StoppedAt before after old
    → StoppedAt before after new × LeavesOnly g.moment g.left_since old.disk new.disk (BeforeOrAfter before after)) where
  no_other : LeavesNoOther first Steps old new
  no_other = record {
    later = later;
    nothing_else = nothing_else first Steps once earlier only_now old new payload state next stands change told any_moment stopped;
  }

  nothing_stored : new ≡ old → StoresNothing first Steps old new × StandsOn first Steps state new
  nothing_stored same =
      let nothing : StoresNothing first Steps old new = record {
        as_ready = λ ready. subst (λ (log : Log D g). log.standing ≡ Ready) same ready;
        no_other = no_other;
        adds_nothing = λ t left le leaves. subst (λ (log : Log D g). MayLeave first Steps log t left) same leaves;
      } in (nothing, subst (λ (log : Log D g). StandsOn first Steps state log) (sym same) stands)

  it_failed : (old.standing ≡ Ready) × (new.standing ≢ Ready) → Fails first Steps state next old new × StandsOn first Steps state new
  it_failed went =
      let fails : Fails first Steps state next old new = record {
        was_ready = went.0;
        stopped = went.1;
        no_other = no_other;
        either = either first Steps once earlier only_now old new payload state next stands change told went.0 any_moment;
      } in (fails, stands_stopped first Steps once earlier only_now old new payload state next stands change told went.0 went.1 stops)

  -- an error left all as it was, or the log has stopped
  answered_error : (size largest limit : ℕ) (error : AppendError) → Went old new size largest limit error
      → IsAnsweredBy first Steps state next old new (Err error)
  answered_error size largest limit DiskFault went = it_failed went
  answered_error size largest limit Memory (inl same) = (inl (nothing_stored same).0, (nothing_stored same).1)
  answered_error size largest limit Memory (inr went) = (inr (it_failed went).0, (it_failed went).1)
  answered_error size largest limit (Halted faults) went = nothing_stored went
  answered_error size largest limit (TooLarge n) went = nothing_stored went
  answered_error size largest limit (LogFull end need) went = nothing_stored went

  -- Ok has stored the change
  answered_ok : (number : ℕ) → (old.standing ≡ Ready) × (new.standing ≡ Ready)
      → ((file : List ℕ) (payloads : List (List ℕ)) → Holds file payloads old → Holds (with_entry file old.end payload) (payloads ++ payload ∷ []) new)
      → IsAnsweredBy first Steps state next old new (Ok number)
  answered_ok number ready stored =
      let last : IsTold new → LastMade first Steps state next new =
      made_last first Steps once earlier only_now old new payload state next stands change told ready.0 stored in
      let now : IsTold new → Stored first Steps next new = λ is. last_is_stored first Steps once only_now state next new (last is) in
      let stores : Stores first Steps state next old new = record {
        was_ready = ready.0;
        ready = ready.1;
        no_other = no_other;
        either = either first Steps once earlier only_now old new payload state next stands change told ready.0 any_moment;
        alone = alone first Steps once only_now next new now;
        last = λ file is. last (file, is);
      } in (stores, λ file is. inl (now (file, is)))

  -- each answer, by what the log says of it
  pub answered : (largest limit : ℕ) (result : Result ℕ AppendError)
      → IfSome (refusal old.standing old.end (length payload) largest limit) (IsRefusedWith old new result)
      → IfNone (refusal old.standing old.end (length payload) largest limit) (Outcome (length payload) old new result)
      → ((file : List ℕ) (payloads : List (List ℕ)) → Holds file payloads old
      → OnOk result (Holds (with_entry file old.end payload) (payloads ++ payload ∷ []) new))
      → IsAnsweredBy first Steps state next old new result
  answered largest limit (Ok number) refused outcome stored =
      answered_ok number
      (went_well old new (length payload) largest limit (refusal old.standing old.end (length payload) largest limit) number refl refused outcome) stored
  answered largest limit (Err error) refused outcome stored =
      answered_error (length payload) largest limit error
      (went_wrong old new (length payload) largest limit (refusal old.standing old.end (length payload) largest limit) error refl refused outcome)
