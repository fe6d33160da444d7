-- What a log tells by its answers.
use Rattle.std.proofs.Common.{◌≡◌, ℕ, ◌+◌, ◌<◌, ◌≤◌, true, false, List, length, None, Some, Result, Ok, Err, refl, sym, ap, subst, ◌∙◌, inl, inr, arith}
use Rattle.std.specs.Prelude.{IfNone, IfSome, nat_lt}
use Rattle.std.proofs.lemmas.Bool.{cases_Bool}
use Rattle.std.proofs.lemmas.Bool.Decides.{nat_tests}
use Rattle.std.proofs.lemmas.Option.{same_Some}
use Rattle.bf_disk.specs.declared.disk.Disk.{Ghosts}
use Rattle.bf_journal.specs.Leaving.{Fails, Stores}
use Rattle.bf_journal.specs.States.{StandsOn}
use Rattle.bf_log.specs.Append.{Outcome, Stops, disk_of, end_of, halted_of, refusal, standing_of}
use Rattle.bf_log.specs.Format.{frame}
use Rattle.bf_log.specs.declared.error.AppendError.{AppendError}
use Rattle.bf_log.specs.declared.error.AppendError.TheVariants as appends
use Rattle.bf_log.specs.declared.log.Log.{Log}
use Rattle.bf_log.specs.declared.log.Standing.{Standing}
use Rattle.bf_log.specs.declared.log.Standing.TheVariants.{Ready, Halted as Stopped, Spent}
use Rattle.bf_machine.specs.declared.journal.KeepError.{KeepError}
use Rattle.bf_machine.specs.declared.journal.KeepError.TheVariants as keeps
use Rattle.bf_machine.specs.interleaving.Journals.{IsMoveIn, IsOfLogIfEnded, IsOfMoveIfEnded}
use Rattle.bf_recover.specs.Legal.{first_state}
use Rattle.bf_recover.specs.Steps.{StepsTo}
use Rattle.bf_sql.specs.migrations.Lazy.{LazyState}
use Rattle.bf_tree.specs.declared.reply.Cause.{Cause}
use Rattle.bf_tree.specs.declared.reply.Cause.TheVariants.{Died, DiskFault, Halted, LogFull, TooLarge}
use Rattle.bf_run.specs.Answers.{GoesOn, IsAnsweredAs, IsFaultCause, IsSizeTold, IsToldAs, StandsBehind, StepsByGroup, Tells, TellsNow, is_ready, largest_log, largest_record, told_as}

-- an error as a group is told of it
pub is_told_as : (lazy next : LazyState) (error : AppendError) → IsToldAs lazy next (Err error) (Err (told_as error))
is_told_as lazy next appends.Memory = refl
is_told_as lazy next appends.DiskFault = inl refl
is_told_as lazy next (appends.Halted faults) = refl
is_told_as lazy next (appends.TooLarge size) = refl
is_told_as lazy next (appends.LogFull end need) = refl

-- and a fault as it is told at a move
pub fault_told_as : (lazy next : LazyState) (cause : Cause) → IsFaultCause cause → IsMoveIn lazy next → IsToldAs lazy next (Err appends.DiskFault) (Err (keeps.Ended cause))
fault_told_as lazy next (Died older) fault move = absurd fault
fault_told_as lazy next DiskFault fault move = inl refl
fault_told_as lazy next (Halted faults) fault move = inr (move, (faults, refl))
fault_told_as lazy next (LogFull end need) fault move = absurd fault
fault_told_as lazy next (TooLarge size) fault move = absurd fault

-- a journal's answer for an append that told the number of its record
abbrev pub answer_by : Result ℕ AppendError → Result (Unit {0}) KeepError
answer_by (Ok number) = Ok tt
answer_by (Err error) = Err (told_as error)

pub is_of_log_as : (error : AppendError) → IsOfLogIfEnded true (Err (told_as error))
is_of_log_as appends.Memory = tt
is_of_log_as appends.DiskFault = (refl, refl)
is_of_log_as (appends.Halted faults) = (refl, refl)
is_of_log_as (appends.TooLarge size) = (refl, refl)
is_of_log_as (appends.LogFull end need) = (refl, refl)

pub no_size : (lazy next : LazyState) (cause : Cause) → IsFaultCause cause → IsSizeTold lazy next (Err (keeps.Ended cause))
no_size lazy next (Died older) fault = absurd fault
no_size lazy next DiskFault fault = tt
no_size lazy next (Halted faults) fault = tt
no_size lazy next (LogFull end need) fault = absurd fault
no_size lazy next (TooLarge size) fault = absurd fault

pub fault_is_of_log : (cause : Cause) → IsFaultCause cause → IsOfLogIfEnded true (Err (keeps.Ended cause))
fault_is_of_log (Died older) fault = absurd fault
fault_is_of_log DiskFault fault = (refl, refl)
fault_is_of_log (Halted faults) fault = (refl, refl)
fault_is_of_log (LogFull end need) fault = absurd fault
fault_is_of_log (TooLarge size) fault = absurd fault

-- and no fault tells that a record is too large
pub fault_is_of_move : (cause : Cause) → IsFaultCause cause → IsOfMoveIfEnded (Err (keeps.Ended cause))
fault_is_of_move (Died older) fault = absurd fault
fault_is_of_move DiskFault fault = refl
fault_is_of_move (Halted faults) fault = refl
fault_is_of_move (LogFull end need) fault = absurd fault
fault_is_of_move (TooLarge size) fault = absurd fault

-- TELLS THE SIZE of what was to be appended: that it is too large, which it is; or with its frame the need
abbrev TellsSize : ℕ → AppendError → Type 0
TellsSize size (appends.TooLarge n) = (n ≡ size) × (largest_record < size)
TellsSize size (appends.LogFull end need) = need ≡ size + frame
TellsSize size other = Unit {0}

size_in : (lazy next : LazyState) (payload : List ℕ) → StepsByGroup lazy payload next → (error : AppendError) → TellsSize (length payload) error → IsSizeTold lazy next (Err (told_as error))
size_in lazy next payload own appends.Memory tells = tt
size_in lazy next payload own appends.DiskFault tells = tt
size_in lazy next payload own (appends.Halted faults) tells = tt
size_in lazy next payload own (appends.TooLarge n) tells = (payload, own, tells.0)
size_in lazy next payload own (appends.LogFull end need) tells = (length payload, (payload, own.0, refl), tells)

-- and of what fits the need alone is told
size_within : (lazy next : LazyState) (payload : List ℕ) → StepsTo lazy payload next → length payload ≤ largest_record → (error : AppendError) → TellsSize (length payload) error
    → IsSizeTold lazy next (Err (told_as error))
size_within lazy next payload steps fits appends.Memory tells = tt
size_within lazy next payload steps fits appends.DiskFault tells = tt
size_within lazy next payload steps fits (appends.Halted faults) tells = tt
size_within lazy next payload steps fits (appends.TooLarge n) tells = absurd (omega (arith, fits, tells.1))
size_within lazy next payload steps fits (appends.LogFull end need) tells = (length payload, (payload, steps, refl), tells)

fits_in : (size : ℕ) → size ≤ largest_record → (error : AppendError) → TellsSize size error → IsOfMoveIfEnded (Err (told_as error))
fits_in size fits appends.Memory tells = tt
fits_in size fits appends.DiskFault tells = refl
fits_in size fits (appends.Halted faults) tells = refl
fits_in size fits (appends.TooLarge n) tells = absurd (omega (arith, fits, tells.1))
fits_in size fits (appends.LogFull end need) tells = refl

module _ {D : Type 0} {g : Ghosts D} where
  -- a log that takes records is not halted
  not_halted : (log : Log D g) → log.standing ≡ Ready → halted_of log ≡ None
  not_halted log ready = rw ready refl

  -- A LOG THAT STAYS
  module _ (old new : Log D g) (same : new ≡ old) where
    stays_counted : (faults : ℕ) → halted_of old ≡ None → halted_of new ≡ Some faults → g.fault_count (disk_of new) ≡ faults
    stays_counted faults none some =
        let clash : None ≡ Some faults = sym none ∙ (sym (ap (λ (log : Log D g). halted_of log) same) ∙ some) in
        absurd cc

    stays_rises : end_of old ≤ end_of new
    stays_rises = subst (λ (log : Log D g). end_of old ≤ end_of log) (sym same) (omega arith)

    pub goes_at_rest : (answer : Result (Unit {0}) KeepError) → StandsBehind old new answer → GoesOn old new answer
    goes_at_rest answer stands = record { stays = λ rest. same; counted = stays_counted; rises = stays_rises; stands = stands }

  -- A LOG THAT TOOK RECORDS, where the append was not refused
  module _ (old new : Log D g) (ready : old.standing ≡ Ready) where
    never_at_rest : is_ready (standing_of old) ≡ false → new ≡ old
    never_at_rest rest =
        let clash : true ≡ false = sym (ap is_ready ready) ∙ rest in
        absurd cc

    takes_records : (becomes : Standing) → new.standing ≡ becomes → ((faults : ℕ) → becomes ≡ Stopped faults → ⊥) → (faults : ℕ) → halted_of old ≡ None → halted_of new ≡ Some faults
        → g.fault_count (disk_of new) ≡ faults
    takes_records Ready is not faults none some = let clash : None ≡ Some faults = sym (rw is refl) ∙ some in absurd cc
    takes_records Spent is not faults none some = let clash : None ≡ Some faults = sym (rw is refl) ∙ some in absurd cc
    takes_records (Stopped n) is not faults none some = absurd (not n refl)

    not_stopped : (faults : ℕ) → Ready ≡ Stopped faults → ⊥
    not_stopped faults clash = cc

    not_stopped_spent : (faults : ℕ) → Spent ≡ Stopped faults → ⊥
    not_stopped_spent faults clash = cc

    goes_by_outcome : (size : ℕ) (r : Result ℕ AppendError) → Outcome size old new r → GoesOn old new (answer_by r)
    goes_by_outcome size (Ok number) came = record {
      stays = never_at_rest;
      counted = takes_records Ready came.ready not_stopped;
      rises = omega (arith, came.end);
      stands = came.ready;
    }
    goes_by_outcome size (Err appends.DiskFault) came =
        let halted : halted_of new ≡ Some (g.fault_count new.disk) = rw came.standing refl in record {
          stays = never_at_rest;
          counted = λ faults none some. same_Some (g.fault_count new.disk) faults (sym halted ∙ some);
          rises = omega (arith, came.end);
          stands = (not_halted old ready, (g.fault_count new.disk, halted));
        }
    goes_by_outcome size (Err appends.Memory) came = elim came as (λ _. GoesOn old new (Err keeps.Memory)) [
      | inl same ↦ goes_at_rest old new same (Err keeps.Memory) (inl same)
      | inr stops ↦ record { stays = never_at_rest; counted = takes_records Spent stops.standing not_stopped_spent; rises = omega (arith, stops.end); stands = inr stops.standing }
    ]
    goes_by_outcome size (Err (appends.Halted faults)) came = absurd came
    goes_by_outcome size (Err (appends.TooLarge n)) came = absurd came
    goes_by_outcome size (Err (appends.LogFull end need)) came = absurd came

  -- BY AN APPEND
  module _ (old new : Log D g) (size : ℕ) (r : Result ℕ AppendError) where
    abbrev Refuses : Standing → Type 0
    Refuses s = IfSome (refusal s (end_of old) size largest_record largest_log) (λ e. (r ≡ Err e) × (new ≡ old))

    abbrev Comes : Standing → Type 0
    Comes s = IfNone (refusal s (end_of old) size largest_record largest_log) (Outcome size old new r)

    refused_so : (e : AppendError) → (r ≡ Err e) × (new ≡ old) → StandsBehind old new (Err (told_as e)) → GoesOn old new (answer_by r)
    refused_so e refused stands = subst (λ (r : Result ℕ AppendError). GoesOn old new (answer_by r)) (sym refused.0) (goes_at_rest old new refused.1 (Err (told_as e)) stands)

    goes_at : (s : Standing) → old.standing ≡ s → Refuses s → Comes s → GoesOn old new (answer_by r)
    goes_at Spent at refused came = refused_so appends.Memory refused (inl refused.1)
    goes_at (Stopped faults) at refused came =
        let here : halted_of old ≡ Some faults = rw at refl in
        refused_so (appends.Halted faults) refused (subst (λ (log : Log D g). halted_of log ≡ Some faults) (sym refused.1) here)
    goes_at Ready at refused came = elim (cases_Bool (nat_lt largest_record size)) as (λ _. GoesOn old new (answer_by r)) [
      | inl over ↦
          let got : (r ≡ Err (appends.TooLarge size)) × (new ≡ old) = rw over at refused in
          refused_so (appends.TooLarge size) got (grind (arith, nat_tests, over))
      | inr fits ↦ elim (cases_Bool (nat_lt largest_log (end_of old + 1 + (size + frame)))) as (λ _. GoesOn old new (answer_by r)) [
        | inl full ↦
            let got : (r ≡ Err (appends.LogFull (end_of old) (size + frame))) × (new ≡ old) = rw (fits, full) at refused in
            let most : size ≤ largest_record = grind (arith, nat_tests, fits) in
            let over : largest_log < end_of old + 1 + (size + frame) = grind (arith, nat_tests, full) in
            refused_so (appends.LogFull (end_of old) (size + frame)) got (stays_rises old new got.1, over, omega (arith, most))
        | inr room ↦
            let got : Outcome size old new r = rw (fits, room) at came in
            goes_by_outcome old new at size r got
      ]
    ]

    pub goes_on_by : Refuses old.standing → Comes old.standing → GoesOn old new (answer_by r)
    goes_on_by refused came = goes_at old.standing refl refused came

  tells_by_outcome : (old new : Log D g) (size : ℕ) (error : AppendError) → Outcome size old new (Err error) → TellsSize size error
  tells_by_outcome old new size appends.Memory came = tt
  tells_by_outcome old new size appends.DiskFault came = tt
  tells_by_outcome old new size (appends.Halted faults) came = absurd came
  tells_by_outcome old new size (appends.TooLarge n) came = absurd came
  tells_by_outcome old new size (appends.LogFull end need) came = absurd came

  -- a size that is told is that of the record
  module _ (old new : Log D g) (size : ℕ) (error : AppendError) where
    tells_as : (e : AppendError) → ◌≡◌ {A = Result ℕ AppendError} (Err error) (Err e) → TellsSize size e → TellsSize size error
    tells_as e same tells =
        let is : e ≡ error = cc in
        subst (TellsSize size) is tells

    tells_at : (s : Standing) → Refuses old new size (Err error) s → Comes old new size (Err error) s → TellsSize size error
    tells_at Spent refused came = tells_as appends.Memory refused.0 tt
    tells_at (Stopped faults) refused came = tells_as (appends.Halted faults) refused.0 tt
    tells_at Ready refused came = elim (cases_Bool (nat_lt largest_record size)) as (λ _. TellsSize size error) [
      | inl over ↦
          let got : ◌≡◌ {A = Result ℕ AppendError} (Err error) (Err (appends.TooLarge size)) × (new ≡ old) = rw over at refused in
          tells_as (appends.TooLarge size) got.0 (refl, grind (arith, nat_tests, over))
      | inr fits ↦ elim (cases_Bool (nat_lt largest_log (end_of old + 1 + (size + frame)))) as (λ _. TellsSize size error) [
        | inl full ↦
            let got : ◌≡◌ {A = Result ℕ AppendError} (Err error) (Err (appends.LogFull (end_of old) (size + frame))) × (new ≡ old) = rw (fits, full) at refused in
            tells_as (appends.LogFull (end_of old) (size + frame)) got.0 refl
        | inr room ↦
            let got : Outcome size old new (Err error) = rw (fits, room) at came in
            tells_by_outcome old new size error got
      ]
    ]

  pub size_told : (old new : Log D g) (lazy next : LazyState) (payload : List ℕ) → StepsByGroup lazy payload next → (error : AppendError) → Refuses old new (length payload) (Err error) old.standing
      → Comes old new (length payload) (Err error) old.standing → IsSizeTold lazy next (Err (told_as error))
  size_told old new lazy next payload own error refused came = size_in lazy next payload own error (tells_at old new (length payload) error old.standing refused came)

  pub size_told_within : (old new : Log D g) (lazy next : LazyState) (payload : List ℕ) → StepsTo lazy payload next → length payload ≤ largest_record → (error : AppendError)
      → Refuses old new (length payload) (Err error) old.standing → Comes old new (length payload) (Err error) old.standing → IsSizeTold lazy next (Err (told_as error))
  size_told_within old new lazy next payload steps fits error refused came =
      size_within lazy next payload steps fits error (tells_at old new (length payload) error old.standing refused came)

  -- and none is told of one that fits
  pub fits_told : (old new : Log D g) (size : ℕ) → size ≤ largest_record → (error : AppendError) → Refuses old new size (Err error) old.standing → Comes old new size (Err error) old.standing
      → IsOfMoveIfEnded (Err (told_as error))
  fits_told old new size fits error refused came = fits_in size fits error (tells_at old new size error old.standing refused came)

  -- a fault at a move is told by its cause
  fault_now : (old new : Log D g) (cause : Cause) → IsFaultCause cause → halted_of old ≡ None → Tells new cause → TellsNow old new cause
  fault_now old new (Died older) fault none tells = absurd fault
  fault_now old new DiskFault fault none tells = (none, tells)
  fault_now old new (Halted faults) fault none tells = tells
  fault_now old new (LogFull end need) fault none tells = absurd fault
  fault_now old new (TooLarge size) fault none tells = absurd fault

  pub goes_by_fault : (old new : Log D g) (cause : Cause) → IsFaultCause cause → GoesOn old new (Err (keeps.Ended DiskFault)) → (Tells new DiskFault → Tells new cause)
      → GoesOn old new (Err (keeps.Ended cause))
  goes_by_fault old new cause fault goes tells = record {
    stays = goes.stays;
    counted = goes.counted;
    rises = goes.rises;
    stands = fault_now old new cause fault goes.stands.0 (tells goes.stands.1);
  }

  -- a log that is given up behind a record that it took
  pub goes_given_up : (older old new : Log D g) → GoesOn older old (Ok tt) → Stops Spent old new → GoesOn older new (Err keeps.Memory)
  goes_given_up older old new goes stops = record {
    stays = λ rest.
        let same : is_ready (standing_of old) ≡ is_ready (standing_of older) = ap (λ (log : Log D g). is_ready (standing_of log)) (goes.stays rest) in
        let clash : true ≡ false = sym (ap is_ready goes.stands) ∙ same ∙ rest in
        absurd cc;
    counted = λ faults none some.
        let spent : halted_of new ≡ None = rw stops.standing refl in
        let clash : None ≡ Some faults = sym spent ∙ some in
        absurd cc;
    rises = omega (arith, goes.rises, stops.end);
    stands = inr stops.standing;
  }

  -- a record that was kept and is given up
  pub given_up : (lazy next : LazyState) (older old new : Log D g) → IsAnsweredAs lazy next older old (Ok tt)
      → (Stores first_state StepsTo lazy next older old → Fails first_state StepsTo lazy next older new)
      → (Stores first_state StepsTo lazy next older old → StandsOn first_state StepsTo lazy new)
      → IsAnsweredAs lazy next older new (Err keeps.Memory)
  given_up lazy next older old new (Ok done, appended, told) fails stands = (
    Err appends.Memory,
    λ on. let was = appended on in (inr (fails was.0), stands was.0),
    refl,
  )
  given_up lazy next older old new (Err appends.Memory, appended, told) fails stands = absurd cc
  given_up lazy next older old new (Err appends.DiskFault, appended, inl told) fails stands = absurd cc
  given_up lazy next older old new (Err appends.DiskFault, appended, inr told) fails stands = absurd (let is = told.1.1 in cc)
  given_up lazy next older old new (Err (appends.Halted faults), appended, told) fails stands = absurd cc
  given_up lazy next older old new (Err (appends.TooLarge size), appended, told) fails stands = absurd cc
  given_up lazy next older old new (Err (appends.LogFull end need), appended, told) fails stands = absurd cc
