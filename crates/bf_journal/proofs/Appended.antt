-- What an append to a log leaves of the states that stand on it.
use Rattle.std.proofs.Common.{◌≡◌, ◌≢◌, ◌⊎◌, inl, inr, ⊎_elim, ℕ, ◌≤◌, List, [], ◌∷◌, ◌++◌, length, Option, None, Some, Result, Ok, Err, IfSome, IfNone, refl, arith}
use Rattle.std.proofs.lemmas.Bool.{cases_lt}
use Rattle.std.proofs.lemmas.Bool.Decides.{nat_tests}
use Rattle.bf_disk.specs.declared.disk.Disk.{Ghosts}
use Rattle.bf_disk.specs.Images.{LeavesOnly}
use Rattle.bf_disk.specs.Told.{WhereTold}
use Rattle.bf_log.specs.Append.{Holds, StoppedAt, Outcome, BeforeOrAfter, refusal}
use Rattle.bf_log.specs.Format.{with_entry}
use Rattle.bf_log.specs.declared.error.AppendError.{AppendError}
use Rattle.bf_log.specs.declared.error.AppendError.TheVariants.{Halted, TooLarge, LogFull, DiskFault, Memory}
use Rattle.bf_log.specs.declared.log.Log.{Log}
use Rattle.bf_log.specs.declared.log.Standing.{Standing}
use Rattle.bf_log.specs.declared.log.Standing.TheVariants.{Ready, Halted as Stopped_at, Spent}
use Rattle.bf_journal.specs.States.{IsTold, LastMade, MayLeave, StandsOn, Stopped, Stored}
use Rattle.bf_journal.proofs.Readings.{reopens_either}

-- a file that is told afterwards was told before
told_back : (R : List ℕ → List ℕ → Type 0) (old new : Option (List ℕ)) → WhereTold R old new → (file : List ℕ) × (new ≡ Some file) → (file : List ℕ) × (old ≡ Some file)
told_back R None None told is = (is.0, is.1)
told_back R None (Some new) told is = absurd told
told_back R (Some old) new told is = (old, refl)

-- a log is not refused only where it is ready
ready_then : (standing : Standing) (end size largest limit : ℕ) (answer : Option AppendError) → answer ≡ refusal standing end size largest limit → answer ≡ None → standing ≡ Ready
ready_then Spent end size largest limit answer is none = cc
ready_then (Stopped_at faults) end size largest limit answer is none = cc
ready_then Ready end size largest limit answer is none = refl

halted_is_not_ready : (faults : ℕ) (standing : Standing) → standing ≡ Stopped_at faults → standing ≢ Ready
halted_is_not_ready faults standing is ready = cc

pub spent_is_not_ready : (standing : Standing) → standing ≡ Spent → standing ≢ Ready
spent_is_not_ready standing is ready = cc

-- no refusal before the device is asked tells a fault
never_fault : (standing : Standing) (end size largest limit : ℕ) (answer : Option AppendError) → answer ≡ refusal standing end size largest limit → answer ≡ Some DiskFault → ⊥
never_fault Spent end size largest limit answer is fault = cc
never_fault (Stopped_at faults) end size largest limit answer is fault = cc
never_fault Ready end size largest limit answer is fault = grind (arith, nat_tests)

-- an append answered this refusal, and left the log as it was
abbrev pub IsRefusedWith : {D : Type 0} {g : Ghosts D} → Log D g → Log D g → Result ℕ AppendError → AppendError → Type 0
IsRefusedWith old new result why = (result ≡ Err why) × (new ≡ old)

module _ {D : Type 0} {g : Ghosts D} (old new : Log D g) (size largest limit : ℕ) where
  -- what an append that answered an error has done: stopped a log that was ready, or left all as it was
  abbrev pub Went : AppendError → Type 0
  Went DiskFault = (old.standing ≡ Ready) × (new.standing ≢ Ready)
  Went Memory = (new ≡ old) ⊎ ((old.standing ≡ Ready) × (new.standing ≢ Ready))
  Went (Halted faults) = new ≡ old
  Went (TooLarge n) = new ≡ old
  Went (LogFull end need) = new ≡ old

  same_error : (error why : AppendError) (result : Result ℕ AppendError) → result ≡ Err error → result ≡ Err why → Some why ≡ Some error
  same_error error why result one two = cc

  pub went_wrong : (answer : Option AppendError) (error : AppendError) → answer ≡ refusal old.standing old.end size largest limit
      → IfSome answer (IsRefusedWith old new (Err error)) → IfNone answer (Outcome size old new (Err error)) → Went error
  went_wrong (Some why) DiskFault is refused outcome =
      absurd (never_fault old.standing old.end size largest limit (Some why) is (same_error DiskFault why (Err DiskFault) refl refused.0))
  went_wrong (Some why) Memory is refused outcome = inl refused.1
  went_wrong (Some why) (Halted faults) is refused outcome = refused.1
  went_wrong (Some why) (TooLarge n) is refused outcome = refused.1
  went_wrong (Some why) (LogFull end need) is refused outcome = refused.1
  went_wrong None DiskFault is refused outcome =
      (ready_then old.standing old.end size largest limit None is refl, halted_is_not_ready (g.fault_count new.disk) new.standing outcome.standing)
  went_wrong None Memory is refused outcome = ⊎_elim (λ same. inl same)
      (λ stops. inr (ready_then old.standing old.end size largest limit None is refl, spent_is_not_ready new.standing stops.standing)) outcome
  went_wrong None (Halted faults) is refused outcome = absurd outcome
  went_wrong None (TooLarge n) is refused outcome = absurd outcome
  went_wrong None (LogFull end need) is refused outcome = absurd outcome

  -- one that answered Ok was made to a log that was ready, and left it so
  pub went_well : (answer : Option AppendError) (number : ℕ) → answer ≡ refusal old.standing old.end size largest limit
      → IfSome answer (IsRefusedWith old new (Ok number)) → IfNone answer (Outcome size old new (Ok number))
      → (old.standing ≡ Ready) × (new.standing ≡ Ready)
  went_well (Some why) number is refused outcome = let no : ⊥ = (let differ = refused.0 in cc) in absurd no
  went_well None number is refused outcome = (ready_then old.standing old.end size largest limit None is refl, outcome.ready)

module _ {L : Type 0} (first : L) (Steps : L → List ℕ → L → Type 0)
    (once : (state : L) (payload : List ℕ) (a b : L) → Steps state payload a → Steps state payload b → a ≡ b) {D : Type 0} {g : Ghosts D}
    (earlier : (disk : D) (t u : ℕ) (image : List ℕ) → t ≤ u → g.left_since disk u image → g.left_since disk t image)
    (only_now : (disk : D) (image : List ℕ) → g.left_since disk (g.moment disk) image → g.may_leave disk image)
    (old new : Log D g) (payload : List ℕ) (state next : L) (stands : StandsOn first Steps state old) (change : Steps state payload next)
    (told : WhereTold (λ before now. length before ≤ length now) (g.seen old.disk) (g.seen new.disk)) where
  -- what may be left since a moment could be left since then before, or may be left since the begin
  pub nothing_else : ((file : List ℕ) (payloads : List (List ℕ)) → Holds file payloads old
      → LeavesOnly g.moment g.left_since old.disk new.disk (BeforeOrAfter payloads (payloads ++ payload ∷ [])))
      → ((before after : List (List ℕ)) → StoppedAt before after old
      → StoppedAt before after new × LeavesOnly g.moment g.left_since old.disk new.disk (BeforeOrAfter before after))
      → (t : ℕ) (left : Option L) → MayLeave first Steps new t left → MayLeave first Steps old t left ⊎ MayLeave first Steps new (g.moment old.disk) left
  nothing_else any_moment stopped t left leaves =
      let back : IsTold old = told_back (λ before now. length before ≤ length now) (g.seen old.disk) (g.seen new.disk) told leaves.0 in
      let split : (P : List ℕ → Type 0) → LeavesOnly g.moment g.left_since old.disk new.disk P
      → MayLeave first Steps old t left ⊎ MayLeave first Steps new (g.moment old.disk) left = λ P only.
      ⊎_elim
      (λ above. inr (leaves.0, (leaves.1.0, earlier new.disk (g.moment old.disk) t leaves.1.0 (omega (arith, above)) leaves.1.1, leaves.1.2)))
      (λ within. ⊎_elim (λ past. inl (back, (leaves.1.0, past, leaves.1.2))) (λ here. inr (leaves.0, (leaves.1.0, here, leaves.1.2)))
      (only.nothing_else t leaves.1.0 (omega (arith, within)) leaves.1.1))
      (cases_lt (g.moment old.disk) t) in
      ⊎_elim (λ stored. split (BeforeOrAfter stored.payloads (stored.payloads ++ payload ∷ [])) (any_moment stored.file stored.payloads stored.holds))
      (λ stop. split (BeforeOrAfter stop.payloads (stop.payloads ++ stop.failed ∷ [])) (stopped stop.payloads (stop.payloads ++ stop.failed ∷ []) stop.images).1)
      (stands back.0 back.1)

  -- since the begin of an append to a log that was ready, the state or the next may be left
  pub either : old.standing ≡ Ready
      → ((file : List ℕ) (payloads : List (List ℕ)) → Holds file payloads old
      → LeavesOnly g.moment g.left_since old.disk new.disk (BeforeOrAfter payloads (payloads ++ payload ∷ [])))
      → (left : Option L) → MayLeave first Steps new (g.moment old.disk) left → (left ≡ Some state) ⊎ (left ≡ Some next)
  either ready any_moment left leaves =
      let back : IsTold old = told_back (λ before now. length before ≤ length now) (g.seen old.disk) (g.seen new.disk) told leaves.0 in
      ⊎_elim
      (λ stored. reopens_either first Steps once leaves.1.0 stored.payloads payload state next left stored.gives change
      ((any_moment stored.file stored.payloads stored.holds).each leaves.1.0 leaves.1.1) leaves.1.2)
      (λ stop. absurd (stop.images.stopped ready))
      (stands back.0 back.1)

  -- once it was stored, the last record made the next state
  pub made_last : old.standing ≡ Ready
      → ((file : List ℕ) (payloads : List (List ℕ)) → Holds file payloads old → Holds (with_entry file old.end payload) (payloads ++ payload ∷ []) new)
      → IsTold new → LastMade first Steps state next new
  made_last ready stored is =
      let back : IsTold old = told_back (λ before now. length before ≤ length now) (g.seen old.disk) (g.seen new.disk) told is in
      ⊎_elim
      (λ (was : Stored first Steps state old). let now : LastMade first Steps state next new = record {
        file = with_entry was.file old.end payload;
        payloads = was.payloads;
        last = payload;
        holds = stored was.file was.payloads was.holds;
        gives = was.gives;
        legal = change;
      } in now)
      (λ stop. absurd (stop.images.stopped ready))
      (stands back.0 back.1)

  -- a log that stopped has the state, or the next
  pub stands_stopped : old.standing ≡ Ready → new.standing ≢ Ready
      → ((file : List ℕ) (payloads : List (List ℕ)) → Holds file payloads old → new.standing ≢ Ready → StoppedAt payloads (payloads ++ payload ∷ []) new)
      → StandsOn first Steps state new
  stands_stopped ready halted stops file is =
      let back : IsTold old = told_back (λ before now. length before ≤ length now) (g.seen old.disk) (g.seen new.disk) told (file, is) in
      ⊎_elim
      (λ (was : Stored first Steps state old). let now : Stopped first Steps state new = record {
        payloads = was.payloads;
        failed = payload;
        next = next;
        images = stops was.file was.payloads was.holds halted;
        gives = was.gives;
        legal = change;
      } in inr now)
      (λ stop. absurd (stop.images.stopped ready))
      (stands back.0 back.1)
