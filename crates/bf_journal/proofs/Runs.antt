-- Each call of a machine keeps what every crash leaves.
use Rattle.std.proofs.Common.{◌≡◌, inl, inr, ⊎_elim, ℕ, ◌≤◌, List, [], ◌∷◌, ◌++◌, Option, None, Some, refl, sym, ◌∙◌, ap, subst, arith}
use Rattle.std.proofs.lemmas.List.{append-nil, append_assoc}
use Rattle.bf_disk.specs.declared.disk.Disk.{Ghosts}
use Rattle.bf_log.specs.declared.log.Log.{Log}
use Rattle.bf_journal.specs.Crashes.{replayed, IsAfterPrefix, Machine, CrashImages, ReopensWith, IsStep, IsRun, last_of, started}
use Rattle.bf_journal.specs.Leaving.{Stores, Fails, StoresNothing}
use Rattle.bf_journal.specs.States.{MayLeave, moment_of}

module _ {V E : Type 0} (run : V → E → V) where
  -- one entry more
  pub replayed_more : (history : List E) (entry : E) (opening : V) → replayed run opening (history ++ entry ∷ []) ≡ run (replayed run opening history) entry
  replayed_more [] entry opening = refl
  replayed_more (first ∷ history) entry opening = replayed_more history entry (run opening first)

  -- what is after a prefix is after one of a longer history
  pub longer : (history more : List E) (opening db : V) → IsAfterPrefix run opening history db → IsAfterPrefix run opening (history ++ more) db
  longer history more opening db at = record {
    prefix = at.prefix;
    behind = at.behind ++ more;
    split = sym (append_assoc at.prefix at.behind more) ∙ ap (λ (front : List E). front ++ more) at.split;
    is = at.is;
  }

  -- the whole history is a prefix
  pub whole : (history : List E) (opening db : V) → db ≡ replayed run opening history → IsAfterPrefix run opening history db
  whole history opening db is = record { prefix = history; behind = []; split = append-nil history; is = is }

module _ {L V E : Type 0} (first : L) (Steps : L → List ℕ → L → Type 0) (view : L → V) (run : V → E → V) {D : Type 0} {g : Ghosts D}
    (earlier : (log : Log D g) (t u : ℕ) (left : Option L) → t ≤ u → MayLeave first Steps log u left → MayLeave first Steps log t left) where
  weaken : (failed : Option V) (P Q : V → Type 0) (left : Option L) → ((db : V) → P db → Q db)
      → ReopensWith view failed P left → ReopensWith view failed Q left
  weaken failed P Q left so reopens = (reopens.0, reopens.1, ⊎_elim (λ is. inl (so (view reopens.0) is)) (λ fails. inr fails) reopens.2)

  commit_keeps : (old : Machine L D g V E) (log : Log D g) (entry : E) (next : L) → CrashImages first Steps view run old
      → Stores first Steps old.state next old.log log → view next ≡ run (view old.state) entry
      → CrashImages first Steps view run (record old { state = next; log = log; history = old.history ++ entry ∷ [] })
  commit_keeps old log entry next kept stores seen =
      let is : view next ≡ replayed run old.opening (old.history ++ entry ∷ []) =
      seen ∙ ap (λ (db : V). run db entry) kept.view_is ∙ sym (replayed_more run old.history entry old.opening) in
      record {
        view_is = is;
        passed = omega (arith, kept.passed, stores.no_other.later);
        none_failed = λ ready. kept.none_failed stores.was_ready;
        now = λ left leaves. (next, stores.alone left leaves, inl refl);
        ever = λ left leaves. ⊎_elim
            (λ before. weaken old.failed (IsAfterPrefix run old.opening old.history) (IsAfterPrefix run old.opening (old.history ++ entry ∷ [])) left
            (longer run old.history (entry ∷ []) old.opening) (kept.ever left before))
            (λ here. ⊎_elim
            (λ same. (
              old.state,
              same,
              inl (longer run old.history (entry ∷ []) old.opening (view old.state) (whole run old.history old.opening (view old.state) kept.view_is)),
            ))
            (λ changed. (next, changed, inl (whole run (old.history ++ entry ∷ []) old.opening (view next) is)))
            (stores.either left here))
            (stores.no_other.nothing_else old.since left leaves);
      }

  move_keeps : (old : Machine L D g V E) (log : Log D g) (next : L) → CrashImages first Steps view run old
      → Stores first Steps old.state next old.log log → view next ≡ view old.state
      → CrashImages first Steps view run (record old { state = next; log = log })
  move_keeps old log next kept stores seen =
      let is : view next ≡ replayed run old.opening old.history = seen ∙ kept.view_is in
      record {
        view_is = is;
        passed = omega (arith, kept.passed, stores.no_other.later);
        none_failed = λ ready. kept.none_failed stores.was_ready;
        now = λ left leaves. (next, stores.alone left leaves, inl refl);
        ever = λ left leaves. ⊎_elim
            (λ before. kept.ever left before)
            (λ here. ⊎_elim
            (λ same. (old.state, same, inl (whole run old.history old.opening (view old.state) kept.view_is)))
            (λ changed. (next, changed, inl (whole run old.history old.opening (view next) is)))
            (stores.either left here))
            (stores.no_other.nothing_else old.since left leaves);
      }

  refusal_keeps : (old : Machine L D g V E) (log : Log D g) → CrashImages first Steps view run old
      → StoresNothing first Steps old.log log → CrashImages first Steps view run (record old { log = log })
  refusal_keeps old log kept nothing =
      let begin : moment_of old.log ≤ moment_of old.log = omega arith in
      record {
        view_is = kept.view_is;
        passed = omega (arith, kept.passed, nothing.no_other.later);
        none_failed = λ ready. kept.none_failed (nothing.as_ready ready);
        now = λ left leaves. kept.now left (nothing.adds_nothing (moment_of old.log) left begin
            (earlier log (moment_of old.log) (moment_of log) left nothing.no_other.later leaves));
        ever = λ left leaves. kept.ever left (nothing.adds_nothing old.since left kept.passed leaves);
      }

  entry_keeps : (old : Machine L D g V E) (entry : E) → CrashImages first Steps view run old
      → run (view old.state) entry ≡ view old.state
      → CrashImages first Steps view run (record old { history = old.history ++ entry ∷ [] })
  entry_keeps old entry kept seen = record {
    view_is = sym seen ∙ ap (λ (db : V). run db entry) kept.view_is ∙ sym (replayed_more run old.history entry old.opening);
    passed = kept.passed;
    none_failed = kept.none_failed;
    now = kept.now;
    ever = λ left leaves. weaken old.failed (IsAfterPrefix run old.opening old.history) (IsAfterPrefix run old.opening (old.history ++ entry ∷ [])) left
        (longer run old.history (entry ∷ []) old.opening) (kept.ever left leaves);
  }

  none_failed_yet : (failed : Option V) (db : V) → failed ≡ None → failed ≡ Some db → ⊥
  none_failed_yet failed db none some = cc

  failure_keeps : (old : Machine L D g V E) (log : Log D g) (next : L) → CrashImages first Steps view run old
      → Fails first Steps old.state next old.log log
      → CrashImages first Steps view run (record old { log = log; failed = Some (view next) })
  failure_keeps old log next kept fails = record {
    view_is = kept.view_is;
    passed = omega (arith, kept.passed, fails.no_other.later);
    none_failed = λ ready. absurd (fails.stopped ready);
    now = λ left leaves. ⊎_elim
        (λ same. (old.state, same, inl refl))
        (λ changed. (next, changed, inr refl))
        (fails.either left (earlier log (moment_of old.log) (moment_of log) left fails.no_other.later leaves));
    ever = λ left leaves. ⊎_elim
        (λ before. let reopens = kept.ever left before in (
          reopens.0,
          reopens.1,
          ⊎_elim (λ is. inl is)
              (λ failed. absurd (none_failed_yet old.failed (view reopens.0) (kept.none_failed fails.was_ready) failed)) reopens.2,
        ))
        (λ here. ⊎_elim
        (λ same. (old.state, same, inl (whole run old.history old.opening (view old.state) kept.view_is)))
        (λ changed. (next, changed, inr refl))
        (fails.either left here))
        (fails.no_other.nothing_else old.since left leaves);
  }

  step_keeps : (old new : Machine L D g V E) → CrashImages first Steps view run old → IsStep first Steps view run old new
      → CrashImages first Steps view run new
  step_keeps old new kept (inl commits) = subst (λ (m : Machine L D g V E). CrashImages first Steps view run m) (sym commits.rest)
      (commit_keeps old new.log commits.entry new.state kept commits.stores commits.seen)
  step_keeps old new kept (inr (inl moves)) = subst (λ (m : Machine L D g V E). CrashImages first Steps view run m) (sym moves.rest)
      (move_keeps old new.log new.state kept moves.stores moves.seen)
  step_keeps old new kept (inr (inr (inl refuses))) = subst (λ (m : Machine L D g V E). CrashImages first Steps view run m) (sym refuses.rest)
      (refusal_keeps old new.log kept refuses.stores)
  step_keeps old new kept (inr (inr (inr (inl enters)))) = subst (λ (m : Machine L D g V E). CrashImages first Steps view run m) (sym enters.rest)
      (entry_keeps old enters.entry kept enters.seen)
  step_keeps old new kept (inr (inr (inr (inr fails)))) = subst (λ (m : Machine L D g V E). CrashImages first Steps view run m) (sym fails.rest)
      (failure_keeps old new.log fails.next kept fails.fails)

  pub run_keeps : (ms : List (Machine L D g V E)) (m : Machine L D g V E) → CrashImages first Steps view run m
      → IsRun first Steps view run m ms → CrashImages first Steps view run (last_of m ms)
  run_keeps [] m kept steps = kept
  run_keeps (next ∷ later) m kept steps = run_keeps later next (step_keeps m next kept steps.0) steps.1

  -- a machine over a log of which its state alone may be left since a moment, and since the present one
  pub starts : (state : L) (log : Log D g) (since : ℕ) → since ≤ moment_of log
      → ((left : Option L) → MayLeave first Steps log since left → left ≡ Some state)
      → ((left : Option L) → MayLeave first Steps log (moment_of log) left → left ≡ Some state)
      → CrashImages first Steps view run (started state log (view state) since)
  starts state log since passed ever now = record {
    view_is = refl;
    passed = passed;
    none_failed = λ ready. refl;
    now = λ left leaves. (state, now left leaves, inl refl);
    ever = λ left leaves. (state, ever left leaves, inl (whole run [] (view state) (view state) refl));
  }
