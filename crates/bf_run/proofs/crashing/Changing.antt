-- What every crash of a machine leaves stays so behind a change of it, by what has become of its log.
use Rattle.std.proofs.Common.{◌≡◌, inl, inr, ⊎_elim, ℕ, ◌≤◌, List, [], ◌∷◌, ◌++◌, Option, None, Some, refl, sym, ◌∙◌, ap, subst}
use Rattle.std.specs.Prelude.{◌⊎◌}
use Rattle.bf_disk.specs.declared.disk.Disk.{Ghosts}
use Rattle.bf_log.specs.declared.log.Log.{Log}
use Rattle.bf_journal.specs.Crashes.{CrashImages, IsAfterPrefix, IsStep, Machine, ReopensWith}
use Rattle.bf_journal.specs.Leaving.{Fails, Stores, StoresNothing}
use Rattle.bf_journal.specs.States.{IsReady, MayLeave, moment_of}
use Rattle.bf_journal.proofs.Runs.{run_keeps}

-- what reopens so does so for what is weaker, and where what had failed still has
weaker : {L V : Type 0} (view : L → V) (failed then : Option V) (P Q : V → Type 0) (left : Option L) → ((db : V) → P db → Q db) → ((db : V) → failed ≡ Some db → then ≡ Some db)
    → ReopensWith view failed P left → ReopensWith view then Q left
weaker view failed then P Q left so still (state, is, inl holds) = (state, is, inl (so (view state) holds))
weaker view failed then P Q left so still (state, is, inr fails) = (state, is, inr (still (view state) fails))

module _ {L V E : Type 0} (first : L) (Steps : L → List ℕ → L → Type 0) (view : L → V) (run : V → E → V) {D : Type 0} {g : Ghosts D} where
  -- a machine with this state on this log, such a history, and what the failed change would have made
  abbrev pub on_log : V → ℕ → L → Log D g → List E → Option V → Machine L D g V E
  on_log opening since state log history failed = record {
    state = state;
    log = log;
    opening = opening;
    since = since;
    history = history;
    failed = failed;
  }

  abbrev pub Leaves : V → ℕ → L → Log D g → List E → Option V → Type 0
  Leaves opening since state log history failed = CrashImages first Steps view run (on_log opening since state log history failed)

  -- what has become of a state, of its log and of what has failed: nothing; the change is stored; the state stays and nothing is stored; or it
  -- stays and this change has failed
  abbrev pub IsChanged : L → L → Log D g → Log D g → Option V → Option V → Type 0
  IsChanged state next log new failed then =
      ((next ≡ state) × (new ≡ log) × (then ≡ failed))
      ⊎ (Stores first Steps state next log new × (then ≡ failed))
      ⊎ ((next ≡ state) × StoresNothing first Steps log new × (then ≡ failed))
      ⊎ ((next ≡ state) × ((other : L) × Fails first Steps state other log new × (then ≡ Some (view other))))

  -- a log that takes records is one on which no change has failed
  pub none_failed_then : (state next : L) (log new : Log D g) (failed then : Option V) → IsChanged state next log new failed then
      → (IsReady log → failed ≡ None) → IsReady new → then ≡ None
  none_failed_then state next log new failed then (inl same) none ready = same.2 ∙ none (subst (λ (l : Log D g). IsReady l) same.1 ready)
  none_failed_then state next log new failed then (inr (inl stored)) none ready = stored.1 ∙ none stored.0.was_ready
  none_failed_then state next log new failed then (inr (inr (inl nothing))) none ready = nothing.2 ∙ none (nothing.1.as_ready ready)
  none_failed_then state next log new failed then (inr (inr (inr fails))) none ready = absurd (fails.1.1.stopped ready)

  -- what may be left of the new log could be left of the old one, or was left by the change
  no_other : (state next : L) (log new : Log D g) (failed then : Option V) → IsChanged state next log new failed then
      → (t : ℕ) (left : Option L) → MayLeave first Steps new t left → MayLeave first Steps log t left ⊎ MayLeave first Steps new (moment_of log) left
  no_other state next log new failed then (inl same) t left leaves = inl (subst (λ (l : Log D g). MayLeave first Steps l t left) same.1 leaves)
  no_other state next log new failed then (inr (inl stored)) t left leaves = stored.0.no_other.nothing_else t left leaves
  no_other state next log new failed then (inr (inr (inl nothing))) t left leaves = nothing.1.no_other.nothing_else t left leaves
  no_other state next log new failed then (inr (inr (inr fails))) t left leaves = fails.1.1.no_other.nothing_else t left leaves

  -- what had failed still has
  still_failed : (state next : L) (log new : Log D g) (failed then : Option V) → IsChanged state next log new failed then
      → (IsReady log → failed ≡ None) → (db : V) → failed ≡ Some db → then ≡ Some db
  still_failed state next log new failed then (inl same) none db is = same.2 ∙ is
  still_failed state next log new failed then (inr (inl stored)) none db is = stored.1 ∙ is
  still_failed state next log new failed then (inr (inr (inl nothing))) none db is = nothing.2 ∙ is
  still_failed state next log new failed then (inr (inr (inr fails))) none db is =
      let clash : None ≡ Some db = sym (none fails.1.1.was_ready) ∙ is in
      absurd cc

  module _ (earlier : (log : Log D g) (t u : ℕ) (left : Option L) → t ≤ u → MayLeave first Steps log u left → MayLeave first Steps log t left)
      (opening : V) (since : ℕ) where
    steps : (old new : Machine L D g V E) → CrashImages first Steps view run old → IsStep first Steps view run old new → CrashImages first Steps view run new
    steps old new kept step = run_keeps first Steps view run earlier (new ∷ []) old kept (step, tt)

    -- an entry more that is not seen
    enters : (state : L) (log : Log D g) (history : List E) (failed : Option V) (entry : E) → Leaves opening since state log history failed → run (view state) entry ≡ view state
        → Leaves opening since state log (history ++ entry ∷ []) failed
    enters state log history failed entry was seen =
        steps (on_log opening since state log history failed) (on_log opening since state log (history ++ entry ∷ []) failed) was
        (inr (inr (inr (inl (record { entry = entry; seen = seen; rest = refl })))))

    module _ (state : L) (log : Log D g) (history : List E) (failed : Option V) (was : Leaves opening since state log history failed) where
      -- a change that is not seen
      pub stays : (next : L) (new : Log D g) (then : Option V) → view next ≡ view state → IsChanged state next log new failed then
          → Leaves opening since next new history then
      stays next new then seen (inl same) =
          subst (λ (to : L). Leaves opening since to new history then) (sym same.0)
          (subst (λ (to : Log D g). Leaves opening since state to history then) (sym same.1)
          (subst (λ (to : Option V). Leaves opening since state log history to) (sym same.2) was))
      stays next new then seen (inr (inl stored)) =
          subst (λ (to : Option V). Leaves opening since next new history to) (sym stored.1)
          (steps (on_log opening since state log history failed) (on_log opening since next new history failed) was
          (inr (inl (record { stores = stored.0; seen = seen; rest = refl }))))
      stays next new then seen (inr (inr (inl nothing))) =
          subst (λ (to : L). Leaves opening since to new history then) (sym nothing.0)
          (subst (λ (to : Option V). Leaves opening since state new history to) (sym nothing.2)
          (steps (on_log opening since state log history failed) (on_log opening since state new history failed) was
          (inr (inr (inl (record { stores = nothing.1; rest = refl }))))))
      stays next new then seen (inr (inr (inr fails))) =
          let other = fails.1.0 in
          subst (λ (to : L). Leaves opening since to new history then) (sym fails.0)
          (subst (λ (to : Option V). Leaves opening since state new history to) (sym fails.1.2)
          (steps (on_log opening since state log history failed) (on_log opening since state new history (Some (view other))) was
          (inr (inr (inr (inr (record { next = other; fails = fails.1.1; rest = refl })))))))

      -- one with which the history grows
      rests : (next : L) (new : Log D g) (then : Option V) (entry : E) → view next ≡ run (view state) entry → IsChanged state next log new failed then → next ≡ state
          → Leaves opening since next new (history ++ entry ∷ []) then
      rests next new then entry seen changed same =
          enters next new history then entry (stays next new then (ap view same) changed) (ap (λ (s : L). run (view s) entry) same ∙ sym seen)

      pub grows : (next : L) (new : Log D g) (then : Option V) (entry : E) → view next ≡ run (view state) entry → IsChanged state next log new failed then
          → Leaves opening since next new (history ++ entry ∷ []) then
      grows next new then entry seen (inl same) = rests next new then entry seen (inl same) same.0
      grows next new then entry seen (inr (inl stored)) =
          subst (λ (to : Option V). Leaves opening since next new (history ++ entry ∷ []) to) (sym stored.1)
          (steps (on_log opening since state log history failed) (on_log opening since next new (history ++ entry ∷ []) failed) was
          (inl (record { entry = entry; stores = stored.0; seen = seen; rest = refl })))
      grows next new then entry seen (inr (inr (inl nothing))) = rests next new then entry seen (inr (inr (inl nothing))) nothing.0
      grows next new then entry seen (inr (inr (inr fails))) = rests next new then entry seen (inr (inr (inr fails))) fails.0

      -- what may be left since a moment before the log was opened
      abbrev pub Before : Log D g → List E → Option V → Log D g → Type 0
      Before opened history failed log =
          (t : ℕ) → t ≤ since → (left : Option L) → MayLeave first Steps log t left
          → MayLeave first Steps opened t left ⊎ ReopensWith view failed (IsAfterPrefix run opening history) left

      pub goes_before : (opened : Log D g) (next : L) (new : Log D g) (then : Option V) (later : List E) → IsChanged state next log new failed then
          → ((db : V) → IsAfterPrefix run opening history db → IsAfterPrefix run opening later db) → Leaves opening since next new later then
          → Before opened history failed log → Before opened later then new
      goes_before opened next new then later changed so now before t le left leaves = ⊎_elim
          (λ here. ⊎_elim (λ is. inl is)
          (λ reopens. inr (weaker view failed then (IsAfterPrefix run opening history) (IsAfterPrefix run opening later) left so (still_failed state next log new failed then changed was.none_failed) reopens))
          (before t le left here))
          (λ behind. inr (now.ever left (earlier new since (moment_of log) left was.passed behind)))
          (no_other state next log new failed then changed t left leaves)
