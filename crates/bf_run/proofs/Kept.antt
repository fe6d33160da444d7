-- What a crash leaves of a machine beside its log, said of its script and its history alone.
use Rattle.std.proofs.Common.{◌≡◌, ◌⊎◌, ⊎_elim, ℕ, ◌≤◌, true, false, List, [], ◌∷◌, ◌++◌, map, Option, Some, inl, inr, refl, sym, ap, ap₂, subst, ◌∙◌}
use Rattle.std.proofs.lemmas.List.{map-append}
use Rattle.std.proofs.lemmas.Option.{same_Some}
use Rattle.bf_disk.specs.declared.disk.Disk.{Ghosts}
use Rattle.bf_journal.specs.Crashes.{IsAfterPrefix, ReopensWith, replayed as run_in_turn}
use Rattle.bf_journal.specs.Reopening.{ReopensTo}
use Rattle.bf_journal.proofs.Readings.{after_change, reopens_so}
use Rattle.bf_journal.proofs.Runs.{replayed_more}
use Rattle.bf_journal.specs.Leaving.{LeavesAlone}
use Rattle.bf_journal.specs.States.{IsReady, MayLeave, StandsOn, moment_of}
use Rattle.bf_log.specs.Append.{standing_of}
use Rattle.bf_log.specs.Format.{IsLog}
use Rattle.bf_log.specs.declared.log.Log.{Log}
use Rattle.bf_log.specs.declared.log.Standing.{Standing}
use Rattle.bf_log.specs.declared.log.Standing.TheVariants.{Ready, Halted, Spent}
use Rattle.bf_machine.specs.interleaving.Kept.{IsKept}
use Rattle.bf_machine.specs.interleaving.Machines.{EndedGroup, Machine}
use Rattle.bf_disk.specs.Images.{Only}
use Rattle.bf_recover.specs.Legal.{first_state}
use Rattle.bf_recover.specs.Once.{one_step}
use Rattle.bf_recover.specs.Steps.{StepsTo, entry_of, run_entry}
use Rattle.bf_recover.proofs.Replaying.{runs_entries}
use Rattle.bf_sql.specs.Database.{Database}
use Rattle.bf_sql.specs.History.{replayed}
use Rattle.bf_sql.specs.migrations.Lazy.{LazyState, view_of}
use Rattle.bf_tree.specs.declared.history.Entry.{Entry}
use Rattle.bf_tree.specs.declared.script.Script.{Script}
use Rattle.bf_run.specs.Answers.{if_committed, is_ready, is_spent}
use Rattle.bf_run.specs.Crashing.{Follows, KeepsOnLog, Recovers, ended_on_log}
use Rattle.bf_run.specs.declared.log_journal.LogJournal.{LogJournal}
use Rattle.bf_run.specs.Keeping.{CouldBeLeft, GivesOrMore, IsBehind, IsBehindOneMore, IsBehindPrefix, IsBehindTold, IsWhatFailed, IsGivenBy, KeepsOn, Leaves, OpensAs}
use Rattle.bf_run.specs.Running.{OpensTo}
use Rattle.bf_run.specs.declared.status.Status.TheVariants.{Done, DiskFault, Memory}
use Rattle.bf_run.proofs.Running.{if_told}

-- a prefix of a list that is mapped is that of a prefix
prefix_of_map : {X Y : Type 0} (f : X → Y) (xs : List X) (front back : List Y) → front ++ back ≡ map f xs
    → (one two : List X) × (one ++ two ≡ xs) × (map f one ≡ front)
prefix_of_map f xs [] back same = ([], xs, refl, refl)
prefix_of_map f [] (y ∷ front) back same = absurd cc
prefix_of_map f (x ∷ xs) (y ∷ front) back same =
    let here : f x ≡ y = cc in
    let later : front ++ back ≡ map f xs = cc in
    let rest = prefix_of_map f xs front back later in
    (x ∷ rest.0, rest.1, ap (λ zs. x ∷ zs) rest.2, ap₂ (λ z zs. z ∷ zs) here rest.3)

reopens_weaker : (P Q : Database → Type 0) (failed : Option Database) (left : Option LazyState) → ((db : Database) → P db → Q db)
    → ReopensWith view_of failed P left → ReopensWith view_of failed Q left
reopens_weaker P Q failed left so (state, is, inl holds) = (state, is, inl (so (view_of state) holds))
reopens_weaker P Q failed left so (state, is, inr fails) = (state, is, inr fails)

module _ {D : Type 0} {g : Ghosts D} (start : Database) (m : Machine) (log : Log D g) (kept : IsKept start m) (ended : List EndedGroup) (opened : Log D g)
    (recovers : Recovers opened start ended m log) where
  runs : (history : List Entry) → (replayed m.script start history).1 ≡ run_in_turn run_entry start (map (entry_of m.script) history)
  runs history = runs_entries 0 m.script start history

  behind_prefix : (db : Database) → IsAfterPrefix run_entry start (map (entry_of m.script) m.history) db → IsBehindPrefix m.script start m.history db
  behind_prefix db after =
      let parts = prefix_of_map (entry_of m.script) m.history after.prefix after.behind after.split in
      (parts.0, parts.1, parts.2, after.is ∙ ap (run_in_turn run_entry start) (sym parts.3) ∙ sym (runs parts.0))

  seen_as : view_of m.lazy ≡ (replayed m.script start m.history).1
  seen_as = kept.store_valid.seen_as.view ∙ kept.history_legal.replay

  behind_all : (db : Database) → db ≡ view_of m.lazy → IsBehind m.script start m.history db
  behind_all db is = is ∙ seen_as

  -- what an entry would have made is behind that entry too
  behind_more : (entry : Entry) (db : Database) → db ≡ run_entry (view_of m.lazy) (entry_of m.script entry) → IsBehind m.script start (m.history ++ entry ∷ []) db
  behind_more entry db is =
      is
      ∙ ap (λ (view : Database). run_entry view (entry_of m.script entry)) (seen_as ∙ runs m.history)
      ∙ sym (replayed_more run_entry (map (entry_of m.script) m.history) (entry_of m.script entry) start)
      ∙ ap (run_in_turn run_entry start) (sym (map-append (entry_of m.script) m.history (entry ∷ [])))
      ∙ sym (runs (m.history ++ entry ∷ []))

  -- one that may follow does so by what the history makes
  follows : (entry : Entry) → Follows start m.script m.history (view_of m.lazy) entry → Follows start m.script m.history (replayed m.script start m.history).1 entry
  follows entry may = subst (λ (now : Database). Follows start m.script m.history now entry) seen_as may

  -- WHAT FAILED would have made what is behind the history, or behind one group more
  failed_at_memory : IsWhatFailed m.script start Memory m.history [] recovers.failed
  failed_at_memory db is = elim (recovers.failed_is db is) as (λ _. IsBehind m.script start m.history db ⊎ IsBehindOneMore m.script start m.history db) [
    | inl same ↦ inl (behind_all db same)
    | inr (inl told) ↦ inr (if_committed told.0 told.3.0, (follows (if_committed told.0 told.3.0) told.3.1.0, behind_more (if_committed told.0 told.3.0) db told.3.1.1))
    | inr (inr spent) ↦ inr (spent.1.0, (follows spent.1.0 spent.1.1.0, behind_more spent.1.0 db spent.1.1.1))
  ]

  failed_at_fault : (standing_of log ≡ Spent → ⊥) → IsWhatFailed m.script start DiskFault m.history ended recovers.failed
  failed_at_fault taken db is = elim (recovers.failed_is db is) as (λ _. IsBehind m.script start m.history db ⊎ IsBehindTold m.script start m.history ended db) [
    | inl same ↦ inl (behind_all db same)
    | inr (inl told) ↦ inr (told.0, told.1, told.2, (told.3.0, (follows (if_committed told.0 told.3.0) told.3.1.0, behind_more (if_committed told.0 told.3.0) db told.3.1.1)))
    | inr (inr spent) ↦ absurd (taken spent.0)
  ]

  module _ (since : ℕ) (le : since ≤ moment_of opened) (file : List ℕ) (told : g.seen log.disk ≡ Some file) where
    may_be_left : (t : ℕ) (image : List ℕ) (left : Option LazyState) → g.left_since log.disk t image → ReopensTo first_state StepsTo image left
        → MayLeave first_state StepsTo log t left
    may_be_left t image left may opens = ((file, told), (image, may, opens))

    leaves_now : (image : List ℕ) → g.left_since log.disk (g.moment log.disk) image → OpensAs (IsBehind m.script start m.history) recovers.failed image
    leaves_now image may left opens =
        reopens_weaker (λ db. db ≡ view_of m.lazy) (IsBehind m.script start m.history) recovers.failed left behind_all
        (recovers.images.now left (may_be_left (g.moment log.disk) image left may opens))

    leaves_ever : (image : List ℕ) → g.left_since log.disk since image → (left : Option LazyState) → ReopensTo first_state StepsTo image left
        → MayLeave first_state StepsTo opened since left ⊎ ReopensWith view_of recovers.failed (IsBehindPrefix m.script start m.history) left
    leaves_ever image may left opens = ⊎_elim (λ could. inl could)
        (λ reopens. inr (reopens_weaker (IsAfterPrefix run_entry start (map (entry_of m.script) m.history)) (IsBehindPrefix m.script start m.history) recovers.failed left behind_prefix reopens))
        (recovers.before since le left (may_be_left since image left may opens))

    leaves : Leaves g.moment g.left_since (MayLeave first_state StepsTo opened since) log.disk since m.script start m.history recovers.failed
    leaves = record { now = leaves_now; ever = leaves_ever }

-- a run whose machine recovers, since each moment up to the one at which its log was opened
module _ {D : Type 0} {g : Ghosts D} (opening : Database) (now : Machine) (log last : Log D g) (kept : IsKept opening now) (ended : List EndedGroup)
    (recovers : Recovers log opening ended now last) where
  images_so : (since : ℕ) → since ≤ moment_of log → (file : List ℕ) → g.seen last.disk ≡ Some file
      → Leaves g.moment g.left_since (MayLeave first_state StepsTo log since) last.disk since now.script opening now.history recovers.failed
  images_so since le file told = leaves opening now last kept ended log recovers since le file told

  pub keeps_at_fault : (standing_of last ≡ Spent → ⊥) → KeepsOn log last.disk DiskFault now.script opening now.history ended
  keeps_at_fault taken = (recovers.failed, failed_at_fault opening now last kept ended log recovers taken, images_so)

  pub keeps_at_memory : KeepsOn log last.disk Memory now.script opening now.history []
  keeps_at_memory = (recovers.failed, failed_at_memory opening now last kept ended log recovers, images_so)

  pub keeps_at_done : IsReady last → KeepsOn log last.disk Done now.script opening now.history ended
  keeps_at_done ready = (recovers.failed, recovers.none_failed ready, images_so)

-- the records of the log give the state that stands on it, or where it has stopped perhaps one that the failed record makes
module _ {D : Type 0} {g : Ghosts D} (lazy : LazyState) (log : Log D g) (on : StandsOn first_state StepsTo lazy log) where
  pub given_at_done : IsReady log → IsGivenBy g.seen g.may_leave Done log.disk lazy
  given_at_done ready = if_told (g.seen log.disk) _ (λ file told. elim (on file told) as (λ _. ReopensTo first_state StepsTo file (Some lazy)) [
    | inl stored ↦
        let same : stored.file ≡ file = same_Some stored.file file (sym stored.holds.told ∙ told) in
        (stored.payloads, subst (IsLog stored.payloads) same stored.holds.is_log, stored.gives)
    | inr stopped ↦ absurd (stopped.images.stopped ready)
  ])

  pub given_at_fault : IsGivenBy g.seen g.may_leave DiskFault log.disk lazy
  given_at_fault = if_told (g.seen log.disk) _ (λ file told image may. elim (on file told) as (λ _. GivesOrMore lazy image) [
    | inl stored ↦ inl (stored.payloads, subst (IsLog stored.payloads) (sym (stored.holds.durable image may)) stored.holds.is_log, stored.gives)
    | inr stopped ↦ elim (stopped.images.images image may) as (λ _. GivesOrMore lazy image) [
      | inl before ↦ inl (stopped.payloads, before, stopped.gives)
      | inr after ↦ inr (stopped.failed, stopped.next, stopped.legal, (stopped.payloads ++ stopped.failed ∷ [], after, after_change StepsTo stopped.payloads stopped.failed first_state lazy stopped.next stopped.gives stopped.legal))
    ]
  ])

-- a machine whose events stand beside its log recovers
pub recovered : {D : Type 0} {g : Ghosts D} (opening : Database) (lazy : LazyState) (m now : Machine) (j k : LogJournal D g) → m.lazy ≡ lazy
    → IsKept opening m → StandsOn first_state StepsTo lazy j.log → LeavesAlone first_state StepsTo lazy j.log → (keeps : KeepsOnLog opening m j now k)
    → ((start : Database) (m next : Machine) (j k : LogJournal D g) (keeps : KeepsOnLog start m j next k) → IsKept start m → StandsOn first_state StepsTo m.lazy j.log
    → LeavesAlone first_state StepsTo m.lazy j.log → Recovers j.log start (ended_on_log keeps) next k.log)
    → Recovers j.log opening (ended_on_log keeps) now k.log
recovered opening lazy m now j k same kept stands alone keeps law =
    law opening m now j k keeps kept (subst (λ (state : LazyState). StandsOn first_state StepsTo state j.log) (sym same) stands)
    (subst (λ (state : LazyState). LeavesAlone first_state StepsTo state j.log) (sym same) alone)

-- a log that says so takes records
pub ready_if : (s : Standing) → true ≡ is_ready s → s ≡ Ready
ready_if Ready says = refl
ready_if (Halted faults) says = absurd cc
ready_if Spent says = absurd cc

-- and one that was not given up does not stand so
pub not_spent_if : (s : Standing) → false ≡ is_spent s → s ≡ Spent → ⊥
not_spent_if Ready says is = cc
not_spent_if (Halted faults) says is = cc
not_spent_if Spent says is = cc

-- what could be left of a file on which nothing was pending is behind the empty prefix
pub prefix_left : (may_leave : List ℕ → Type 0) (script : Script) (start : Database) (history : List Entry) (failed : Option Database) (file : List ℕ) → Only file may_leave → OpensTo file start
    → (left : Option LazyState) → CouldBeLeft may_leave left ⊎ ReopensWith view_of failed (IsBehindPrefix script start history) left → ReopensWith view_of failed (IsBehindPrefix script start history) left
prefix_left may_leave script start history failed file only opens left (inr reopens) = reopens
prefix_left may_leave script start history failed file only opens left (inl could) =
    let there : ReopensTo first_state StepsTo file left = subst (λ (image : List ℕ). ReopensTo first_state StepsTo image left) (only could.0 could.1) could.2 in
    (opens.0, reopens_so first_state StepsTo one_step file opens.1.0 opens.0 left opens.1.1 opens.1.2 there, inl ([], history, refl, sym opens.2))

-- and where a log was read at most since a moment, what may be left of it since then could be left of its file at that moment
pub from_start : {V : Type 0} (moment : V → ℕ) (left_since : V → ℕ → List ℕ → Type 0) (P Q : Option LazyState → Type 0) (disk : V) (since : ℕ) (script : Script) (start : Database) (history : List Entry) (failed : Option Database)
    → ((left : Option LazyState) → P left → Q left) → Leaves moment left_since P disk since script start history failed → Leaves moment left_since Q disk since script start history failed
from_start moment left_since P Q disk since script start history failed so leaves = record {
  now = leaves.now;
  ever = λ image may left opens. ⊎_elim (λ could. inl (so left could)) (λ reopens. inr reopens) (leaves.ever image may left opens);
}
