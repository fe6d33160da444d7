-- What has failed by the answers of a log, and of which change that was.
use Rattle.std.proofs.Common.{◌≡◌, ◌⊎◌, inl, inr, ℕ, false, List, [], ◌∷◌, ◌++◌, Option, None, Some, Result, Ok, Err, refl, sym, ◌∙◌, ap, subst}
use Rattle.std.proofs.lemmas.List.Elements.{Contains-append_left, Contains-push}
use Rattle.std.proofs.lemmas.Option.{same_Some}
use Rattle.bf_disk.specs.declared.disk.Disk.{Ghosts}
use Rattle.bf_journal.specs.Leaving.{Fails, Stores, StoresNothing}
use Rattle.bf_journal.specs.States.{IsReady, StandsOn}
use Rattle.bf_log.specs.Append.{standing_of}
use Rattle.bf_log.specs.declared.error.AppendError.TheVariants as appends
use Rattle.bf_log.specs.declared.log.Log.{Log}
use Rattle.bf_log.specs.declared.log.Standing.{Standing}
use Rattle.bf_log.specs.declared.log.Standing.TheVariants.{Ready, Halted as Stopped, Spent}
use Rattle.bf_machine.specs.declared.journal.KeepError.{KeepError}
use Rattle.bf_machine.specs.declared.journal.KeepError.TheVariants as keeps
use Rattle.bf_machine.specs.interleaving.Events.{EndsByLog, Event}
use Rattle.bf_machine.specs.interleaving.Journals.{IsBeside, IsChangeOf, IsEventBeside, IsMoveIn, IsRefused, IsUnkeptFor, IsUnkeptMove, ended_by}
use Rattle.bf_machine.specs.interleaving.Kept.{IsKept}
use Rattle.bf_machine.specs.interleaving.Machines.{EndedGroup, Machine}
use Rattle.bf_machine.proofs.served.Keeping.{event_beside}
use Rattle.bf_recover.specs.Legal.{first_state}
use Rattle.bf_recover.specs.Steps.{StepsTo, run_entry}
use Rattle.bf_sql.specs.Database.{Database}
use Rattle.bf_sql.specs.migrations.Lazy.{LazyState, view_of}
use Rattle.bf_tree.specs.declared.history.Entry.{Entry}
use Rattle.bf_tree.specs.declared.reply.Cause.{Cause}
use Rattle.bf_tree.specs.declared.reply.Cause.TheVariants.{DiskFault}
use Rattle.bf_tree.specs.declared.script.Script.{Script}
use Rattle.bf_run.specs.Answers.{GoesOn, HasAnswered, IsAnsweredAs, is_ready}
use Rattle.bf_run.specs.Crashing.{IsWhatHasFailed}
use Rattle.bf_run.proofs.crashing.Changing.{IsChanged}
use Rattle.bf_run.proofs.crashing.Makes.{makes_behind, move_makes_nothing, one_makes}

module _ {D : Type 0} {g : Ghosts D} where
  -- BY AN ANSWER of the journal for a change
  module _ (lazy next : LazyState) (old new : Log D g) (on : StandsOn first_state StepsTo lazy old) where
    -- one that was kept is stored
    stored : IsAnsweredAs lazy next old new (Ok tt) → Stores first_state StepsTo lazy next old new × StandsOn first_state StepsTo next new
    stored (Ok done, appended, told) = appended on
    stored (Err appends.Memory, appended, told) = absurd cc
    stored (Err appends.DiskFault, appended, inl told) = absurd cc
    stored (Err appends.DiskFault, appended, inr told) = absurd (let is = told.1.1 in cc)
    stored (Err (appends.Halted faults), appended, told) = absurd cc
    stored (Err (appends.TooLarge size), appended, told) = absurd cc
    stored (Err (appends.LogFull end need), appended, told) = absurd cc

    abbrev FailsOrNot : Type 0
    FailsOrNot = StoresNothing first_state StepsTo old new ⊎ Fails first_state StepsTo lazy next old new

    -- for one for which there was no memory nothing is stored, or it has failed
    unkept : IsAnsweredAs lazy next old new (Err keeps.Memory) → FailsOrNot × StandsOn first_state StepsTo lazy new
    unkept (Err appends.Memory, appended, told) = appended on
    unkept (Ok done, appended, told) = absurd cc
    unkept (Err appends.DiskFault, appended, inl told) = absurd cc
    unkept (Err appends.DiskFault, appended, inr told) = absurd (let is = told.1.1 in cc)
    unkept (Err (appends.Halted faults), appended, told) = absurd cc
    unkept (Err (appends.TooLarge size), appended, told) = absurd cc
    unkept (Err (appends.LogFull end need), appended, told) = absurd cc

    -- for one that was refused by a cause nothing is stored, or it has failed and the cause tells it, or it is a move
    abbrev Refused : Cause → Type 0
    Refused cause =
        StoresNothing first_state StepsTo old new
        ⊎ (Fails first_state StepsTo lazy next old new × ((cause ≡ DiskFault) ⊎ IsMoveIn lazy next))

    refused : (cause : Cause) → IsAnsweredAs lazy next old new (Err (keeps.Ended cause)) → Refused cause × StandsOn first_state StepsTo lazy new
    refused cause (Ok done, appended, told) = absurd cc
    refused cause (Err appends.Memory, appended, told) = absurd cc
    refused cause (Err appends.DiskFault, appended, inl told) =
        let is : cause ≡ DiskFault = cc in
        let was = appended on in
        (inr (was.0, inl is), was.1)
    refused cause (Err appends.DiskFault, appended, inr told) = let was = appended on in (inr (was.0, inr told.0), was.1)
    refused cause (Err (appends.Halted faults), appended, told) = let was = appended on in (inl was.0, was.1)
    refused cause (Err (appends.TooLarge size), appended, told) = let was = appended on in (inl was.0, was.1)
    refused cause (Err (appends.LogFull end need), appended, told) = let was = appended on in (inl was.0, was.1)

  -- a log that has stopped for want of memory was given up
  spent_by : (lazy next : LazyState) (old new : Log D g) → Fails first_state StepsTo lazy next old new → GoesOn old new (Err keeps.Memory) → standing_of new ≡ Spent
  spent_by lazy next old new fails goes = elim goes.stands as (λ _. standing_of new ≡ Spent) [
    | inl same ↦ absurd (fails.stopped (subst (λ (log : Log D g). IsReady log) (sym same) fails.was_ready))
    | inr spent ↦ spent
  ]

  -- WHAT HAS FAILED BEHIND AN EVENT, with the groups that have ended so far and those that it ends
  pub record Turned (start : Database) (script : Script) (history : List Entry) (ended : List EndedGroup) (lazy next : LazyState) (log new : Log D g) (failed : Option Database) : Type 0 where
    pub then : Option Database
    pub changed : IsChanged first_state StepsTo view_of run_entry lazy next log new failed then
    pub stands : StandsOn first_state StepsTo next new
    pub then_is : (db : Database) → then ≡ Some db → IsWhatHasFailed new start script history ended (view_of next) db

  module _ (start : Database) (script : Script) (history : List Entry) (ended more : List EndedGroup) (lazy : LazyState) (log : Log D g) (on : StandsOn first_state StepsTo lazy log) (failed : Option Database)
      (none : IsReady log → failed ≡ None) (failed_is : (db : Database) → failed ≡ Some db → IsWhatHasFailed log start script history ended (view_of lazy) db) where
    -- a log on which a change has failed takes no more
    at_rest : (db : Database) → failed ≡ Some db → is_ready (standing_of log) ≡ false
    at_rest db is = by (standing_of log) refl
      where
        by : (s : Standing) → standing_of log ≡ s → is_ready s ≡ false
        by Ready ready =
            let clash : None ≡ Some db = sym (none ready) ∙ is in
            absurd cc
        by (Stopped faults) at = refl
        by Spent at = refl

    with_more : (now db : Database) → IsWhatHasFailed log start script history ended now db → IsWhatHasFailed log start script history (ended ++ more) now db
    with_more now db (inl same) = inl same
    with_more now db (inr (inl told)) = inr (inl (told.0, Contains-append_left ended more told.0 told.1, told.2, told.3))
    with_more now db (inr (inr spent)) = inr (inr spent)

    -- what has failed stays where the store does, and the log stays that takes no more
    still_is : (next : LazyState) (new : Log D g) → next ≡ lazy → (is_ready (standing_of log) ≡ false → new ≡ log) → (db : Database) → failed ≡ Some db
        → IsWhatHasFailed new start script history (ended ++ more) (view_of next) db
    still_is next new same stays db is =
        subst (λ (to : LazyState). IsWhatHasFailed new start script history (ended ++ more) (view_of to) db) (sym same)
        (subst (λ (to : Log D g). IsWhatHasFailed to start script history (ended ++ more) (view_of lazy) db) (sym (stays (at_rest db is)))
        (with_more (view_of lazy) db (failed_is db is)))

    rests : (next : LazyState) (new : Log D g) → next ≡ lazy → new ≡ log → Turned start script history (ended ++ more) lazy next log new failed
    rests next new same stays = record {
      then = failed;
      changed = inl (same, stays, refl);
      stands = subst (λ (to : LazyState). StandsOn first_state StepsTo to new) (sym same) (subst (λ (to : Log D g). StandsOn first_state StepsTo lazy to) (sym stays) on);
      then_is = still_is next new same (λ rest. stays);
    }

    keeps_it : (next : LazyState) (new : Log D g) → HasAnswered lazy next log new (Ok tt) → Turned start script history (ended ++ more) lazy next log new failed
    keeps_it next new answered =
        let is = stored lazy next log new on answered.0 in
        record {
          then = failed;
          changed = inr (inl (is.0, refl));
          stands = is.1;
          then_is = λ db some.
              let clash : None ≡ Some db = sym (none is.0.was_ready) ∙ some in
              absurd cc;
        }

    stores_nothing : (next : LazyState) (new : Log D g) (answer : Result (Unit {0}) KeepError) → next ≡ lazy → GoesOn log new answer → StoresNothing first_state StepsTo log new
        → StandsOn first_state StepsTo lazy new → Turned start script history (ended ++ more) lazy next log new failed
    stores_nothing next new answer same goes nothing stands = record {
      then = failed;
      changed = inr (inr (inl (same, nothing, refl)));
      stands = subst (λ (to : LazyState). StandsOn first_state StepsTo to new) (sym same) stands;
      then_is = still_is next new same goes.stays;
    }

    fails : (next other : LazyState) (new : Log D g) → next ≡ lazy → Fails first_state StepsTo lazy other log new → StandsOn first_state StepsTo lazy new
        → IsWhatHasFailed new start script history (ended ++ more) (view_of lazy) (view_of other) → Turned start script history (ended ++ more) lazy next log new failed
    fails next other new same failing stands is = record {
      then = Some (view_of other);
      changed = inr (inr (inr (same, (other, failing, refl))));
      stands = subst (λ (to : LazyState). StandsOn first_state StepsTo to new) (sym same) stands;
      then_is = λ db some.
          subst (λ (to : LazyState). IsWhatHasFailed new start script history (ended ++ more) (view_of to) db) (sym same)
          (subst (λ (to : Database). IsWhatHasFailed new start script history (ended ++ more) (view_of lazy) to) (same_Some (view_of other) db some) is);
    }

  module _ {J : Type 0} (log_of : J → Log D g) (start : Database) (m : Machine) (kept : IsKept start m) (ended : List EndedGroup) (old : J) (on : StandsOn first_state StepsTo m.lazy (log_of old))
      (failed : Option Database) (none : IsReady (log_of old) → failed ≡ None) (failed_is : (db : Database) → failed ≡ Some db → IsWhatHasFailed (log_of old) start m.script m.history ended (view_of m.lazy) db) where
    abbrev Answers : LazyState → LazyState → J → J → Result (Unit {0}) KeepError → Type 0
    Answers lazy next old new answer = HasAnswered lazy next (log_of old) (log_of new) answer

    abbrev Turns : List EndedGroup → LazyState → Log D g → Type 0
    Turns ended next new = Turned start m.script m.history ended m.lazy next (log_of old) new failed

    -- with no group that ends
    by_change : (next : LazyState) (new : J) → IsBeside Answers (IsChangeOf m) m.lazy next old new → Turns (ended ++ []) next (log_of new)
    by_change next new (inl same) = rests start m.script m.history ended [] m.lazy (log_of old) on failed none failed_is next (log_of new) same.0 (ap log_of same.1)
    by_change next new (inr (inl answered)) = keeps_it start m.script m.history ended [] m.lazy (log_of old) on failed none failed_is next (log_of new) answered
    by_change next new (inr (inr (same, (other, change, answered)))) =
        let left = unkept m.lazy other (log_of old) (log_of new) on answered.0 in
        elim left.0 as (λ _. Turns (ended ++ []) next (log_of new)) [
          | inl nothing ↦ stores_nothing start m.script m.history ended [] m.lazy (log_of old) on failed none failed_is next (log_of new) (Err keeps.Memory) same answered.1 nothing left.1
          | inr failing ↦
              let spent = spent_by m.lazy other (log_of old) (log_of new) failing answered.1 in
              fails start m.script m.history ended [] m.lazy (log_of old) on failed none failed_is next other (log_of new) same failing left.1
              (elim (one_makes start m kept other change) as (λ _. IsWhatHasFailed (log_of new) start m.script m.history (ended ++ []) (view_of m.lazy) (view_of other)) [
                | inl unseen ↦ inl unseen
                | inr one ↦ inr (inr (spent, one))
              ])
        ]

    -- with one that ends by a cause
    abbrev group_of : (s : ℕ) (next : Machine) → EndsByLog m s next → EndedGroup
    group_of s next by = record { session = s; group = by.o.group; cause = by.cause }

    told_of : (s : ℕ) (next : Machine) (by : EndsByLog m s next) (new : Log D g) (other : LazyState) → IsUnkeptFor m s by.cause other → (by.cause ≡ DiskFault) ⊎ IsMoveIn m.lazy other
        → IsWhatHasFailed new start m.script m.history (ended ++ group_of s next by ∷ []) (view_of m.lazy) (view_of other)
    told_of s next by new other change (inr move) = inl (move_makes_nothing start m kept other move)
    told_of s next by new other change (inl fault) =
        elim (makes_behind start m kept s by.o by.is by.cause other change) as (λ _. IsWhatHasFailed new start m.script m.history (ended ++ group_of s next by ∷ []) (view_of m.lazy) (view_of other)) [
          | inl unseen ↦ inl unseen
          | inr makes ↦ inr (inl (group_of s next by, Contains-push ended (group_of s next by), fault, makes))
        ]

    by_end : (s : ℕ) (next : Machine) (by : EndsByLog m s next) (new : J) → IsRefused Answers (IsUnkeptFor m s by.cause) m.lazy old new by.cause
        → Turns (ended ++ group_of s next by ∷ []) next.lazy (log_of new)
    by_end s next by new (other, change, answered) =
        let left = refused m.lazy other (log_of old) (log_of new) on by.cause answered.0 in
        let same : next.lazy ≡ m.lazy = ap (λ (n : Machine). n.lazy) by.goes in
        elim left.0 as (λ _. Turns (ended ++ group_of s next by ∷ []) next.lazy (log_of new)) [
          | inl nothing ↦ stores_nothing start m.script m.history ended (group_of s next by ∷ []) m.lazy (log_of old) on failed none failed_is next.lazy (log_of new) (Err (keeps.Ended by.cause)) same answered.1 nothing left.1
          | inr failing ↦ fails start m.script m.history ended (group_of s next by ∷ []) m.lazy (log_of old) on failed none failed_is next.lazy other (log_of new) same failing.0 left.1
              (told_of s next by (log_of new) other change failing.1)
        ]

    pub turns : (next : Machine) (event : Event start m next) (new : J) → IsEventBeside Answers event old new → Turns (ended ++ ended_by event) next.lazy (log_of new)
    turns next event new beside = elim (event_beside Answers start event old new beside) as (λ _. Turns (ended ++ ended_by event) next.lazy (log_of new)) [
      | inl changes ↦ subst (λ (more : List EndedGroup). Turns (ended ++ more) next.lazy (log_of new)) (sym changes.0) (by_change next.lazy new changes.1)
      | inr ends ↦
          let more : ended_by event ≡ group_of ends.0 next ends.1 ∷ [] = ap (λ (e : Event start m next). ended_by e) ends.2 in
          subst (λ (more : List EndedGroup). Turns (ended ++ more) next.lazy (log_of new)) (sym more) (by_end ends.0 next ends.1 new ends.3)
    ]

    -- with a move that was not kept, by which no group ends
    pub turns_by_move : (cause : Cause) (new : J) → IsRefused Answers (IsUnkeptMove m.lazy cause) m.lazy old new cause → Turns (ended ++ []) m.lazy (log_of new)
    turns_by_move cause new (other, change, answered) =
        let left = refused m.lazy other (log_of old) (log_of new) on cause answered.0 in
        elim left.0 as (λ _. Turns (ended ++ []) m.lazy (log_of new)) [
          | inl nothing ↦ stores_nothing start m.script m.history ended [] m.lazy (log_of old) on failed none failed_is m.lazy (log_of new) (Err (keeps.Ended cause)) refl answered.1 nothing left.1
          | inr failing ↦ fails start m.script m.history ended [] m.lazy (log_of old) on failed none failed_is m.lazy other (log_of new) refl failing.0 left.1
              (inl (move_makes_nothing start m kept other change.1))
        ]
