-- Events of a machine beside its log keep what every crash of it leaves.
use Rattle.std.proofs.Common.{◌≡◌, inl, inr, ℕ, ◌≤◌, List, [], ◌∷◌, ◌++◌, append-nil, append_assoc, map, Option, None, Result, refl, sym, ◌∙◌, ap, subst, arith}
use Rattle.std.proofs.lemmas.List.{map-append}
use Rattle.bf_disk.specs.declared.disk.Disk.{Ghosts}
use Rattle.bf_journal.specs.Crashes.{IsAfterPrefix, replayed}
use Rattle.bf_journal.specs.Leaving.{LeavesAlone}
use Rattle.bf_journal.specs.States.{MayLeave, StandsOn, moment_of}
use Rattle.bf_journal.proofs.Runs.{longer, replayed_more, whole}
use Rattle.bf_log.specs.declared.log.Log.{Log}
use Rattle.bf_machine.specs.declared.journal.KeepError.{KeepError}
use Rattle.bf_machine.specs.interleaving.Events.{at_once, one_more}
use Rattle.bf_machine.specs.interleaving.Journals.{Keeps, ended_by, ended_in, nothing_yet, one_beside, unkept_move}
use Rattle.bf_machine.specs.interleaving.Kept.{IsKept}
use Rattle.bf_machine.specs.interleaving.Machines.{EndedGroup, Machine}
use Rattle.bf_machine.proofs.interleaving.Reaching.{reached_keeps_all}
use Rattle.bf_recover.specs.Legal.{first_state}
use Rattle.bf_recover.specs.Steps.{StepsTo, entry_of, run_entry}
use Rattle.bf_sql.specs.Database.{Database}
use Rattle.bf_sql.specs.migrations.Lazy.{LazyState, view_of}
use Rattle.bf_tree.specs.declared.history.Entry.{Entry}
use Rattle.bf_tree.specs.declared.history.Outcome.{Outcome}
use Rattle.bf_tree.specs.declared.script.Script.{Script}
use Rattle.bf_tree.specs.declared.statement.Statement.{Statement}
use Rattle.bf_run.specs.Answers.{HasAnswered, if_committed}
use Rattle.bf_run.specs.Crashing.{Follows, IsWhatHasFailed, LeavesBefore, Recovers}
use Rattle.bf_run.proofs.crashing.Changing.{Leaves, goes_before, grows, none_failed_then, stays}
use Rattle.bf_run.proofs.crashing.Failing.{Turned, turns, turns_by_move}
use Rattle.bf_run.proofs.crashing.Growing.{Grows, grows_by}
use Rattle.bf_run.proofs.crashing.Makes.{entries, seen}

-- a machine that stays at its history has the same entries, and one whose history grows has one more
same_entries : (now next : Machine) → next.script ≡ now.script → next.history ≡ now.history → entries next ≡ entries now
same_entries now next script history =
    ap (λ (s : Script). map (entry_of s) next.history) script ∙ ap (λ (es : List Entry). map (entry_of now.script) es) history

one_more_entry : (now next : Machine) (entry : Entry) → next.script ≡ now.script → next.history ≡ now.history ++ entry ∷ []
    → entries next ≡ entries now ++ entry_of now.script entry ∷ []
one_more_entry now next entry script history =
    ap (λ (s : Script). map (entry_of s) next.history) script
    ∙ ap (λ (es : List Entry). map (entry_of now.script) es) history
    ∙ map-append (entry_of now.script) now.history (entry ∷ [])

-- what could follow a history follows a longer one behind which nothing has changed
follows_more : (start : Database) (script : Script) (history later : List Entry) (now : Database) (entry : Entry) → Follows start script history now entry → Follows start script (history ++ later) now entry
follows_more start script history later now entry follows = record {
  prefix = follows.prefix;
  later = follows.later ++ later;
  of_history = sym (append_assoc follows.prefix follows.later later) ∙ ap (λ (front : List Entry). front ++ later) follows.of_history;
  unchanged = follows.unchanged;
  in_order = follows.in_order;
}

failed_behind : {D : Type 0} {g : Ghosts D} (log : Log D g) (start : Database) (script : Script) (history later : List Entry) (ended : List EndedGroup) (now db : Database)
    → IsWhatHasFailed log start script history ended now db → IsWhatHasFailed log start script (history ++ later) ended now db
failed_behind log start script history later ended now db (inl same) = inl same
failed_behind log start script history later ended now db (inr (inl told)) =
    inr (inl (told.0, told.1, told.2, (told.3.0, (follows_more start script history later now (if_committed told.0 told.3.0) told.3.1.0, told.3.1.1))))
failed_behind log start script history later ended now db (inr (inr spent)) =
    inr (inr (spent.0, (spent.1.0, (follows_more start script history later now spent.1.0 spent.1.1.0, spent.1.1.1))))

-- AT THE BEGIN, where a crash leaves the state of its store alone
pub starts : {D : Type 0} {g : Ghosts D} (start : Database) (m : Machine) (log : Log D g) → IsKept start m → StandsOn first_state StepsTo m.lazy log → LeavesAlone first_state StepsTo m.lazy log
    → Recovers log start [] m log
starts start m log kept on alone = record {
  stands = on;
  failed = None;
  none_failed = λ ready. refl;
  failed_is = λ db is. absurd cc;
  images = record {
    view_is = seen start m kept;
    passed = omega arith;
    none_failed = λ ready. refl;
    now = λ left leaves. (m.lazy, alone left leaves, inl refl);
    ever = λ left leaves. (m.lazy, alone left leaves, inl (whole run_entry (entries m) start (view_of m.lazy) (seen start m kept)));
  };
  before = λ since le left leaves. inl leaves;
}

module _ {D : Type 0} {g : Ghosts D} (earlier : (log : Log D g) (t u : ℕ) (left : Option LazyState) → t ≤ u → MayLeave first_state StepsTo log u left → MayLeave first_state StepsTo log t left)
    (start : Database) where
  module _ (opened : Log D g) {J : Type 0} (log_of : J → Log D g) where
    abbrev Holds : LazyState → Log D g → List (List Statement × Outcome) → Option Database → Type 0
    Holds lazy log history failed = Leaves first_state StepsTo view_of run_entry start (moment_of opened) lazy log history failed

    abbrev Answers : LazyState → LazyState → J → J → Result (Unit {0}) KeepError → Type 0
    Answers lazy next old new answer = HasAnswered lazy next (log_of old) (log_of new) answer

    module _ (ended more : List EndedGroup) (now next : Machine) (old new : J) (kept : IsKept start now) (kept_next : IsKept start next) (was : Recovers opened start ended now (log_of old))
        (turned : Turned start now.script now.history (ended ++ more) now.lazy next.lazy (log_of old) (log_of new) was.failed) where
      -- what holds of the entries of the next machine holds of it
      recovers : (history : List (List Statement × Outcome)) → entries next ≡ history → next.script ≡ now.script → (grown : (later : List Entry) × (next.history ≡ now.history ++ later))
          → ((db : Database) → IsAfterPrefix run_entry start (entries now) db → IsAfterPrefix run_entry start history db)
          → Holds next.lazy (log_of new) history turned.then → Recovers opened start (ended ++ more) next (log_of new)
      recovers history alike script grown so holds = record {
        stands = turned.stands;
        failed = turned.then;
        none_failed = none_failed_then first_state StepsTo view_of run_entry now.lazy next.lazy (log_of old) (log_of new) was.failed turned.then turned.changed was.none_failed;
        failed_is = λ db is. subst (λ (k : Script). IsWhatHasFailed (log_of new) start k next.history (ended ++ more) (view_of next.lazy) db) (sym script)
            (subst (λ (es : List Entry). IsWhatHasFailed (log_of new) start now.script es (ended ++ more) (view_of next.lazy) db) (sym grown.1)
            (failed_behind (log_of new) start now.script now.history grown.0 (ended ++ more) (view_of next.lazy) db (turned.then_is db is)));
        images = subst (λ (es : List (List Statement × Outcome)). Holds next.lazy (log_of new) es turned.then) (sym alike) holds;
        before = subst (λ (es : List (List Statement × Outcome)). LeavesBefore opened start es turned.then (log_of new)) (sym alike)
            (goes_before first_state StepsTo view_of run_entry earlier start (moment_of opened) now.lazy (log_of old) (entries now) was.failed was.images
            opened next.lazy (log_of new) turned.then history turned.changed so holds was.before);
      }

      one_event : Grows now next → Recovers opened start (ended ++ more) next (log_of new)
      one_event (script, inl history) =
          let alike = same_entries now next script history in
          let still : view_of next.lazy ≡ view_of now.lazy =
          seen start next kept_next ∙ ap (replayed run_entry start) alike ∙ sym (seen start now kept) in
          recovers (entries now) alike script ([], history ∙ sym (append-nil now.history)) (λ db is. is)
          (stays first_state StepsTo view_of run_entry earlier start (moment_of opened) now.lazy (log_of old) (entries now) was.failed was.images
          next.lazy (log_of new) turned.then still turned.changed)
      one_event (script, inr (entry, history)) =
          let alike = one_more_entry now next entry script history in
          let made : view_of next.lazy ≡ run_entry (view_of now.lazy) (entry_of now.script entry) =
          seen start next kept_next ∙ ap (replayed run_entry start) alike ∙ replayed_more run_entry (entries now) (entry_of now.script entry) start
          ∙ ap (λ (db : Database). run_entry db (entry_of now.script entry)) (sym (seen start now kept)) in
          recovers (entries now ++ entry_of now.script entry ∷ []) alike script (entry ∷ [], history) (longer run_entry (entries now) (entry_of now.script entry ∷ []) start)
          (grows first_state StepsTo view_of run_entry earlier start (moment_of opened) now.lazy (log_of old) (entries now) was.failed was.images
          next.lazy (log_of new) turned.then (entry_of now.script entry) made turned.changed)

    -- EVENTS KEEP what every crash leaves
    pub events_keep : (ended : List EndedGroup) (m : Machine) (j : J) (next : Machine) (k : J) → IsKept start m → Recovers opened start ended m (log_of j)
        → (keeps : Keeps Answers start m j next k) → IsKept start next × Recovers opened start (ended ++ ended_in Answers keeps) next (log_of k)
    events_keep ended m j _ _ kept was nothing_yet = (kept, subst (λ (all : List EndedGroup). Recovers opened start all m (log_of j)) (sym (append-nil ended)) was)
    events_keep ended m j _ _ kept was (one_beside {now = now} {next = next} {k = old} {l = new} before event goes) =
        let so_far = events_keep ended m j now old kept was before in
        let behind : List EndedGroup = ended ++ ended_in Answers before in
        let kept_next = reached_keeps_all start now next so_far.0 (one_more at_once event) in
        let turned = turns log_of start now so_far.0 behind old so_far.1.stands so_far.1.failed so_far.1.none_failed so_far.1.failed_is next event new goes in
        let one = one_event behind (ended_by event) now next old new so_far.0 kept_next so_far.1 turned (grows_by now next start event) in
        (kept_next, subst (λ (all : List EndedGroup). Recovers opened start all next (log_of new)) (append_assoc ended (ended_in Answers before) (ended_by event)) one)
    events_keep ended m j _ _ kept was (unkept_move {now = now} {k = old} {l = new} before cause refused) =
        let so_far = events_keep ended m j now old kept was before in
        let behind : List EndedGroup = ended ++ ended_in Answers before in
        let turned = turns_by_move log_of start now so_far.0 behind old so_far.1.stands so_far.1.failed so_far.1.none_failed so_far.1.failed_is cause new refused in
        let one = one_event behind [] now now old new so_far.0 so_far.0 so_far.1 turned (refl, inl refl) in
        (so_far.0, subst (λ (all : List EndedGroup). Recovers opened start all now (log_of new)) (append-nil behind) one)
