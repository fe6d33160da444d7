-- A run over a log that ended for want of memory.
use Rattle.std.proofs.Common.{◌≡◌, ℕ, List, [], inr, refl, subst, ◌∙◌}
use Rattle.bf_disk.specs.declared.disk.Disk.{Ghosts}
use Rattle.bf_journal.specs.Leaving.{LeavesAlone}
use Rattle.bf_journal.specs.States.{StandsOn}
use Rattle.bf_run.specs.Answers.{HasAnswered}
use Rattle.bf_run.specs.Crashing.{AreGroupsInOrder, KeepsOnLog, Recovers, ended_on_log}
use Rattle.bf_run.specs.declared.log_journal.LogJournal.{LogJournal}
use Rattle.bf_machine.specs.interleaving.Events.{Reaches}
use Rattle.bf_machine.specs.interleaving.Kept.{IsKept}
use Rattle.bf_machine.specs.interleaving.Machines.{EndedGroup, Machine, transcripts_of}
use Rattle.bf_machine.proofs.interleaving.Reaching.{reached_keeps_all}
use Rattle.bf_machine.proofs.served.Ending.{reached_script}
use Rattle.bf_machine.proofs.served.Keeping.{keeps_reach}
use Rattle.bf_recover.specs.Legal.{first_state}
use Rattle.bf_recover.specs.Steps.{StepsTo}
use Rattle.bf_sql.specs.Database.{Database}
use Rattle.bf_sql.specs.History.{replayed}
use Rattle.bf_sql.specs.migrations.Lazy.{LazyState, sweep_of, view_of}
use Rattle.bf_tree.specs.declared.script.Script.{Script}
use Rattle.bf_run.specs.Deaths.{IsRunWithDeaths}
use Rattle.bf_run.specs.Keeping.{KeepsOn}
use Rattle.bf_run.specs.Untold.{IsBrokenOffOn}
use Rattle.bf_run.specs.declared.status.Status.TheVariants.{Memory}
use Rattle.bf_run.proofs.Kept.{keeps_at_memory, recovered}

-- all is kept behind events beside a log
pub kept_behind : {D : Type 0} {g : Ghosts D} (opening : Database) (m now : Machine) (j k : LogJournal D g) → IsKept opening m → KeepsOnLog opening m j now k → IsKept opening now
kept_behind {D = D} {g = g} opening m now j k kept keeps =
    reached_keeps_all opening m now kept (keeps_reach (λ lazy next (old : LogJournal D g) new answer. HasAnswered lazy next old.log new.log answer) opening m j now k keeps)

-- a run with the state of the store at its end
abbrev pub run_with_last : (retries : ℕ) (opening : Database) (script : Script) (now : Machine) (ended : List EndedGroup) → now.script ≡ script → IsKept opening now
    → IsRunWithDeaths retries opening script ended (transcripts_of now) now.history (sweep_of now.lazy.last)
    → IsRunWithDeaths retries opening script ended (transcripts_of now) now.history (sweep_of now.lazy.last)
run_with_last retries opening script now ended own kept ran = record {
  history_legal = ran.history_legal;
  all_answered = ran.all_answered;
  last = now.lazy;
  seen_as = subst (λ (k : Script). view_of now.lazy ≡ (replayed k opening now.history).1) own (kept.store_valid.seen_as.view ∙ kept.history_legal.replay);
  swept = refl;
}

pub broken_off : {D : Type 0} {g : Ghosts D} (opening : Database) (lazy : LazyState) (script : Script) (m now : Machine) (j k : LogJournal D g) → m.script ≡ script → m.lazy ≡ lazy
    → IsKept opening m → StandsOn first_state StepsTo lazy j.log → LeavesAlone first_state StepsTo lazy j.log → KeepsOnLog opening m j now k
    → ((start : Database) (m next : Machine) (j k : LogJournal D g) (keeps : KeepsOnLog start m j next k) → IsKept start m → StandsOn first_state StepsTo m.lazy j.log
    → LeavesAlone first_state StepsTo m.lazy j.log → Recovers j.log start (ended_on_log keeps) next k.log)
    → IsBrokenOffOn opening j.log k.log.disk script
broken_off {D = D} {g = g} opening lazy script m now j k of_script same kept stands alone keeps law =
    let reach : Reaches opening m now = keeps_reach (λ lazy next (old : LogJournal D g) new answer. HasAnswered lazy next old.log new.log answer) opening m j now k keeps in
    let kept_now : IsKept opening now = reached_keeps_all opening m now kept reach in
    let own : now.script ≡ script = reached_script opening m now reach ∙ of_script in
    let legal = kept_now.history_legal.legal in
    let recovers = recovered opening lazy m now j k same kept stands alone keeps law in
    inr (
      now.history,
      subst (λ (s : Script). AreGroupsInOrder s now.history) own (legal.whole_groups, legal.in_order),
      subst (λ (s : Script). KeepsOn j.log k.log.disk Memory s opening now.history []) own (keeps_at_memory opening now j.log k.log kept_now (ended_on_log keeps) recovers),
    )
