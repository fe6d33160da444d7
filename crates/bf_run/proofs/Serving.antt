-- What is told of a run that came of a new machine over a store, beside a log.
use Rattle.std.proofs.Common.{◌≡◌, ℕ, ◌<◌, ◌≤◌, Bool, true, List, refl, sym, ap, subst, ◌∙◌, inl, inr}
use Rattle.std.specs.Prelude.{Result, Ok, Err, IfOk, OnErr, OnOk}
use Rattle.std.proofs.lemmas.Bool.{cases_lt}
use Rattle.std.proofs.lemmas.Result.{IfOk-at_ok}
use Rattle.bf_disk.specs.declared.disk.Disk.{Ghosts}
use Rattle.bf_journal.specs.States.{IsReady}
use Rattle.bf_log.specs.Append.{disk_of, standing_of}
use Rattle.bf_log.specs.declared.log.Standing.TheVariants.{Spent}
use Rattle.bf_machine.specs.declared.machine.Parts.{Parts}
use Rattle.bf_machine.specs.interleaving.Kept.{IsKept, fresh}
use Rattle.bf_machine.specs.interleaving.Machines.{Machine, transcripts_of}
use Rattle.bf_machine.proofs.served.Ending.{reached_script}
use Rattle.bf_machine.proofs.served.Keeping.{keeps_reach}
use Rattle.bf_sql.specs.Database.{Database}
use Rattle.bf_sql.specs.migrations.Lazy.{sweep_of, view_of}
use Rattle.bf_store.specs.Stores.{Store}
use Rattle.bf_sql.specs.History.{replayed}
use Rattle.bf_text.specs.Report.{report_text}
use Rattle.bf_tree.specs.declared.script.Script.{Script}
use Rattle.bf_words.specs.Words.{Options}
use Rattle.bf_run.specs.Answers.{AreSizesOf, AreToldTheirCauses, CausesMatchLog, HasAnswered, is_ready}
use Rattle.bf_serve.specs.Come.{LeavesParts}
use Rattle.bf_serve.specs.Finishing.{HasFinished}
use Rattle.bf_run.specs.Crashing.{KeepsOnLog, Recovers, ended_on_log}
use Rattle.bf_run.specs.Deaths.{IsRunWithDeaths}
use Rattle.bf_run.specs.Keeping.{IsGivenBy, KeepsOn}
use Rattle.bf_run.specs.Options.{audit_if}
use Rattle.bf_run.specs.Outcome.{IsRunTold}
use Rattle.bf_run.specs.Top.{IsServed, ServedOn}
use Rattle.bf_run.specs.declared.log_journal.LogJournal.{LogJournal}
use Rattle.bf_run.specs.declared.status.Status.{Status}
use Rattle.bf_run.specs.declared.status.Status.TheVariants.{Done, DiskFault}
use Rattle.bf_run.proofs.Caused.{caused}
use Rattle.bf_run.proofs.Finished.{finished}
use Rattle.bf_run.proofs.Kept.{given_at_done, given_at_fault, keeps_at_done, keeps_at_fault, ready_if}
use Rattle.bf_run.proofs.Untold.{run_with_last}

-- where three facts of what is answered make a fourth
pub if_ok_by : {A E : Type 0} {P Q R S : A → Type 0} (r : Result A E) → ((a : A) → P a → Q a → R a → S a) → IfOk r P → IfOk r Q → IfOk r R → IfOk r S
if_ok_by (Ok a) so p q r = so a p q r
if_ok_by (Err error) so p q r = tt

pub on_err : {P : Type 0} {A E : Type 0} (r : Result A E) → P → OnErr r P
on_err (Ok x) so = tt
on_err (Err error) so = so

pub on_ok : {P : Type 0} {A E : Type 0} {r : Result A E} {a : A} → r ≡ Ok a → OnOk r P → P
on_ok {P = P} is so = IfOk-at_ok (λ _. P) is so

-- the report of what a machine leaves is that of the machine
pub report_of : (audit : Bool) (now : Machine) (parts : Parts) → LeavesParts now parts
    → report_text parts.transcripts.sessions parts.history.entries (audit_if audit (view_of parts.store.lazy)) (sweep_of parts.store.lazy.last)
    ≡ report_text (transcripts_of now) now.history (audit_if audit (view_of now.lazy)) (sweep_of now.lazy.last)
report_of audit now parts leaves = λ i. report_text (leaves.transcripts i) (leaves.history i) (audit_if audit (view_of (leaves.lazy i))) (sweep_of (leaves.lazy i).last)

module _ {D : Type 0} {g : Ghosts D} (options : Options) (store : Store) (script : Script) (j k : LogJournal D g) (now : Machine)
    (keeps : KeepsOnLog (view_of store.lazy) (fresh true store script options.retries) j now k) where
  -- the script stays
  pub own_script : now.script ≡ script
  own_script =
      reached_script (view_of store.lazy) (fresh true store script options.retries) now
      (keeps_reach (λ lazy next (old : LogJournal D g) new answer. HasAnswered lazy next old.log new.log answer) (view_of store.lazy) (fresh true store script options.retries) j now k keeps)

  module _ (kept : IsKept (view_of store.lazy) now)
      (ran : IsRunWithDeaths options.retries (view_of store.lazy) script (ended_on_log keeps) (transcripts_of now) now.history (sweep_of now.lazy.last))
      (replied : AreToldTheirCauses now.script (transcripts_of now) (ended_on_log keeps))
      (causes : CausesMatchLog k.log (ended_on_log keeps))
      (sizes : AreSizesOf (view_of store.lazy) now.script now.history (ended_on_log keeps))
      (recovers : Recovers j.log (view_of store.lazy) (ended_on_log keeps) now k.log)
      (finishes : options.finish ≡ true → HasFinished {J = LogJournal D g} (λ lazy next old new answer. HasAnswered lazy next old.log new.log answer) now k) where
    told : (status : Status) → (status ≡ Done → IsReady k.log)
        → KeepsOn j.log k.log.disk status now.script (view_of store.lazy) now.history (ended_on_log keeps)
        → IsGivenBy g.seen g.may_leave status k.log.disk now.lazy
        → (text : List ℕ) → text ≡ report_text (transcripts_of now) now.history (audit_if options.audit (view_of now.lazy)) (sweep_of now.lazy.last)
        → IsRunTold options (ServedOn options.finish (view_of store.lazy) j.log k.log.disk status script) script text
    told status ready keeps_on given text written =
        let own = own_script in
        let ended = ended_on_log keeps in
        let replays : view_of now.lazy ≡ (replayed script (view_of store.lazy) now.history).1 =
        kept.store_valid.seen_as.view ∙ subst (λ (s : Script). now.db ≡ (replayed s (view_of store.lazy) now.history).1) own kept.history_legal.replay in
        let sized : AreSizesOf (view_of store.lazy) script now.history ended = subst (λ (s : Script). AreSizesOf (view_of store.lazy) s now.history ended) own sizes in
        record {
          start = view_of store.lazy;
          transcripts = transcripts_of now;
          history = now.history;
          ended = ended;
          sweep = sweep_of now.lazy.last;
          is_run = run_with_last options.retries (view_of store.lazy) script now ended own kept ran;
          told = subst (λ (s : Script). AreToldTheirCauses s (transcripts_of now) ended) own replied;
          holds = (
            refl,
            subst (λ (s : Script). KeepsOn j.log k.log.disk status s (view_of store.lazy) now.history ended) own keeps_on,
            caused k.log (view_of store.lazy) script now.history ended causes sized status ready,
            given,
            λ asked done. finished now k (ready done) (finishes asked),
          );
          report_written = written ∙ ap (λ (db : Database). report_text (transcripts_of now) now.history (audit_if options.audit db) (sweep_of now.lazy.last)) replays;
        }

    told_at_fault : (standing_of k.log ≡ Spent → ⊥) → (text : List ℕ) → text ≡ report_text (transcripts_of now) now.history (audit_if options.audit (view_of now.lazy)) (sweep_of now.lazy.last)
        → IsRunTold options (ServedOn options.finish (view_of store.lazy) j.log k.log.disk DiskFault script) script text
    told_at_fault taken text written =
        told DiskFault (λ is. absurd cc) (keeps_at_fault (view_of store.lazy) now j.log k.log kept (ended_on_log keeps) recovers taken) (given_at_fault now.lazy k.log recovers.stands) text written

    told_at_done : IsReady k.log → (text : List ℕ) → text ≡ report_text (transcripts_of now) now.history (audit_if options.audit (view_of now.lazy)) (sweep_of now.lazy.last)
        → IsRunTold options (ServedOn options.finish (view_of store.lazy) j.log k.log.disk Done script) script text
    told_at_done ready text written =
        told Done (λ _. ready) (keeps_at_done (view_of store.lazy) now j.log k.log kept (ended_on_log keeps) recovers ready) (given_at_done now.lazy k.log recovers.stands ready) text written

    -- at whatever status, by the device's count of faults from before
    pub served : (standing_of k.log ≡ Spent → ⊥) → (before : ℕ) → before ≡ g.fault_count (disk_of j.log)
        → (status : Status) (text : List ℕ) → text ≡ report_text (transcripts_of now) now.history (audit_if options.audit (view_of now.lazy)) (sweep_of now.lazy.last)
        → (before < g.fault_count (disk_of k.log) → status ≡ DiskFault)
        → (g.fault_count (disk_of k.log) ≤ before → (status ≡ Done) × (is_ready (standing_of k.log) ≡ true))
        → IsServed options (ServedOn options.finish (view_of store.lazy) j.log (disk_of k.log)) script (g.fault_count (disk_of j.log)) (g.fault_count (disk_of k.log)) status text
    served taken before same status text written fault done =
        let after = g.fault_count (disk_of k.log) in
        let Goal : Status → Type 0 = λ s. IsServed options (ServedOn options.finish (view_of store.lazy) j.log (disk_of k.log)) script (g.fault_count (disk_of j.log)) after s text in
        elim (cases_lt before after) as (λ _. Goal status) [
          | inl rose ↦ subst Goal (sym (fault rose)) (told_at_fault taken text written, subst (λ n. n < after) same rose)
          | inr stays ↦
              let is = done stays in
              subst Goal (sym is.0) (told_at_done (ready_if k.log.standing (sym is.1)) text written, subst (λ n. after ≤ n) same stays)
        ]
