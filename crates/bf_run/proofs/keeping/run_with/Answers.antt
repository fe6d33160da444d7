use Rattle.std.proofs.Common.{List, Option, inl, inr, refl, sym, subst}
use Rattle.std.specs.Prelude.{Result, Ok, Err, OnErr}
use Rattle.bf_disk.specs.Images.{OnlyRead}
use Rattle.std.proofs.lemmas.Result.{IfOk-weaker}
use Rattle.bf_journal.specs.States.{MayLeave}
use Rattle.bf_recover.specs.Legal.{first_state}
use Rattle.bf_recover.specs.Steps.{StepsTo}
use Rattle.bf_sql.specs.Database.{Database}
use Rattle.bf_sql.specs.migrations.Lazy.{LazyState, view_of}
use Rattle.bf_tree.specs.declared.history.Entry.{Entry}
use Rattle.bf_machine.specs.interleaving.Machines.{EndedGroup}
use Rattle.bf_run.specs.Words.{asked_options}
use Rattle.bf_run.specs.declared.status.Status.{Status}
use Rattle.bf_run.specs.Keeping.{CouldBeLeft}
use Rattle.bf_run.specs.Top.{HoldsOver, IsOpened, ServedOn}
use Rattle.bf_run.specs.Untold.{IsUntold}
use Rattle.bf_run.proofs.Kept.{from_start}
use Rattle.bf_run.proofs.Running.{if_told, not_opened, opened_to, served}
use Rattle.bf_run.proofs.keeping.run_with.Goals as goal

on_err : {P : Type 0} {A E : Type 0} (r : Result A E) → P → OnErr r P
on_err (Ok x) so = tt
on_err (Err error) so = so

on_err_weaker : {P Q : Type 0} {A E : Type 0} (r : Result A E) → (P → Q) → OnErr r P → OnErr r Q
on_err_weaker (Ok x) weaker so = tt
on_err_weaker (Err error) weaker so = weaker so

-- the log that was opened keeps what the run commits, and so does its file since the start
pub returns-in-Ok-clause-told : goal.returns-in-Ok-clause-told
returns-in-Ok-clause-told g c =
    let Disk = g.D.Disk in
    let disk = c.args.disk in
    let now = c.serve_over.result.0 in
    let lazy = c.in-Ok.store.lazy in
    let opened = c.in-Ok.ensures.reopened in
    let could : (left : Option LazyState) → MayLeave first_state StepsTo c.in-Ok.log (Disk.moment disk) left → CouldBeLeft (Disk.may_leave disk) left =
    λ left may. (may.1.0, c.in-Ok.ensures.disk.images.each may.1.0 may.1.1, may.1.2) in
    let holds : (status : Status) (start : Database) (history : List Entry) (ended : List EndedGroup) (last : LazyState) → ServedOn c.args.options.finish (view_of lazy) c.in-Ok.log now status c.args.script start history ended last
    → HoldsOver Disk.seen Disk.may_leave Disk.moment Disk.left_since Disk.fault_count c.args.options.finish disk now status c.args.script start history ended last = λ status start history ended last is. (
      subst (IsOpened Disk.seen Disk.may_leave Disk.moment Disk.left_since Disk.fault_count disk) (sym is.0)
          (opened_to Disk.seen Disk.may_leave Disk.moment Disk.left_since Disk.fault_count (asked_options c.args.options) c.args.script disk now lazy opened.gives),
      if_told (Disk.seen now) _
          (λ file told. record {
            failed = is.1.0;
            failed_is = is.1.1;
            leaves = from_start Disk.moment Disk.left_since _ _ now (Disk.moment disk) c.args.script start history is.1.0 could (is.1.2 (Disk.moment disk) opened.later file told);
          }),
      is.2,
      is.3,
      is.4,
    ) in
    IfOk-weaker c.serve_over.result.1 _ _
    (λ a is. served Disk.seen Disk.may_leave Disk.moment Disk.left_since Disk.fault_count (asked_options c.args.options) c.args.script disk now (ServedOn {g = Disk} c.args.options.finish (view_of lazy) c.in-Ok.log now) _ _ a.0 a.1.items is c.in-Ok.ensures.faults refl holds)
    c.serve_over.ensures.served

pub returns-in-Err-clause-told : goal.returns-in-Err-clause-told
returns-in-Err-clause-told g c =
    IfOk-weaker c.tell_open_error.result _ _
    (λ a is. not_opened g.D.Disk.seen g.D.Disk.may_leave g.D.Disk.moment g.D.Disk.left_since g.D.Disk.fault_count (asked_options c.args.options) c.args.script c.args.disk c.in-Err.disk c.in-Err.error a.0 a.1.items is c.in-Err.ensures.refused c.in-Err.ensures.disk c.in-Err.ensures.faults)
    c.tell_open_error.ensures

pub serve_over-requires-clause-stands : goal.serve_over-requires-clause-stands
serve_over-requires-clause-stands g c κs within = c.in-Ok.ensures.reopened.stands

pub serve_over-requires-clause-alone : goal.serve_over-requires-clause-alone
serve_over-requires-clause-alone g c κs within = c.in-Ok.ensures.reopened.alone

pub serve_over-requires-clause-ready : goal.serve_over-requires-clause-ready
serve_over-requires-clause-ready g c κs within = c.in-Ok.ensures.reopened.ready

pub returns-in-Ok-clause-untold : goal.returns-in-Ok-clause-untold
returns-in-Ok-clause-untold g c =
    let Disk = g.D.Disk in
    let disk = c.args.disk in
    let now = c.serve_over.result.0 in
    let lazy = c.in-Ok.store.lazy in
    let opened = c.in-Ok.ensures.reopened in
    let could : (left : Option LazyState) → MayLeave first_state StepsTo c.in-Ok.log (Disk.moment disk) left → CouldBeLeft (Disk.may_leave disk) left =
    λ left may. (may.1.0, c.in-Ok.ensures.disk.images.each may.1.0 may.1.1, may.1.2) in
    let Goal = IsUntold Disk.seen Disk.may_leave Disk.moment Disk.left_since c.args.script disk now in
    on_err_weaker c.serve_over.result.1
    (λ off. elim off as (λ _. Goal) [
      | inl same ↦ inl (inr (subst (OnlyRead Disk.seen Disk.may_leave Disk.moment Disk.left_since disk) (sym same) c.in-Ok.ensures.disk))
      | inr run ↦ inr (record {
        start = view_of lazy;
        opens = opened_to Disk.seen Disk.may_leave Disk.moment Disk.left_since Disk.fault_count (asked_options c.args.options) c.args.script disk now lazy opened.gives;
        history = run.0;
        groups = run.1;
        kept = if_told (Disk.seen now) _
            (λ file told. record {
              failed = run.2.0;
              failed_is = run.2.1;
              leaves = from_start Disk.moment Disk.left_since _ _ now (Disk.moment disk) c.args.script (view_of lazy) run.0 run.2.0 could (run.2.2 (Disk.moment disk) opened.later file told);
            });
      })
    ])
    c.serve_over.ensures.broken_off

pub returns-in-Err-clause-untold : goal.returns-in-Err-clause-untold
returns-in-Err-clause-untold g c = on_err c.tell_open_error.result (inl (inr c.in-Err.ensures.disk))
