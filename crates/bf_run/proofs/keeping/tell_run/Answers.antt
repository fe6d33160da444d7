-- What was served beside a log has run over the opening database, and the log keeps what it committed.
use Rattle.std.proofs.Common.{true, refl, sym, ◌∙◌}
use Rattle.std.proofs.lemmas.Result.{IfOk-at_ok}
use Rattle.bf_sql.specs.migrations.Lazy.{view_of}
use Rattle.bf_machine.specs.interleaving.Kept.{IsKept, IsOpening, fresh}
use Rattle.bf_serve.specs.Come.{LeavesParts}
use Rattle.bf_run.specs.Words.{asked_options}
use Rattle.bf_run.proofs.Kept.{not_spent_if, recovered}
use Rattle.bf_run.proofs.Untold.{broken_off, kept_behind}
use Rattle.bf_run.proofs.Serving.{if_ok_by, on_err, on_ok, report_of, served}
use Rattle.bf_run.proofs.keeping.tell_run.Goals as goal

pub returns-clause-served : goal.returns-clause-served
returns-clause-served g c =
    let store = c.args.store in
    let script = c.args.script in
    let opening = view_of store.lazy in
    let m = fresh true store script c.args.options.retries in
    let j = c.args.journal in
    let k = c.serve_script-journal.result.0 in
    let by = c.serve_script-journal.ensures.keeps in
    let now = by.0 in
    let keeps = by.1 in
    let opens : IsOpening store = record { lazy_state = c.live.ensures.lazy_state; narrow = c.live.ensures.narrow; by_pass = c.migration.ensures.by_pass } in
    let kept : IsKept opening m = c.events_keep_all.ensures.new true store script c.args.options.retries opens c.requires.limits in
    let kept_now : IsKept opening now = kept_behind {g = g.D.Disk} opening m now j k kept keeps in
    let parts : LeavesParts now c.in-Ok.parts = IfOk-at_ok (LeavesParts now) c.in-Ok.is by.2 in
    let finishes = on_ok c.in-Ok.is by.3 in
    let ran = c.sessions_that_have_ended_ran_with_deaths.ensures opening true store script c.args.options.retries m now j k keeps refl kept parts.ended in
    let recovers = recovered {g = g.D.Disk} opening store.lazy m now j k refl kept c.requires.stands c.requires.alone keeps c.every_crash_leaves_a_prefix.ensures.whole in
    let taken = not_spent_if k.log.standing (sym c.if-is_given_up.false ∙ c.is_given_up.ensures) in
    let told = c.tell_parts-told.ensures in
    if_ok_by c.tell_parts-told.result
    (λ a text fault done. served {g = g.D.Disk} (asked_options c.args.options) store script j k now keeps kept_now ran
    (c.what_ends_groups_is_told.ensures.replies opening m now j k keeps kept)
    (c.what_ends_groups_is_told.ensures.causes opening m now j k keeps c.requires.ready)
    (c.a_size_that_is_told_is_that_of_a_record.ensures opening m now j k keeps kept)
    recovers finishes taken c.faults-faults.result c.faults-faults.ensures a.0 a.1.items (text ∙ report_of c.args.options.audit now c.in-Ok.parts parts) fault done)
    told.text told.fault told.done

pub returns-clause-broken_off : goal.returns-clause-broken_off
returns-clause-broken_off g c =
    let store = c.args.store in
    let script = c.args.script in
    let m = fresh true store script c.args.options.retries in
    let by = c.serve_script-journal.ensures.keeps in
    let opens : IsOpening store = record { lazy_state = c.live.ensures.lazy_state; narrow = c.live.ensures.narrow; by_pass = c.migration.ensures.by_pass } in
    let kept = c.events_keep_all.ensures.new true store script c.args.options.retries opens c.requires.limits in
    on_err c.tell_parts-told.result (broken_off {g = g.D.Disk} (view_of store.lazy) store.lazy script m by.0 c.args.journal c.serve_script-journal.result.0
    refl refl kept c.requires.stands c.requires.alone by.1 c.every_crash_leaves_a_prefix.ensures.whole)

pub returns-in-Err-clause-broken_off : goal.returns-in-Err-clause-broken_off
returns-in-Err-clause-broken_off g c =
    let store = c.args.store in
    let script = c.args.script in
    let m = fresh true store script c.args.options.retries in
    let by = c.serve_script-journal.ensures.keeps in
    let opens : IsOpening store = record { lazy_state = c.live.ensures.lazy_state; narrow = c.live.ensures.narrow; by_pass = c.migration.ensures.by_pass } in
    let kept = c.events_keep_all.ensures.new true store script c.args.options.retries opens c.requires.limits in
    broken_off {g = g.D.Disk} (view_of store.lazy) store.lazy script m by.0 c.args.journal c.serve_script-journal.result.0
    refl refl kept c.requires.stands c.requires.alone by.1 c.every_crash_leaves_a_prefix.ensures.whole

pub returns-then-is_given_up-clause-broken_off : goal.returns-then-is_given_up-clause-broken_off
returns-then-is_given_up-clause-broken_off g c =
    let store = c.args.store in
    let script = c.args.script in
    let m = fresh true store script c.args.options.retries in
    let by = c.serve_script-journal.ensures.keeps in
    let opens : IsOpening store = record { lazy_state = c.live.ensures.lazy_state; narrow = c.live.ensures.narrow; by_pass = c.migration.ensures.by_pass } in
    let kept = c.events_keep_all.ensures.new true store script c.args.options.retries opens c.requires.limits in
    broken_off {g = g.D.Disk} (view_of store.lazy) store.lazy script m by.0 c.args.journal c.serve_script-journal.result.0
    refl refl kept c.requires.stands c.requires.alone by.1 c.every_crash_leaves_a_prefix.ensures.whole
