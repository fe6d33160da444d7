use Rattle.std.proofs.Common.{Some, ap, subst, ◌∙◌}
use Rattle.bf_demo.specs.Shown.{shown_of}
use Rattle.bf_run.specs.Creating.{shelf_of}
use Rattle.bf_run.specs.Outcome.{ComesOfLog, HoldsAsked}
use Rattle.bf_run.specs.Top.{IsTextOfRun}
use Rattle.bf_run.specs.Untold.{ReadsLog}
use Rattle.bf_run.specs.Words.{asked_options}
use Rattle.bf_run.specs.declared.status.Status.{Status}
use Rattle.bf_words.specs.Words.{running}
use Rattle.bf_run.proofs.Demonstrated.{of_three, shows_run}
use Rattle.bf_run.proofs.demonstrating.show_run.Goals as goal

pub returns-in-Done-clause-shown : goal.returns-in-Done-clause-shown
returns-in-Done-clause-shown g c =
    let shelf = shelf_of g.S.Disk.Disk.seen g.S.Disk.Disk.may_leave g.S.Disk.Disk.moment g.S.Disk.Disk.left_since g.S.Disk.Disk.fault_count g.S.Shelf.held g.S.Shelf.fault_count
    c.args.shelf.now c.run.new.shelf in
    let path = c.args.path.now in
    let given = asked_options c.options.result in
    let report = c.in_ok-status.report.items in
    let comes = subst (λ (s : Status). ComesOfLog path shelf s) c.in-Done.is c.in_ok-status.ensures.causes in
    let told = subst (λ (s : Status). IsTextOfRun given (HoldsAsked (Some (running path given)) shelf) (ReadsLog shelf path) c.args.script s report) c.in-Done.is c.in_ok-status.ensures.text in
    of_three c.show.result _ _ _ _
    (λ a done is shown. shows_run shelf path c.args.script c.args.lines.items a given (ReadsLog shelf path) report c.options.ensures comes told done is (shown ∙ ap shown_of c.as_slice.ensures.value))
    c.show.ensures.status c.show.ensures.lines c.show.ensures.shown
