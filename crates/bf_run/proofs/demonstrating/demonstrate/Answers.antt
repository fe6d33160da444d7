use Rattle.std.proofs.Common.{sym, subst}
use Rattle.std.proofs.lemmas.Result.{IfOk-weaker}
use Rattle.bf_machine.specs.interleaving.Kept.{IsWithinLimits}
use Rattle.bf_run.specs.Creating.{shelf_of}
use Rattle.bf_run.specs.Outcome.{ComesOfFile}
use Rattle.bf_run.specs.Sayable.{IsSayableScript}
use Rattle.bf_run.specs.declared.status.Status.{Status}
use Rattle.bf_run.proofs.Demonstrated.{refusal_comes, refusal_is_told, run_comes, run_is_told, shown_by_size, spared}
use Rattle.bf_run.proofs.Scripted.{is_sayable, is_within}
use Rattle.bf_run.proofs.demonstrating.demonstrate.Goals as goal

pub show_run-requires-clause-limits : goal.show_run-requires-clause-limits
show_run-requires-clause-limits g c κs within =
    subst IsWithinLimits (sym c.in_ok-script.ensures) (is_within c.args.count)

pub show_run-requires-clause-sayable : goal.show_run-requires-clause-sayable
show_run-requires-clause-sayable g c κs within =
    subst IsSayableScript (sym c.in_ok-script.ensures) (is_sayable c.args.count)

pub returns-in-Done-clause-causes : goal.returns-in-Done-clause-causes
returns-in-Done-clause-causes g c =
    let of_shelf = shelf_of g.S.Disk.Disk.seen g.S.Disk.Disk.may_leave g.S.Disk.Disk.moment g.S.Disk.Disk.left_since g.S.Disk.Disk.fault_count g.S.Shelf.held g.S.Shelf.fault_count c.args.shelf.now in
    let shelf = of_shelf c.show_run.new.shelf in
    let path = c.args.path.now in
    let made = g.S.Shelf.held c.create.new.shelf in
    let faults = g.S.Shelf.fault_count c.create.new.shelf in
    let makes = subst (λ (s : Status). ComesOfFile path (of_shelf c.create.new.shelf) s) c.in-Done.is c.in_ok-status.ensures.causes in
    IfOk-weaker c.show_run.result _ _
    (λ a shown. run_comes shelf path made faults makes c.args.count a.0 a.1.items
    (shown_by_size shelf path made faults c.args.count c.in_ok-script.script c.in_ok-lines.lines.items c.in_ok-script.ensures c.in_ok-lines.ensures a.0 a.1.items shown))
    c.show_run.ensures.shown

pub returns-in-Done-clause-text : goal.returns-in-Done-clause-text
returns-in-Done-clause-text g c =
    let of_shelf = shelf_of g.S.Disk.Disk.seen g.S.Disk.Disk.may_leave g.S.Disk.Disk.moment g.S.Disk.Disk.left_since g.S.Disk.Disk.fault_count g.S.Shelf.held g.S.Shelf.fault_count c.args.shelf.now in
    let shelf = of_shelf c.show_run.new.shelf in
    let path = c.args.path.now in
    let made = g.S.Shelf.held c.create.new.shelf in
    let faults = g.S.Shelf.fault_count c.create.new.shelf in
    let makes = subst (λ (s : Status). ComesOfFile path (of_shelf c.create.new.shelf) s) c.in-Done.is c.in_ok-status.ensures.causes in
    IfOk-weaker c.show_run.result _ _
    (λ a shown. run_is_told shelf path made faults makes c.args.count a.0 a.1.items
    (shown_by_size shelf path made faults c.args.count c.in_ok-script.script c.in_ok-lines.lines.items c.in_ok-script.ensures c.in_ok-lines.ensures a.0 a.1.items shown))
    c.show_run.ensures.shown

pub returns-in-Done-clause-spares : goal.returns-in-Done-clause-spares
returns-in-Done-clause-spares g c =
    let of_shelf = shelf_of g.S.Disk.Disk.seen g.S.Disk.Disk.may_leave g.S.Disk.Disk.moment g.S.Disk.Disk.left_since g.S.Disk.Disk.fault_count g.S.Shelf.held g.S.Shelf.fault_count c.args.shelf.now in
    let path = c.args.path.now in
    let makes = subst (λ (s : Status). ComesOfFile path (of_shelf c.create.new.shelf) s) c.in-Done.is c.in_ok-status.ensures.causes in
    spared (of_shelf c.show_run.new.shelf) path (g.S.Shelf.held c.create.new.shelf) (g.S.Shelf.fault_count c.create.new.shelf) makes c.in_ok-status.ensures.spares c.show_run.ensures.others

pub returns-in_default : goal.returns-in_default
returns-in_default g c =
    let shelf = shelf_of g.S.Disk.Disk.seen g.S.Disk.Disk.may_leave g.S.Disk.Disk.moment g.S.Disk.Disk.left_since g.S.Disk.Disk.fault_count g.S.Shelf.held g.S.Shelf.fault_count
    c.args.shelf.now c.create.new.shelf in
    let path = c.args.path.now in
    record {
      causes = refusal_comes shelf path c.args.count c.in_ok-status.status c.in_default.not-Done c.in_ok-status.ensures.causes;
      text = refusal_is_told shelf path c.args.count c.in_ok-status.status c.in_ok-status.text.items c.in_default.not-Done c.in_ok-status.ensures.text;
      spares = c.in_ok-status.ensures.spares;
      none_taken = c.in_ok-status.ensures.none_taken;
    }
