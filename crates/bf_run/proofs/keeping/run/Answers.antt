-- The report tells of the file that was given, and of the one that was put back.
use Rattle.std.specs.Prelude.{Result, Ok, Err, OnErr}
use Rattle.std.proofs.lemmas.Result.{IfOk-weaker}
use Rattle.bf_run.specs.Words.{asked_options}
use Rattle.bf_run.specs.Creating.{shelf_of}
use Rattle.bf_run.proofs.NewLogs.{counted_none, counted_one}
use Rattle.bf_run.proofs.Running.{comes, untold}
use Rattle.bf_run.proofs.keeping.run.Goals as goal

on_err_weaker : {P Q : Type 0} {A E : Type 0} (r : Result A E) → (P → Q) → OnErr r P → OnErr r Q
on_err_weaker (Ok x) weaker so = tt
on_err_weaker (Err error) weaker so = weaker so

pub returns-clause-text : goal.returns-clause-text
returns-clause-text g c =
    let took = c.in-Ok.ensures in
    let shelf = shelf_of g.S.Disk.Disk.seen g.S.Disk.Disk.may_leave g.S.Disk.Disk.moment g.S.Disk.Disk.left_since g.S.Disk.Disk.fault_count g.S.Shelf.held g.S.Shelf.fault_count
    c.args.shelf.now c.put_back.new.self in
    IfOk-weaker c.run_over-disk.result.1 _ _
    (λ a is. (comes shelf c.args.path.now _ c.in-Ok.disk c.run_over-disk.result.0 took.given took.away.0 c.put_back.ensures.held (asked_options c.args.options) c.args.script
    (λ stays. counted_none _ _ _ _ _ _ took.faults took.counted took.away.1.there stays c.put_back.ensures.faults)
    (λ rose. counted_one _ _ _ _ _ _ took.faults took.away.1.there rose c.put_back.ensures.faults) a.0 a.1.items is).1)
    c.run_over-disk.ensures.told

pub returns-clause-untold : goal.returns-clause-untold
returns-clause-untold g c =
    let took = c.in-Ok.ensures in
    let shelf = shelf_of g.S.Disk.Disk.seen g.S.Disk.Disk.may_leave g.S.Disk.Disk.moment g.S.Disk.Disk.left_since g.S.Disk.Disk.fault_count g.S.Shelf.held g.S.Shelf.fault_count
    c.args.shelf.now c.put_back.new.self in
    on_err_weaker c.run_over-disk.result.1
    (λ left. untold shelf c.args.path.now _ c.in-Ok.disk c.run_over-disk.result.0 took.given took.away.0 c.put_back.ensures.held c.args.script left) c.run_over-disk.ensures.untold
