use Rattle.std.proofs.Common.{arith}
use Rattle.bf_run.specs.Creating.{shelf_of}
use Rattle.bf_run.proofs.NewLogs.{counted_none, makes, refuses, on_ok, if_ok, stays_at_ok, stays_at_refusal}
use Rattle.bf_run.proofs.creating.make_log.Goals as goal

pub returns-clause-ok : goal.returns-clause-ok
returns-clause-ok g c =
    let took = c.in_ok-disk.ensures in
    let log = c.create_log-made.ensures in
    let shelf = shelf_of g.S.Disk.Disk.seen g.S.Disk.Disk.may_leave g.S.Disk.Disk.moment g.S.Disk.Disk.left_since g.S.Disk.Disk.fault_count g.S.Shelf.held g.S.Shelf.fault_count
    c.args.shelf.now c.put_back.new.self in
    on_ok c.create_log-made.result _ (λ value is.
    let stays = stays_at_ok c.create_log-made.result value _ _ log.faults is in
    let counts = counted_none _ _ _ _ _ _ took.faults took.counted took.away.1.there (omega (arith, stays)) c.put_back.ensures.faults in
    makes shelf c.args.path.now _ _ _ took.given took.away.0 c.put_back.ensures.held counts
    (λ file told. if_ok c.create_log-made.result _ (log.made file told) value is) log.untold)

pub returns-clause-not_empty : goal.returns-clause-not_empty
returns-clause-not_empty g c n is =
    let took = c.in_ok-disk.ensures in
    let log = c.create_log-made.ensures in
    let stays = stays_at_refusal c.create_log-made.result n _ _ log.faults is in
    let counts = counted_none _ _ _ _ _ _ took.faults took.counted took.away.1.there (omega (arith, stays)) c.put_back.ensures.faults in
    let refused = log.not_empty n is in
    let shelf = shelf_of g.S.Disk.Disk.seen g.S.Disk.Disk.may_leave g.S.Disk.Disk.moment g.S.Disk.Disk.left_since g.S.Disk.Disk.fault_count g.S.Shelf.held g.S.Shelf.fault_count
    c.args.shelf.now c.put_back.new.self in
    refuses shelf _ _ _ _ took.given took.away.0 c.put_back.ensures.held counts n refused.0 refused.1 refused.2
