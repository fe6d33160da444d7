use Rattle.std.proofs.Common.{List, ℕ, length}
use Rattle.bf_disk.specs.Images.{LeavesOnly, Only, Torn}
use Rattle.bf_disk.proofs.Moments.{write_moments, one_more}
use Rattle.bf_log.proofs.Storing.{IsAsLong, written_then, durable_then, long_tried, long_same, long_then}
use Rattle.bf_log.proofs.log.write_synced.Goals as goal
use Rattle.bf_log.proofs.log.write_synced.Goals.{After-write_at}

-- whatever the write answered, the file is no shorter
long : (g : _) (c : After-write_at g) → IsAsLong (g.D.Disk.seen c.args.disk.now) (g.D.Disk.seen c.write_at.new.self)
long g c =
    long_tried g.D.Disk.seen c.args.disk.now c.write_at.new.self c.args.at c.args.bytes.now c.write_at.result
    c.write_at.ensures.written c.write_at.ensures.failed c.write_at.ensures.memory

-- and a crash leaves something in the place of the bytes
torn : (g : _) (c : After-write_at g) (file : List ℕ) → Only file (g.D.Disk.may_leave c.args.disk.now)
    → LeavesOnly g.D.Disk.moment g.D.Disk.left_since c.args.disk.now c.write_at.new.self (Torn c.args.at (length c.args.bytes.now) file)
torn g c file only =
    write_moments g.D.Disk.moment g.D.Disk.left_since g.D.Disk.may_leave g.met.D.Disk.counts_now
    c.args.disk.now c.write_at.new.self c.args.at (length c.args.bytes.now) c.write_at.result
    c.write_at.ensures.time c.write_at.ensures.images c.write_at.ensures.memory (g.met.D.Disk.only_now c.args.disk.now) file only

pub returns-in_err-write_at-clause-long : goal.returns-in_err-write_at-clause-long
returns-in_err-write_at-clause-long g c = long g (goal.at.returns-in_err-write_at-clause-long g c).After-write_at

pub returns-in_err-write_at-clause-any_moment : goal.returns-in_err-write_at-clause-any_moment
returns-in_err-write_at-clause-any_moment g c = torn g (goal.at.returns-in_err-write_at-clause-any_moment g c).After-write_at

pub returns-clause-written : goal.returns-clause-written
returns-clause-written g c =
    let seen = g.D.Disk.seen in
    written_then (seen c.args.disk.now) (seen c.write_at.new.self) (seen c.sync.new.self) c.args.at c.args.bytes.now c.sync.result
    c.in_ok-write_at.ensures.written c.sync.ensures.seen

pub returns-clause-long : goal.returns-clause-long
returns-clause-long g c =
    let seen = g.D.Disk.seen in
    long_then (seen c.args.disk.now) (seen c.write_at.new.self) (seen c.sync.new.self) (long g (goal.at.returns-clause-long g c).After-write_at)
    (long_same (seen c.write_at.new.self) (seen c.sync.new.self) c.sync.ensures.seen)

pub returns-clause-durable : goal.returns-clause-durable
returns-clause-durable g c =
    durable_then g.D.Disk.may_leave (g.D.Disk.seen c.write_at.new.self) (g.D.Disk.seen c.sync.new.self) c.sync.new.self c.sync.result c.sync.ensures.seen c.sync.ensures.durable

pub returns-clause-any_moment : goal.returns-clause-any_moment
returns-clause-any_moment g c = λ file only.
    one_more g.D.Disk.moment g.D.Disk.left_since g.D.Disk.may_leave g.met.D.Disk.counts_now
    c.args.disk.now c.write_at.new.self c.sync.new.self (Torn c.args.at (length c.args.bytes.now) file)
    (torn g (goal.at.returns-clause-any_moment g c).After-write_at file only) c.sync.ensures.time c.sync.ensures.nothing_else
