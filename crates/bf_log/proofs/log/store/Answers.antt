use Rattle.std.proofs.Common.{◌+◌, inl, length}
use Rattle.bf_disk.specs.Images.{Torn, Only}
use Rattle.bf_log.specs.Storing.{behind_gate, IsBeingStored}
use Rattle.bf_disk.proofs.Moments.{both, weaker}
use Rattle.bf_log.proofs.Storing.{told_behind, told_within, within_then, told_written, told_at, stored_then, long_then}
use Rattle.bf_log.proofs.log.store.Goals as goal

pub write_synced-requires : goal.write_synced-requires
write_synced-requires g c = told_behind (g.D.Disk.seen c.args.disk.now) c.args.gate c.requires.within

pub returns-in_err-write_synced-clause-any_moment : goal.returns-in_err-write_synced-clause-any_moment
returns-in_err-write_synced-clause-any_moment g c = λ file told only.
    weaker g.D.Disk.moment g.D.Disk.left_since c.args.disk.now c.write_synced.new.disk
    (Torn (c.args.gate + 1) (length c.args.bytes.now) file) (IsBeingStored file c.args.gate c.args.bytes.now)
    (c.write_synced.ensures.any_moment file only) (λ image torn. inl torn)

pub write_synced-requires-2 : goal.write_synced-requires-2
write_synced-requires-2 g c =
    let seen = g.D.Disk.seen in
    told_within (seen c.write_synced.new.disk) c.args.gate
    (within_then (seen c.args.disk.now) (seen c.write_synced.new.disk) c.args.gate c.requires.within c.write_synced.ensures.long)

pub returns-clause-written : goal.returns-clause-written
returns-clause-written g c =
    let seen = g.D.Disk.seen in
    stored_then (seen c.args.disk.now) (seen c.write_synced.new.disk) (seen c.write_synced-2.new.disk) c.args.gate c.args.bytes.now c.write_synced-2.result
    c.in_ok-write_synced.ensures.written c.write_synced-2.ensures.written

pub returns-clause-long : goal.returns-clause-long
returns-clause-long g c =
    let seen = g.D.Disk.seen in
    long_then (seen c.args.disk.now) (seen c.write_synced.new.disk) (seen c.write_synced-2.new.disk) c.write_synced.ensures.long c.write_synced-2.ensures.long

pub returns-clause-any_moment : goal.returns-clause-any_moment
returns-clause-any_moment g c = λ file told only.
    let seen = g.D.Disk.seen in
    let mid = c.write_synced.new.disk in
    let with_record = behind_gate file c.args.gate c.args.bytes.now in
    let there = told_written (seen c.args.disk.now) (seen mid) (c.args.gate + 1) c.args.bytes.now file told c.in_ok-write_synced.ensures.written in
    let only_there = told_at (seen mid) (λ now. Only now (g.D.Disk.may_leave mid)) with_record c.in_ok-write_synced.ensures.durable there in
    both g.D.Disk.moment g.D.Disk.left_since g.met.D.Disk.earlier c.args.disk.now mid c.write_synced-2.new.disk
    (Torn (c.args.gate + 1) (length c.args.bytes.now) file) (Torn c.args.gate 1 with_record)
    (c.write_synced.ensures.any_moment file only) (c.write_synced-2.ensures.any_moment with_record only_there)
