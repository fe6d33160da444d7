use Rattle.std.proofs.Common.{true, false, ◌∙◌}
use Rattle.bf_journal.proofs.Replays.{answered_so, fails_all, read_then}
use Rattle.bf_journal.proofs.reopening.read_all.Goals as goal

pub returns-in-Ok-true-clause-reads : goal.returns-in-Ok-true-clause-reads
returns-in-Ok-true-clause-reads g c = λ file read.
    answered_so g.L.State.first g.L.State.Steps file (g.R.Reader.kept c.read_one.new.state) c.read_one.new.opening c.in-Ok-true.field-0 true c.in-Ok-true.field-0-test
    (c.in-Ok-true.ensures.reads file (c.loop-e.invariant.gives file read))

pub returns-in-Err-clause-reads : goal.returns-in-Err-clause-reads
returns-in-Err-clause-reads g c = λ file read.
    fails_all g.L.State.first g.L.State.Steps file (g.R.Reader.kept c.read_one.new.state) c.read_one.new.opening c.in-Err.e
    (c.in-Err.ensures.reads file (c.loop-e.invariant.gives file read))

pub loop-e-preserved : goal.loop-e-preserved
loop-e-preserved g c = record {
  fits = c.read_one.ensures.fits;
  read = read_then g.D.Disk.seen g.D.Disk.may_leave g.D.Disk.moment g.D.Disk.left_since g.met.D.Disk.counts_now g.met.D.Disk.earlier g.met.D.Disk.only_now
      c.args.opening.now.disk c.loop-e.opening.disk c.read_one.new.opening.disk c.loop-e.invariant.read c.read_one.ensures.disk;
  faults = c.in-Ok-false.ensures.faults ∙ c.loop-e.invariant.faults;
  gives = λ file read.
      answered_so g.L.State.first g.L.State.Steps file (g.R.Reader.kept c.read_one.new.state) c.read_one.new.opening c.in-Ok-false.field-0 false c.in-Ok-false.field-0-test
      (c.in-Ok-false.ensures.reads file (c.loop-e.invariant.gives file read));
}
