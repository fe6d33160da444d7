use Rattle.std.proofs.Common.{◌≡◌, ℕ, List}
use Rattle.bf_disk.specs.Images.{OnlyRead}
use Rattle.bf_journal.specs.Reading.{StateRead, unread}
use Rattle.bf_journal.proofs.reopening.read_all.Given as goal

-- the disk was only read and met no fault, and the state is that of the records so far
abbrev pub invariant-loop-e : goal.invariant-loop-e
invariant-loop-e g l = record {
  fits : g.R.Reader.fits l.reader l.state;
  read : OnlyRead g.D.Disk.seen g.D.Disk.may_leave g.D.Disk.moment g.D.Disk.left_since l.fn.opening.disk l.opening.disk;
  faults : g.D.Disk.fault_count l.opening.disk ≡ g.D.Disk.fault_count l.fn.opening.disk;
  gives : (file : List ℕ) → StateRead g.L.State.first g.L.State.Steps file (g.R.Reader.kept l.fn.state) l.fn.opening
      → StateRead g.L.State.first g.L.State.Steps file (g.R.Reader.kept l.state) l.opening;
}

-- the bytes that are not read yet
abbrev pub decreases-loop-e : goal.decreases-loop-e
decreases-loop-e g l = unread l.opening
