use Rattle.std.proofs.Common.{Ok, length, ◌∙◌, ap}
use Rattle.bf_disk.proofs.TapeSteps.{look_seen}
use Rattle.bf_disk.proofs.tape_disk.TapeDiskDisk.len.Goals as goal

pub returns-clause-len : goal.returns-clause-len
returns-clause-len c = ap length (c.bytes.ensures ∙ look_seen c.args.self.now c.keep.new.self (Ok c.in_ok-keep.field-0) c.in_ok-keep.ensures.kept)
