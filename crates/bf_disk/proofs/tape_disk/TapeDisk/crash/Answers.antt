use Rattle.std.proofs.Common.{◌≡◌, [], None, subst, arith}
use Rattle.std.specs.Prelude.{IfOk}
use Rattle.bf_disk.specs.Tape.{Tape, new_tape, torn_image, at_call, MayLeave}
use Rattle.bf_disk.specs.TapeLaws.{at_all}
use Rattle.bf_disk.proofs.Tearing.{crash_left}
use Rattle.bf_disk.proofs.tape_disk.TapeDisk.crash.Goals as goal

pub returns-clause-disk : goal.returns-clause-disk
returns-clause-disk c =
    subst (λ (tape : Tape). IfOk c.crash_after.result (λ disk. disk ≡ new_tape (torn_image tape c.args.torn.now) [] None))
    (at_all c.args.self.now c.calls.result (omega (arith, c.calls.ensures))) c.crash_after.ensures

pub returns-clause-image : goal.returns-clause-image
returns-clause-image c =
    subst (λ (tape : Tape). IfOk c.crash_after.result (λ disk. MayLeave tape disk.start))
    (at_all c.args.self.now c.calls.result (omega (arith, c.calls.ensures)))
    (crash_left (at_call c.args.self.now c.calls.result) c.args.torn.now c.crash_after.result c.crash_after.ensures)
