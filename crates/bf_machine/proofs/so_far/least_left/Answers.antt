-- Each session was looked at.
use Rattle.bf_machine.proofs.keeping.LeastLeft.{none_yet}
use Rattle.bf_machine.proofs.so_far.least_left.Goals as goal

pub loop-place-init : goal.loop-place-init
loop-place-init c = none_yet c.args.sessions.now c.args.so_far.now
