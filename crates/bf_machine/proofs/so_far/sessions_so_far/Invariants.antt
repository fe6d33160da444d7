use Rattle.std.proofs.Common.{take}
use Rattle.bf_machine.specs.interleaving.Seen.{AreNew}
use Rattle.bf_machine.proofs.so_far.sessions_so_far.Given as goal

abbrev pub invariant-loop-session : goal.invariant-loop-session
invariant-loop-session l = AreNew (take l.session-index l.sessions) l.made.items
