-- The machine is one that events reach, by the turns so far; where no turn is asked for, nothing has happened.
use Rattle.std.proofs.Common.{◌≡◌, [], take}
use Rattle.bf_machine.specs.interleaving.Events.{Reaches}
use Rattle.bf_machine.specs.interleaving.Journals.{Keeps}
use Rattle.bf_machine.specs.interleaving.Serving.{Turned}
use Rattle.bf_machine.proofs.serving.in_order.Given as goal

abbrev pub invariant-loop-session : goal.invariant-loop-session
invariant-loop-session g l = record {
  reaches : Reaches g.N.Opened.opening l.fn.machine l.machine;
  keeps : Keeps g.J.Journal.Answers g.N.Opened.opening l.fn.machine l.fn.journal l.machine l.journal;
  turned : Turned g.N.Opened.opening l.fn.machine (take l.session-index l.order) l.machine;
  nothing : l.order ≡ [] → l.machine ≡ l.fn.machine;
}
