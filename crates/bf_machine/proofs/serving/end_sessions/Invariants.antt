-- The machine is one that events reach, in which no group is open and no more have died; and it stays in sequence.
use Rattle.std.proofs.Common.{◌≡◌, ℕ, None, length}
use Rattle.bf_machine.specs.interleaving.Events.{Reaches}
use Rattle.bf_machine.specs.interleaving.Journals.{Keeps}
use Rattle.bf_machine.specs.interleaving.Machines.{open_at}
use Rattle.bf_machine.specs.interleaving.Serving.{Driven, IsInSequence, deaths_at, unanswered}
use Rattle.bf_machine.proofs.served.Totals.{total}
use Rattle.bf_machine.proofs.serving.end_sessions.Given as goal

abbrev pub invariant-loop-session : goal.invariant-loop-session
invariant-loop-session g l = record {
  reaches : Reaches g.N.Opened.opening l.fn.machine l.machine;
  keeps : Keeps g.J.Journal.Answers g.N.Opened.opening l.fn.machine l.fn.journal l.machine l.journal;
  driven : Driven g.N.Opened.opening l.fn.machine l.machine;
  closed : (s : ℕ) → open_at l.machine s ≡ None;
  deaths : (n : ℕ) → deaths_at l.machine n ≡ deaths_at l.fn.machine n;
  sequence : IsInSequence g.N.Opened.opening l.fn.machine → IsInSequence g.N.Opened.opening l.machine;
}

abbrev pub decreases-loop-session : goal.decreases-loop-session
decreases-loop-session g l = total (unanswered l.machine) (length l.machine.script.sessions)
