-- The machine is one that events reach. Where one group alone was open, its session is served, and what its statements needed has moved; where none was, nothing has happened.
use Rattle.std.proofs.Common.{◌≡◌, ℕ, ◌≤◌, [], None, length}
use Rattle.bf_machine.specs.interleaving.Events.{Reaches}
use Rattle.bf_machine.specs.interleaving.Journals.{Keeps}
use Rattle.bf_machine.specs.interleaving.Machines.{open_at, these}
use Rattle.bf_machine.specs.interleaving.Serving.{Driven, IsAlone, IsFollowed, Serves, unanswered}
use Rattle.bf_machine.proofs.served.Open.{left_open}
use Rattle.bf_machine.proofs.served.Totals.{total}
use Rattle.bf_machine.proofs.serving.end_open_groups.Given as goal

abbrev pub invariant-loop-session : goal.invariant-loop-session
invariant-loop-session g l = record {
  reaches : Reaches g.N.Opened.opening l.fn.machine l.machine;
  keeps : Keeps g.J.Journal.Answers g.N.Opened.opening l.fn.machine l.fn.journal l.machine l.journal;
  driven : Driven g.N.Opened.opening l.fn.machine l.machine;
  nothing : ((s : ℕ) → open_at l.fn.machine s ≡ None) → l.machine ≡ l.fn.machine;
  alone : (s : ℕ) → IsAlone l.fn.machine s → Serves l.fn.machine s l.machine;
  followed : l.fn.machine.may_end ≡ these [] → (s : ℕ) → IsAlone l.fn.machine s → IsFollowed l.fn.machine s g.N.Opened.opening → IsFollowed l.machine s g.N.Opened.opening;
  no_more : (s : ℕ) → IsAlone l.fn.machine s → unanswered l.machine s ≤ unanswered l.fn.machine s;
}

abbrev pub decreases-loop-session : goal.decreases-loop-session
decreases-loop-session g l = total (left_open l.machine) (length l.machine.script.sessions)
