-- The locks before this one are held, and nothing else has changed.
use Rattle.std.proofs.Common.{◌≡◌, take}
use Rattle.bf_machine.specs.interleaving.Events.{Reaches}
use Rattle.bf_machine.specs.interleaving.Serving.{HasLocked, LeavesStore}
use Rattle.bf_machine.proofs.serving.lock_all.Given as goal

abbrev pub invariant-loop-name : goal.invariant-loop-name
invariant-loop-name g l = record {
  reaches : Reaches g.N.Opened.opening l.fn.machine l.machine;
  leaves : LeavesStore g.N.Opened.opening l.fn.machine l.machine;
  same : l.machine.db ≡ l.fn.machine.db;
  locked : HasLocked l.fn.machine l.session (take l.name-index l.locks) l.machine;
}
