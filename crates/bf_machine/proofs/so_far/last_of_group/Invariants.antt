use Rattle.std.proofs.Common.{◌≡◌, ◌+◌, drop}
use Rattle.bf_machine.specs.interleaving.Seen.{block_end, last_from}
use Rattle.bf_machine.proofs.so_far.last_of_group.Given as goal

abbrev pub invariant-loop-statement : goal.invariant-loop-statement
invariant-loop-statement l = record {
  counted : l.last ≡ l.first + l.statement-index;
  ends : last_from l.first l.fn.statements ≡ block_end l.last (drop l.last l.fn.statements);
}
