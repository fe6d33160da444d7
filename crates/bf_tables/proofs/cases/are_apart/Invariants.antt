use Rattle.std.proofs.Common.{◌≡◌, length}
use Rattle.bf_tables.specs.Cases.{cases_by, are_apart}
use Rattle.bf_tables.proofs.cases.are_apart.Given as goal

abbrev pub invariant-loop-rest : goal.invariant-loop-rest
invariant-loop-rest g l = are_apart (cases_by g.W.AsStr.text l.pairs) ≡ are_apart (cases_by g.W.AsStr.text l.rest)

abbrev pub decreases-loop-rest : goal.decreases-loop-rest
decreases-loop-rest g l = length l.rest
