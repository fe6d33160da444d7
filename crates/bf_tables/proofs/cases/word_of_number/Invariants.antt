use Rattle.std.proofs.Common.{◌≡◌, drop}
use Rattle.bf_tables.specs.Cases.{cases_by, word_at}
use Rattle.bf_tables.proofs.cases.word_of_number.Given as goal

abbrev pub invariant-loop-found : goal.invariant-loop-found
invariant-loop-found g l =
    word_at (cases_by g.W.AsStr.text l.pairs) l.number ≡ word_at (cases_by g.W.AsStr.text (drop l.found-index l.pairs)) l.number
