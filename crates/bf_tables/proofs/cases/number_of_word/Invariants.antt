use Rattle.std.proofs.Common.{◌≡◌, drop}
use Rattle.bf_tables.specs.Cases.{cases_by, number_at}
use Rattle.bf_tables.proofs.cases.number_of_word.Given as goal

abbrev pub invariant-loop-number : goal.invariant-loop-number
invariant-loop-number g l =
    number_at (cases_by g.W.AsStr.text l.pairs) l.word ≡ number_at (cases_by g.W.AsStr.text (drop l.number-index l.pairs)) l.word
