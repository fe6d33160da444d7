use Rattle.bf_tables.proofs.Apart.{word_named}
use Rattle.bf_tables.proofs.cases.Cases.by_word.Goals as goal

pub returns-clause-one_case : goal.returns-clause-one_case
returns-clause-one_case g c = rw (c.number_of_word.ensures, ← c.self.view_is) (word_named _ c.args.word.now c.self.invariant)
