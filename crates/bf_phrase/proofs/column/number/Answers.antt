use Rattle.std.proofs.Common.{arith}
use Rattle.bf_phrase.proofs.Numbers.{number_none, number_read, number_wide}
use Rattle.bf_phrase.proofs.Places.{length-words}
use Rattle.bf_phrase.proofs.column.number.Goals as goal

pub returns-then-number-lt-WIDEST-clause-fits : goal.returns-then-number-lt-WIDEST-clause-fits
returns-then-number-lt-WIDEST-clause-fits c = number_read c.in-Number.number _ _ c.in-Number.ensures.front.it.0 (omega arith)

pub returns-else-number-lt-WIDEST-clause-fits : goal.returns-else-number-lt-WIDEST-clause-fits
returns-else-number-lt-WIDEST-clause-fits c =
    number_wide c.in-Number.number _ _ _ (length-words c.args.cursor.text.now c.args.cursor.tokens.now) c.in-Number.ensures.front.it.0 (omega (arith, c.in-Number.ensures.front.it.1))

pub returns-in_default-clause-fits : goal.returns-in_default-clause-fits
returns-in_default-clause-fits c = number_none _ _ _ (length-words c.args.cursor.text.now c.args.cursor.tokens.now) c.front.ensures.front c.in_default.not-Number
