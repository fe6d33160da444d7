-- The group that began last is read at its start number.
use Rattle.std.proofs.Common.{refl, inr, arith}
use Rattle.bf_machine.proofs.machine.turns.last_again.Goals as goal

pub returns-then-group-first-clause-again : goal.returns-then-group-first-clause-again
returns-then-group-first-clause-again c = (omega (arith, c.if-latest-eq0.false), c.index-began-latest.result, c.index-began-latest.is, c.if-group-first.true, refl)

pub returns-else-group-first-clause-another : goal.returns-else-group-first-clause-another
returns-else-group-first-clause-another c = λ _. inr (c.index-began-latest.result, c.index-began-latest.is, c.if-group-first.false)
