use Rattle.std.proofs.Common.{codes}
use Rattle.std.specs.Fmt.{decimal}
use Rattle.bf_text.specs.Replies.{numbered}
use Rattle.bf_text.proofs.Putting.{puts_first, puts_behind}
use Rattle.bf_text.proofs.reports.put_sweep.Goals as goal

pub returns-in_err-put_decimal-in-Complete : goal.returns-in_err-put_decimal-in-Complete
returns-in_err-put_decimal-in-Complete c =
    rw (c.in-Complete.is, ← c.from.ensures)
    (puts_first _ (decimal c.from.result) (numbered (codes " complete ") c.in-Complete.moved) _ _ c.from_residual.ensures.0 c.in_err-put_decimal-in-Complete.ensures)

pub returns-in_ok-put_decimal-in-Complete : goal.returns-in_ok-put_decimal-in-Complete
returns-in_ok-put_decimal-in-Complete c =
    rw (c.in-Complete.is, ← c.from.ensures, ← c.from-in-Complete.ensures)
    (puts_behind _ (decimal c.from.result) _ _ _ _ c.in_ok-put_decimal-in-Complete.ensures c.put_numbered.ensures)
