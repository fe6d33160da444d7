use Rattle.std.proofs.Common.{codes}
use Rattle.bf_text.specs.Replies.{numbered}
use Rattle.bf_text.proofs.Putting.{puts_first, puts_behind}
use Rattle.bf_text.proofs.replies.put_cause.Goals as goal

pub returns-in_err-put_numbered-in-LogFull : goal.returns-in_err-put_numbered-in-LogFull
returns-in_err-put_numbered-in-LogFull c =
    rw c.in-LogFull.is (puts_first _ (numbered (codes "log full ") c.in-LogFull.end) (numbered (codes " ") c.in-LogFull.need) _ _
    c.from_residual.ensures.0 c.in_err-put_numbered-in-LogFull.ensures)

pub returns-in_ok-put_numbered-in-LogFull : goal.returns-in_ok-put_numbered-in-LogFull
returns-in_ok-put_numbered-in-LogFull c =
    rw c.in-LogFull.is (puts_behind _ (numbered (codes "log full ") c.in-LogFull.end) (numbered (codes " ") c.in-LogFull.need) _ _ _
    c.in_ok-put_numbered-in-LogFull.ensures c.put_numbered-in-LogFull-2.ensures)
