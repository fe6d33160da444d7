use Rattle.std.proofs.Common.{codes, append_assoc}
use Rattle.std.specs.Fmt.{decimal}
use Rattle.bf_text.specs.Replies.{numbered}
use Rattle.bf_text.proofs.Putting.{puts_first, puts_behind}
use Rattle.bf_text.proofs.replies.put_place.Goals as goal

pub returns-in_err-put_decimal : goal.returns-in_err-put_decimal
returns-in_err-put_decimal c =
    rw (append_assoc (decimal c.args.place.session) (codes ".") (decimal c.args.place.statement))
    (puts_first _ (decimal c.args.place.session) (numbered (codes ".") c.args.place.statement) _ _ c.from_residual.ensures.0 c.in_err-put_decimal.ensures)

pub returns : goal.returns
returns c =
    rw (append_assoc (decimal c.args.place.session) (codes ".") (decimal c.args.place.statement))
    (puts_behind _ (decimal c.args.place.session) _ _ _ _ c.in_ok-put_decimal.ensures c.put_numbered.ensures)
