use Rattle.std.proofs.Common.{◌++◌, codes}
use Rattle.bf_text.specs.Replies.{newline, numbered}
use Rattle.bf_text.proofs.Putting.{puts_first, puts_behind}
use Rattle.bf_text.proofs.reports.Tuple2NameU32Piece.put_at.Goals as goal

pub returns-in_err-put_named_numbered : goal.returns-in_err-put_named_numbered
returns-in_err-put_named_numbered c =
    rw (← c.from.ensures)
    (puts_first _ ((codes "audit table " ++ c.args.self.now.0) ++ numbered (codes " rows ") c.from.result) newline _ _
    c.from_residual.ensures.0 c.in_err-put_named_numbered.ensures)

pub returns : goal.returns
returns c =
    rw (← c.from.ensures)
    (puts_behind _ ((codes "audit table " ++ c.args.self.now.0) ++ numbered (codes " rows ") c.from.result) newline _ _ _ c.in_ok-put_named_numbered.ensures c.put.ensures)
