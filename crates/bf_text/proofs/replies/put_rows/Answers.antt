use Rattle.std.proofs.Common.{◌++◌, length, codes}
use Rattle.std.specs.List.{flat_map}
use Rattle.bf_text.specs.Replies.{newline, numbered, row_line}
use Rattle.bf_text.proofs.Putting.{puts_first, puts_behind}
use Rattle.bf_text.proofs.replies.put_rows.Goals as goal

pub returns-in_err-put_count : goal.returns-in_err-put_count
returns-in_err-put_count c =
    puts_first _ (numbered (codes "rows ") (length c.args.rows.now) ++ newline) (flat_map (row_line c.args.place.session c.args.place.statement) c.args.rows.now) _ _
    c.from_residual.ensures.0 c.in_err-put_count.ensures

pub returns : goal.returns
returns c = puts_behind _ (numbered (codes "rows ") (length c.args.rows.now) ++ newline) _ _ _ _ c.in_ok-put_count.ensures c.put_each.ensures
