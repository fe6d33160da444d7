use Rattle.std.proofs.Common.{codes}
use Rattle.bf_text.specs.Replies.{newline, numbered}
use Rattle.bf_demo.proofs.Steps.{pieces_more}
use Rattle.bf_demo.proofs.showing.put_end.Goals as goal

pub returns : goal.returns
returns c =
    pieces_more _ _ _ _ (numbered (codes "end commits ") c.args.commits) (numbered (codes " migration 1 complete ") c.args.moved) newline
    c.in_ok-put_numbered.ensures c.in_ok-put_numbered-2.ensures c.in_ok-extend_from_slice.ensures.items
