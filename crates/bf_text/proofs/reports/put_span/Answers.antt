use Rattle.std.proofs.Common.{◌∷◌, [], codes}
use Rattle.bf_text.specs.Replies.{numbered}
use Rattle.bf_text.proofs.Putting.{nothing, one_more, puts_last, puts_cut}
use Rattle.bf_text.proofs.reports.put_span.Goals as goal

pub returns-in_err-put_numbered : goal.returns-in_err-put_numbered
returns-in_err-put_numbered c =
    puts_cut (numbered (codes " session ") c.args.entry.now.session ∷ numbered (codes " from ") c.args.entry.now.first ∷ numbered (codes " to ") c.args.entry.now.last ∷ []) _ _ _
    (nothing c.args.out.now.items)
    c.from_residual.ensures.0 c.in_err-put_numbered.ensures

pub returns-in_err-put_numbered-2 : goal.returns-in_err-put_numbered-2
returns-in_err-put_numbered-2 c =
    rw (← c.from.ensures)
    (puts_cut (numbered (codes " from ") c.args.entry.now.first ∷ numbered (codes " to ") c.args.entry.now.last ∷ []) _ _ _
    (one_more _ (nothing c.args.out.now.items) c.in_ok-put_numbered.ensures)
    c.from_residual-in_err-put_numbered-2.ensures.0 c.in_err-put_numbered-2.ensures)

pub returns-in_err-put_numbered-3 : goal.returns-in_err-put_numbered-3
returns-in_err-put_numbered-3 c =
    rw (← c.from.ensures, ← c.from-2.ensures)
    (puts_cut (numbered (codes " to ") c.args.entry.now.last ∷ []) _ _ _
    (one_more _ (one_more _ (nothing c.args.out.now.items) c.in_ok-put_numbered.ensures) c.in_ok-put_numbered-2.ensures)
    c.from_residual-in_err-put_numbered-3.ensures.0 c.in_err-put_numbered-3.ensures)

pub returns : goal.returns
returns c =
    rw (← c.from.ensures, ← c.from-2.ensures, ← c.from-3.ensures)
    (puts_last _ _ _ (one_more _ (one_more _ (one_more _ (nothing c.args.out.now.items) c.in_ok-put_numbered.ensures) c.in_ok-put_numbered-2.ensures)
    c.in_ok-put_numbered-3.ensures) c.put_numbered-4.ensures)
