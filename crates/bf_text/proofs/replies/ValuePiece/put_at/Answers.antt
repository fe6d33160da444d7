use Rattle.std.proofs.Common.{◌∷◌, [], codes}
use Rattle.std.specs.List.{flat_map}
use Rattle.bf_text.specs.Replies.{quoted}
use Rattle.bf_text.proofs.Putting.{nothing, one_more, puts_last, puts_cut}
use Rattle.bf_text.proofs.replies.ValuePiece.put_at.Goals as goal

pub returns-in_err-put-in-Text : goal.returns-in_err-put-in-Text
returns-in_err-put-in-Text c =
    rw c.in-Text.is (puts_cut (flat_map quoted c.in-Text.text ∷ codes "'" ∷ []) _ _ _ (nothing c.args.out.now.items) c.from_residual.ensures.0 c.in_err-put-in-Text.ensures)

pub returns-in_err-put_each-in-Text : goal.returns-in_err-put_each-in-Text
returns-in_err-put_each-in-Text c =
    rw (c.in-Text.is, ← c.as_bytes.ensures.value)
    (puts_cut (codes "'" ∷ []) _ _ _ (one_more _ (nothing c.args.out.now.items) c.in_ok-put-in-Text.ensures)
    c.from_residual-in_err-put_each-in-Text.ensures.0 c.in_err-put_each-in-Text.ensures)

pub returns-in_ok-put_each-in-Text : goal.returns-in_ok-put_each-in-Text
returns-in_ok-put_each-in-Text c =
    rw (c.in-Text.is, ← c.as_bytes.ensures.value)
    (puts_last _ _ _ (one_more _ (one_more _ (nothing c.args.out.now.items) c.in_ok-put-in-Text.ensures) c.in_ok-put_each-in-Text.ensures)
    c.put-in-Text.ensures)
