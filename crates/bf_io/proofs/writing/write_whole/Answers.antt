use Rattle.std.proofs.Common.{◌∙◌, arith, length-take, length-drop}
use Rattle.bf_io.proofs.Appending.{piece_then}
use Rattle.bf_io.proofs.writing.write_whole.Goals as goal

pub loop-at-preserved : goal.loop-at-preserved
loop-at-preserved g c =
    (grind (arith, length-take, length-drop), piece_then _ _ _ c.args.text.now c.loop-at.at c.in_ok-at.field-0 c.loop-at.invariant.1 c.in_ok-at.ensures.bytes, c.in_ok-at.ensures.calm ∙ c.loop-at.invariant.2)
