use Rattle.std.proofs.Common.{map, ap, ◌∙◌}
use Rattle.std.proofs.lemmas.Result.{IfOk-weaker}
use Rattle.bf_heap.specs.Heaps.{Entry}
use Rattle.bf_image.proofs.parting.ValueRows.{rows_at, from_rows_with}
use Rattle.bf_image.proofs.parts.from_under.Goals as goal

pub returns : goal.returns
returns c =
    IfOk-weaker c.rows_at_all.result _ _
    (λ made is m target raw of frozen indexed.
    is ∙ ap (rows_at (map (λ (e : Entry). e.1) c.args.arm.now.from.now.rows)) c.positions.ensures ∙ from_rows_with m target raw c.args.arm.now frozen of c.args.index.now indexed c.args.value.now)
    c.rows_at_all.ensures
