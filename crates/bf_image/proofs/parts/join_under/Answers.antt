use Rattle.std.proofs.Common.{map, ap, ◌∙◌}
use Rattle.std.specs.Option.{option_map}
use Rattle.std.proofs.lemmas.Result.{IfOk-weaker}
use Rattle.bf_heap.specs.Heaps.{Entry}
use Rattle.bf_image.proofs.parting.ValueRows.{rows_at, join_rows_with}
use Rattle.bf_image.proofs.parts.join_under.Goals as goal

pub returns-in-Some-Some : goal.returns-in-Some-Some
returns-in-Some-Some c =
    IfOk-weaker c.rows_at_all.result _ _
    (λ made is m target raw of frozen indexed.
    is ∙ ap (rows_at (map (λ (e : Entry). e.1) c.in-Some-Some.join.now.rows)) c.positions.ensures
    ∙ join_rows_with m target raw c.args.arm.now frozen of c.args.index.now indexed c.args.value.now c.in-Some-Some.join.now c.in-Some-Some.by_value (ap (option_map (λ j. j.now)) c.in-Some-Some.is-0) c.in-Some-Some.is-1)
    c.rows_at_all.ensures
