use Rattle.std.proofs.Common.{◌++◌, List, sym, ap, ◌∙◌}
use Rattle.std.proofs.lemmas.List.{append-nil}
use Rattle.bf_heap.specs.Heaps.{Entry}
use Rattle.bf_eager.proofs.Copying.{none_ahead, rows_of}
use Rattle.bf_eager.proofs.freezing.rows_in.Goals as goal

pub returns : goal.returns
returns c =
    let rows = c.loop-row.rows.items in
    sym (append-nil rows) ∙ (ap (λ (es : List Entry). rows ++ rows_of es) (sym (none_ahead c.loop-row.ahead c.in_default.ensures)) ∙ c.loop-row.invariant)
