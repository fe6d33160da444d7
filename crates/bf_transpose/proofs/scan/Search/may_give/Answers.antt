-- A driver's row of which a row comes that is sought satisfies the condition behind.
use Rattle.std.proofs.Common.{◌≡◌, List, Some, slice_get, sym, ap, ◌∙◌}
use Rattle.std.proofs.lemmas.Result.{IfOk-weaker}
use Rattle.bf_heap.specs.Heaps.{Entry}
use Rattle.bf_transpose.proofs.scan.Search.may_give.Goals as goal

pub returns-in-Some : goal.returns-in-Some
returns-in-Some c =
    let rows = c.args.behind.now.driver.now.rows in
    let at = c.args.position in
    let entry : Entry = (c.in-Some.field-0-0.now, c.in-Some.row.now) in
    let there : slice_get rows at ≡ Some entry = ap (λ (es : List Entry). slice_get es at) (sym c.heap.ensures) ∙ sym c.in-Some.ensures in
    IfOk-weaker c.holds.result _ _ (λ may is given. is ∙ c.requires.held at entry there given) c.holds.ensures
