-- The columns of ON have the front of a value, and the condition leaves them the range.
use Rattle.std.proofs.Common.{ap, ◌∙◌}
use Rattle.std.proofs.lemmas.Result.{IfOk-weaker}
use Rattle.bf_heap.specs.KeyRanges.{is_within}
use Rattle.bf_heap.specs.declared.key_range.KeyRange.{KeyRange}
use Rattle.bf_index.specs.ByValues.{value_of}
use Rattle.bf_transpose.proofs.Carried.{value_within}
use Rattle.bf_transpose.proofs.scan.Search.range_of_joins.Goals as goal

pub returns : goal.returns
returns c =
    let s = c.args.self.now in
    IfOk-weaker c.range_at.result _ _
    (λ range is values at entry there given.
    ap (λ (r : KeyRange). is_within r (value_of entry)) is
    ∙ value_within s.migration.now c.requires.lawful c.args.unit s.target s.cond.now c.table_made-table.result.now c.in_ok-columns.columns.items c.in_ok-columns.ensures (value_of entry) given)
    c.range_at.ensures
