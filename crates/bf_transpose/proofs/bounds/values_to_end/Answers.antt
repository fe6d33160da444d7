use Rattle.std.proofs.Common.{◌+◌, ◌-◌, ◌/◌, sym, ◌∙◌, arith}
use Rattle.bf_heap.specs.KeyRanges.{is_behind}
use Rattle.bf_heap.proofs.Ranges.{falls_within}
use Rattle.bf_transpose.proofs.Bounded.{passed_from}
use Rattle.bf_transpose.proofs.bounds.values_to_end.Goals as goal

pub loop-low-preserved-then-is_value_behind : goal.loop-low-preserved-then-is_value_behind
loop-low-preserved-then-is_value_behind c =
    let high = c.args.range.now.high in
    let middle = c.loop-low.low + (c.loop-low.high - c.loop-low.low) / 2 in
    record {
      ends = omega arith;
      within = omega arith;
      behind = passed_from (is_behind high) (falls_within high) c.args.values.now middle c.len-high.ensures.in_order (sym c.is_value_behind.ensures ∙ c.if-is_value_behind.true);
    }
