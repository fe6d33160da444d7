use Rattle.std.proofs.Common.{◌+◌, ◌-◌, ◌/◌, sym, ◌∙◌, arith}
use Rattle.bf_heap.specs.KeyRanges.{is_before}
use Rattle.bf_heap.proofs.Ranges.{falls_before}
use Rattle.bf_transpose.proofs.Bounded.{passed_to}
use Rattle.bf_transpose.proofs.bounds.values_before.Goals as goal

pub loop-low-preserved-then-is_value_before : goal.loop-low-preserved-then-is_value_before
loop-low-preserved-then-is_value_before c =
    let low = c.args.range.now.low in
    let middle = c.loop-low.low + (c.loop-low.high - c.loop-low.low) / 2 in
    record {
      ends = omega arith;
      within = c.loop-low.invariant.within;
      before = passed_to (is_before low) (falls_before low) c.args.values.now middle c.len-high.ensures.in_order (sym c.is_value_before.ensures ∙ c.if-is_value_before.true);
    }
