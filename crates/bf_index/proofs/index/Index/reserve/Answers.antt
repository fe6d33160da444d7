use Rattle.std.proofs.Common.{arith}
use Rattle.bf_heap.proofs.Counts.{over_within}
use Rattle.bf_index.proofs.index.Index.reserve.Goals as goal
use Rattle.bf_index.proofs.index.Index.reserve.Goals.{then-is_empty, else-is_empty}

pub overflow_add-more : goal.overflow_add-more
overflow_add-more c = omega (arith, over_within c.self.inside.pages.items, c.self.invariant.over_is, c.self.invariant.counted, c.if-self-more.false)

pub overflow_add-more-2 : goal.overflow_add-more-2
overflow_add-more-2 c = elim c.if-is_empty.branch [
  | then-is_empty w ↦ omega (arith, w.first-is, over_within c.self.inside.pages.items, c.self.invariant.over_is, c.self.invariant.counted, c.if-self-more.false)
  | else-is_empty w ↦ omega (arith, w.first-is, over_within c.self.inside.pages.items, c.self.invariant.over_is, c.self.invariant.counted, c.if-self-more.false)
]
