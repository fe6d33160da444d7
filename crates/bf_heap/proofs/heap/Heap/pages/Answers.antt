use Rattle.std.proofs.Common.{length, ap, arith}
use Rattle.bf_heap.specs.Heaps.{Rows}
use Rattle.bf_heap.proofs.Counts.{pages_within, rows_within}
use Rattle.bf_heap.proofs.heap.Heap.pages.Goals as goal

pub overflow_cast-result : goal.overflow_cast-result
overflow_cast-result c = omega (arith, pages_within c.self.inside.pages.items c.self.invariant.used, c.self.invariant.rows.within, c.self.inside.pages.ok.0)

pub returns-clause-fewest : goal.returns-clause-fewest
returns-clause-fewest c = omega (arith, rows_within c.self.inside.pages.items c.self.invariant.used, ap (λ (h : Rows). length h.entries) c.self.view_is, c.self.inside.pages.ok.0)

pub returns-clause-most : goal.returns-clause-most
returns-clause-most c = omega (arith, pages_within c.self.inside.pages.items c.self.invariant.used, ap (λ (h : Rows). length h.entries) c.self.view_is, c.self.inside.pages.ok.0)
