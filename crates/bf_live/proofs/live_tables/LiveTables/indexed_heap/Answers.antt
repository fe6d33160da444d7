use Rattle.bf_live.proofs.Held.{heap_held}
use Rattle.bf_live.proofs.live_tables.LiveTables.indexed_heap.Goals as goal

pub returns : goal.returns
returns c = heap_held c.self.inside.catalog c.self.inside.heaps.entries c.self.invariant c.args.self.now c.self.view_is c.args.table.now c.get.result c.get.ensures.value
