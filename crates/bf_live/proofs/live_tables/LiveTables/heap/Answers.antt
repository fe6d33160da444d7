use Rattle.std.proofs.Common.{Bor, Some, option_map, ap, sym, ◌∙◌}
use Rattle.bf_heap.specs.Heaps.{Rows}
use Rattle.bf_live.proofs.Held.{heap_held}
use Rattle.bf_live.proofs.live_tables.LiveTables.heap.Goals as goal

pub returns-in-Some : goal.returns-in-Some
returns-in-Some c =
    ap (λ (h : Rows). Some h.entries) c.heap.ensures ∙ ap (option_map (λ (h : Bor Rows). h.now.entries)) (sym c.in-Some.is)
    ∙ heap_held c.self.inside.catalog c.self.inside.heaps.entries c.self.invariant c.args.self.now c.self.view_is c.args.table.now c.get.result c.get.ensures.value

pub returns-in-None : goal.returns-in-None
returns-in-None c =
    ap (option_map (λ (h : Bor Rows). h.now.entries)) (sym c.in-None.is)
    ∙ heap_held c.self.inside.catalog c.self.inside.heaps.entries c.self.invariant c.args.self.now c.self.view_is c.args.table.now c.get.result c.get.ensures.value
