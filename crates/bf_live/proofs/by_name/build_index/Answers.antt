use Rattle.std.proofs.Common.{ap, ◌∙◌, sym}
use Rattle.bf_heap.specs.Heaps.{Rows}
use Rattle.bf_live.specs.Live.{rows_in}
use Rattle.bf_live.proofs.Heaps.{rows_changed, unchanged}
use Rattle.bf_live.proofs.by_name.build_index.Goals as goal

pub returns-in-Some : goal.returns-in-Some
returns-in-Some c =
    let n = c.args.name.now in
    let heaps = c.args.heaps.now.entries in
    ap rows_in (c.get_mut.follows.holds c.add_index.new.self).0
    ∙ rows_changed n c.in-Some.heap.now c.add_index.new.self (λ es. es) (ap (λ (h : Rows). h.entries) c.add_index.ensures) heaps c.get_mut.ensures.ordered (sym c.in-Some.ensures.value) ∙ unchanged n (rows_in heaps)
