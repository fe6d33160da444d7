use Rattle.std.proofs.Common.{sym, ap, ◌∙◌}
use Rattle.bf_heap.specs.Heaps.{Rows}
use Rattle.bf_live.specs.Live.{rows_in}
use Rattle.bf_live.proofs.Heaps.{apart_nowhere, rows_apart, rows_changed}
use Rattle.bf_live.proofs.by_name.exchange_heap.Goals as goal

pub returns-in-Some-clause-rows : goal.returns-in-Some-clause-rows
returns-in-Some-clause-rows c =
    let n = c.args.name.now in
    let heaps = c.args.heaps.now.entries in
    ap rows_in (c.get_mut.follows.holds c.replace.new.dest).0
    ∙ rows_changed n c.in-Some.place.now c.replace.new.dest (λ es. c.args.heap.entries) (ap (λ (h : Rows). h.entries) c.replace.ensures.after) heaps c.get_mut.ensures.ordered (sym c.in-Some.ensures.value)

pub returns-in-None-clause-rows : goal.returns-in-None-clause-rows
returns-in-None-clause-rows c =
    let n = c.args.name.now in
    let heaps = c.args.heaps.now.entries in
    ap (λ m. rows_in m.entries) c.get_mut.follows.holds-at-none ∙ sym (rows_apart n (λ es. c.args.heap.entries) heaps (apart_nowhere n heaps (sym c.in-None.ensures.value)))
