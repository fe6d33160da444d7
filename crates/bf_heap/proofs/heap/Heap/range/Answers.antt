use Rattle.std.proofs.Common.{◌≡◌, true, filter, not, List, sym, ap, subst, ◌∙◌}
use Rattle.bf_base.specs.Maps.{is_map}
use Rattle.bf_base.specs.Values.{key_cmp, key_cmp_total}
use Rattle.bf_base.proofs.Apart.{rises-filter}
use Rattle.bf_heap.specs.Heaps.{Entry, Rows, key_of_entry}
use Rattle.bf_heap.specs.KeyRanges.{is_before, is_behind, is_within}
use Rattle.bf_heap.specs.Pages.{rows_of}
use Rattle.bf_heap.proofs.Ranges.{filter-filter}
use Rattle.bf_heap.proofs.heap.Heap.range.Goals as goal

-- what does not come behind the high end is in order as all rows are
pub from_low-requires-clause-in_order : goal.from_low-requires-clause-in_order
from_low-requires-clause-in_order c =
    let high = c.args.range.now.high in
    let rows_are = c.to_high.ensures.rows ∙ ap (λ (ps : List (List Entry)). filter (λ e. not (is_behind high e.0)) (rows_of ps)) c.deref.ensures.value in
    subst (λ (rows : List Entry). is_map key_cmp key_of_entry rows ≡ true) (sym rows_are) (rises-filter key_cmp_total key_of_entry (λ e. not (is_behind high e.0)) (rows_of c.self.inside.pages.items) c.self.invariant.rows.in_order)

pub returns : goal.returns
returns c =
    let low = c.args.range.now.low in
    let high = c.args.range.now.high in
    let rows_are = c.to_high.ensures.rows ∙ ap (λ (ps : List (List Entry)). filter (λ e. not (is_behind high e.0)) (rows_of ps)) c.deref.ensures.value in
    c.from_low.ensures
    ∙ ap (λ (rows : List Entry). filter (λ e. not (is_before low e.0)) rows) rows_are
    ∙ sym (filter-filter (λ (e : Entry). not (is_before low e.0)) (λ e. not (is_behind high e.0)) (rows_of c.self.inside.pages.items))
    ∙ ap (λ (h : Rows). filter (λ e. is_within c.args.range.now e.0) h.entries) c.self.view_is
