use Rattle.std.proofs.Common.{◌≡◌, ◌+◌, ◌-◌, [], List, length, get_or, drop, Some, sym, ap, ◌∙◌, arith, slice_get}
use Rattle.std.proofs.lemmas.List.{get_or_default, drop_all}
use Rattle.bf_heap.specs.Heaps.{Entry, Rows}
use Rattle.bf_heap.specs.Pages.{rows_of}
use Rattle.bf_heap.proofs.Ats.{in_this, in_next}
use Rattle.bf_heap.proofs.heap.Heap.at.Goals as goal

pub loop-page-init : goal.loop-page-init
loop-page-init c = ap (λ (rows : List Entry). slice_get rows c.args.position) (ap rows_of c.deref-page-items.ensures.value ∙ ap (λ (h : Rows). h.entries) c.self.view_is)

pub returns-then-left-count : goal.returns-then-left-count
returns-then-left-count c =
    let pages = c.deref-page-items.result.now in
    let i = c.loop-page.page-index in
    let left = c.loop-page.left in
    let d : Entry = ([], []) in
    let page_is : c.page-item.result ≡ get_or pages i [] = c.page-item.is ∙ get_or_default pages i c.page-item.result [] c.loop-page-test.true in
    ap Some (c.at.ensures d ∙ ap (λ (page : List Entry). get_or page left d) page_is)
    ∙ sym (in_this pages i left d c.loop-page-test.true (omega (arith, ap length page_is, c.if-left-count.true, c.len-count.ensures.count)))
    ∙ c.loop-page.invariant

pub loop-page-preserved : goal.loop-page-preserved
loop-page-preserved c =
    let pages = c.deref-page-items.result.now in
    let i = c.loop-page.page-index in
    let left = c.loop-page.left in
    let page_is : c.page-item.result ≡ get_or pages i [] = c.page-item.is ∙ get_or_default pages i c.page-item.result [] c.loop-page-test.true in
    let same : left - c.len-count.result ≡ left - length (get_or pages i []) = omega (arith, ap length page_is, c.len-count.ensures.count) in
    ap (slice_get (rows_of (drop (i + 1) pages))) same
    ∙ sym (in_next pages i left c.loop-page-test.true (omega (arith, ap length page_is, c.if-left-count.false, c.len-count.ensures.count)))
    ∙ c.loop-page.invariant

pub returns : goal.returns
returns c = sym (ap (λ (ps : List (List Entry)). slice_get (rows_of ps) c.loop-page.left) (drop_all c.loop-page.page-index c.deref-page-items.result.now c.loop-page-test.false)) ∙ c.loop-page.invariant
