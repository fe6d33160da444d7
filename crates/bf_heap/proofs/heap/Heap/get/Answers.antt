use Rattle.std.proofs.Common.{◌≡◌, [], List, Some, sym, ap, ◌∙◌, subst, get_or}
use Rattle.std.proofs.lemmas.List.{get_or_default}
use Rattle.bf_heap.specs.Heaps.{Entry, Rows, row_under}
use Rattle.bf_heap.specs.Pages.{page_at, IsRowOf}
use Rattle.bf_heap.proofs.Places.{row_found}
use Rattle.bf_heap.proofs.heap.Heap.get.Goals as goal

pub returns : goal.returns
returns c =
    let pages = c.self.inside.pages.items in
    let key = c.args.key.now in
    let here = c.in_ok-here.here in
    let place = c.in_ok-here.place in
    let found : IsRowOf pages key here place = subst (λ (ps : List (List Entry)). IsRowOf ps key here place) c.deref.ensures.value c.in_ok-here.ensures.some in
    let page_is : c.index.result.now ≡ page_at pages here = c.index.ensures ∙ get_or_default pages here c.index.result.now [] found.within in
    let d : Entry = ([], []) in
    ap (λ (e : Entry). Some e.1) (c.at.ensures d ∙ ap (λ (page : List Entry). get_or page place d) page_is)
    ∙ sym (row_found pages c.self.invariant.rows.in_order key here found.within place found.inside found.tied d)
    ∙ ap (λ (h : Rows). row_under h.entries key) c.self.view_is
