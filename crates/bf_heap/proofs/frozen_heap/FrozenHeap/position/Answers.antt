use Rattle.std.proofs.Common.{◌≡◌, [], List, length, get_or, Equal, Some, None, sym, ap, ◌∙◌, subst, arith}
use Rattle.std.specs.List.{position}
use Rattle.bf_base.specs.Values.{key_cmp}
use Rattle.bf_heap.specs.Frozen.{starts_from}
use Rattle.bf_heap.specs.Heaps.{Entry, row_under}
use Rattle.bf_heap.specs.Pages.{rows_of, IsRowOf}
use Rattle.bf_heap.proofs.Flat.{place_of, in_page, below_all}
use Rattle.bf_heap.proofs.Positions.{is_of, position_is, no_position}
use Rattle.bf_heap.proofs.Starts.{length-starts, position_of}
use Rattle.bf_heap.proofs.frozen_heap.FrozenHeap.position.Goals as goal

pub returns-in_err-here : goal.returns-in_err-here
returns-in_err-here c =
    let key = c.args.key.now in
    let rows_are : rows_of c.deref.result.now ≡ c.args.self.now = ap rows_of c.deref.ensures.value ∙ c.self.view_is in
    let none : row_under c.args.self.now key ≡ None = sym (ap (λ (rows : List Entry). row_under rows key) rows_are) ∙ c.in_err-here.ensures.none in
    c.from_residual.ensures ∙ sym (no_position key c.args.self.now none)

pub index-requires : goal.index-requires
index-requires c =
    let found : IsRowOf c.deref.result.now c.args.key.now c.in_ok-here.here c.in_ok-here.place = c.in_ok-here.ensures.some in
    omega (arith, found.within, ap length c.deref.ensures.value, ap length c.self.invariant.1, length-starts 0 c.self.inside.parts.pages.items, c.self.inside.starts.ok.0)

pub overflow_add-result : goal.overflow_add-result
overflow_add-result c =
    let pages = c.self.inside.parts.pages.items in
    let here = c.in_ok-here.here in
    let place = c.in_ok-here.place in
    let start = c.index.result.now in
    let found : IsRowOf pages c.args.key.now here place = subst (λ (ps : List (List Entry)). IsRowOf ps c.args.key.now here place) c.deref.ensures.value c.in_ok-here.ensures.some in
    let begins : start ≡ get_or (starts_from 0 pages) here start = c.index.ensures ∙ ap (λ starts. get_or starts here start) c.self.invariant.1 in
    omega (arith, position_of pages here place start found.within begins, below_all pages here place found.within found.inside, c.self.invariant.0.rows.within)

pub returns : goal.returns
returns c =
    let pages = c.self.inside.parts.pages.items in
    let key = c.args.key.now in
    let here = c.in_ok-here.here in
    let place = c.in_ok-here.place in
    let start = c.index.result.now in
    let found : IsRowOf pages key here place = subst (λ (ps : List (List Entry)). IsRowOf ps key here place) c.deref.ensures.value c.in_ok-here.ensures.some in
    let begins : start ≡ get_or (starts_from 0 pages) here start = c.index.ensures ∙ ap (λ starts. get_or starts here start) c.self.invariant.1 in
    let d : Entry = ([], []) in
    let tied : key_cmp (get_or (rows_of pages) (place_of pages here place) d).0 key ≡ Equal = ap (λ (e : Entry). key_cmp e.0 key) (in_page pages here place d found.within found.inside) ∙ found.tied d in
    ap Some (position_of pages here place start found.within begins)
    ∙ sym (position_is key (rows_of pages) (place_of pages here place) d c.self.invariant.0.rows.in_order (below_all pages here place found.within found.inside) tied)
    ∙ ap (position (is_of key)) c.self.view_is
