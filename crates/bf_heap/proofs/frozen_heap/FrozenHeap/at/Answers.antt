use Rattle.std.proofs.Common.{◌≡◌, ℕ, ◌+◌, ◌-◌, ◌≤◌, nat_le, [], List, length, get_or, Some, sym, ap, ◌∙◌, subst, arith, slice_get}
use Rattle.std.specs.List.Sorted.{IsPartitionedBy}
use Rattle.std.proofs.lemmas.List.{get_or_default}
use Rattle.bf_heap.specs.Heaps.{Entry}
use Rattle.bf_heap.specs.Frozen.{starts_from, AreBegun}
use Rattle.bf_heap.proofs.Starts.{length-starts, starts_parted, no_page, reached, row_at, no_row_at}
use Rattle.bf_heap.proofs.frozen_heap.FrozenHeap.at.Goals as goal

pub begun-begun-requires : goal.begun-begun-requires
begun-begun-requires c =
    let starts_are : c.deref.result.now ≡ starts_from 0 c.self.inside.parts.pages.items = c.deref.ensures.value ∙ c.self.invariant.1 in
    subst (λ (starts : List ℕ). IsPartitionedBy (λ start. nat_le start c.args.position) starts) (sym starts_are) (starts_parted c.self.inside.parts.pages.items c.args.position)

pub returns-then-begun-eq0 : goal.returns-then-begun-eq0
returns-then-begun-eq0 c =
    let pages = c.self.inside.parts.pages.items in
    let position = c.args.position in
    let n = c.begun-begun.result in
    let point = subst (λ (starts : List ℕ). AreBegun starts position n) (c.deref.ensures.value ∙ c.self.invariant.1) c.begun-begun.ensures.begun in
    sym (no_page pages position n point c.if-begun-eq0.true) ∙ ap (λ (rows : List Entry). slice_get rows position) c.self.view_is

pub index-page-requires : goal.index-page-requires
index-page-requires c =
    omega (arith, c.begun-begun.ensures.bound, c.if-begun-eq0.false, c.deref.ensures.len, ap length c.self.invariant.1, length-starts 0 c.self.inside.parts.pages.items, c.self.inside.starts.ok.0, c.self.inside.parts.pages.ok.0)

pub overflow_sub-place : goal.overflow_sub-place
overflow_sub-place c =
    let pages = c.self.inside.parts.pages.items in
    let position = c.args.position in
    let n = c.begun-begun.result in
    let start = c.index.result.now in
    let starts_are : c.deref.result.now ≡ starts_from 0 pages = c.deref.ensures.value ∙ c.self.invariant.1 in
    let point = subst (λ (starts : List ℕ). AreBegun starts position n) starts_are c.begun-begun.ensures.begun in
    let last : n - 1 + 1 ≡ n = omega (arith, c.if-begun-eq0.false) in
    let within : n ≤ length pages = omega (arith, c.begun-begun.ensures.bound, ap length starts_are, length-starts 0 pages) in
    reached pages position n point (n - 1) start last within (c.index.ensures ∙ ap (λ starts. get_or starts (n - 1) start) c.self.invariant.1)

pub returns-then-place-len : goal.returns-then-place-len
returns-then-place-len c =
    let pages = c.self.inside.parts.pages.items in
    let position = c.args.position in
    let n = c.begun-begun.result in
    let start = c.index.result.now in
    let starts_are : c.deref.result.now ≡ starts_from 0 pages = c.deref.ensures.value ∙ c.self.invariant.1 in
    let point = subst (λ (starts : List ℕ). AreBegun starts position n) starts_are c.begun-begun.ensures.begun in
    let last : n - 1 + 1 ≡ n = omega (arith, c.if-begun-eq0.false) in
    let within : n ≤ length pages = omega (arith, c.begun-begun.ensures.bound, ap length starts_are, length-starts 0 pages) in
    let page_is : c.index-page.result.now ≡ get_or pages (n - 1) [] = c.index-page.ensures ∙ get_or_default pages (n - 1) c.index-page.result.now [] (omega (arith, last, within)) in
    let d : Entry = ([], []) in
    ap Some (c.at.ensures d ∙ ap (λ (page : List Entry). get_or page (position - start) d) page_is)
    ∙ row_at pages position n point (n - 1) start last within (c.index.ensures ∙ ap (λ starts. get_or starts (n - 1) start) c.self.invariant.1) d (omega (arith, ap length page_is, c.if-place-len.true, c.len.ensures.count))
    ∙ ap (λ (rows : List Entry). slice_get rows position) c.self.view_is

pub returns-else-place-len : goal.returns-else-place-len
returns-else-place-len c =
    let pages = c.self.inside.parts.pages.items in
    let position = c.args.position in
    let n = c.begun-begun.result in
    let start = c.index.result.now in
    let starts_are : c.deref.result.now ≡ starts_from 0 pages = c.deref.ensures.value ∙ c.self.invariant.1 in
    let point = subst (λ (starts : List ℕ). AreBegun starts position n) starts_are c.begun-begun.ensures.begun in
    let last : n - 1 + 1 ≡ n = omega (arith, c.if-begun-eq0.false) in
    let within : n ≤ length pages = omega (arith, c.begun-begun.ensures.bound, ap length starts_are, length-starts 0 pages) in
    let page_is : c.index-page.result.now ≡ get_or pages (n - 1) [] = c.index-page.ensures ∙ get_or_default pages (n - 1) c.index-page.result.now [] (omega (arith, last, within)) in
    sym (no_row_at pages position n point (n - 1) start last within (c.index.ensures ∙ ap (λ starts. get_or starts (n - 1) start) c.self.invariant.1) (omega (arith, ap length page_is, c.if-place-len.false, c.len.ensures.count)))
    ∙ ap (λ (rows : List Entry). slice_get rows position) c.self.view_is
