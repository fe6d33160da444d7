use Rattle.std.proofs.Common.{◌≡◌, ◌≤◌, ◌<◌, [], List, length, Equal, Less, Greater, ◌∙◌, subst}
use Rattle.std.specs.List.{HoldsAt}
use Rattle.std.specs.List.Sorted.{IsPartitionPoint, IsNonDecreasingBy}
use Rattle.std.specs.Ordering.{ordering_index}
use Rattle.std.proofs.lemmas.List.{get_or_default}
use Rattle.bf_base.specs.Values.{key_cmp}
use Rattle.bf_heap.specs.Heaps.{Entry}
use Rattle.bf_heap.specs.Pages.{page_at}
use Rattle.bf_heap.proofs.Places.{no_row}
use Rattle.bf_heap.proofs.heap.find_in.Goals as goal

pub returns-in-Ok-clause-some : goal.returns-in-Ok-clause-some
returns-in-Ok-clause-some c =
    let pages = c.args.pages.now in
    let here = c.page_of-here.result in
    let page_is : c.index-pages-here.result ≡ page_at pages here = c.index-pages-here.is ∙ get_or_default pages here c.index-pages-here.result [] c.page_of-here.ensures.within in
    record {
      within = c.page_of-here.ensures.within;
      inside = subst (λ (page : List Entry). c.in-Ok.place < length page) page_is c.in-Ok.ensures.bound;
      tied = subst (λ (page : List Entry). HoldsAt (λ (e : Entry). key_cmp e.0 c.args.key.now ≡ Equal) page c.in-Ok.place) page_is c.in-Ok.ensures.position;
    }

pub returns-in-Err-clause-none : goal.returns-in-Err-clause-none
returns-in-Err-clause-none c =
    let pages = c.args.pages.now in
    let key = c.args.key.now in
    let here = c.page_of-here.result in
    let place = c.in-Err.field-0 in
    let page_is : c.index-pages-here.result ≡ page_at pages here = c.index-pages-here.is ∙ get_or_default pages here c.index-pages-here.result [] c.page_of-here.ensures.within in
    let inside : place ≤ length (page_at pages here) = subst (λ (page : List Entry). place ≤ length page) page_is c.in-Err.ensures.bound in
    let parted = subst (λ (page : List Entry). IsNonDecreasingBy (λ (e : Entry). ordering_index (key_cmp e.0 key)) page → IsPartitionPoint (λ (e : Entry). key_cmp e.0 key ≡ Less) (λ (e : Entry). key_cmp e.0 key ≡ Greater) page place) page_is c.in-Err.ensures.position in
    no_row pages c.requires.in_order key here c.requires.used c.page_of-here.ensures place inside parted
