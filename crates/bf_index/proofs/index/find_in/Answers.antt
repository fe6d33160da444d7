use Rattle.std.proofs.Common.{◌≡◌, ◌≤◌, ◌<◌, [], List, length, Equal, Less, Greater, ◌∙◌, subst}
use Rattle.std.specs.List.{HoldsAt}
use Rattle.std.specs.List.Sorted.{IsPartitionPoint, IsNonDecreasingBy}
use Rattle.std.specs.Ordering.{ordering_index}
use Rattle.std.proofs.lemmas.List.{get_or_default}
use Rattle.bf_heap.specs.Pages.{page_at}
use Rattle.bf_index.specs.Pairs.{Pair, pair_cmp}
use Rattle.bf_index.proofs.Places.{pair_found, removed, no_pair, inserted}
use Rattle.bf_index.proofs.index.find_in.Goals as goal

pub returns-in-Ok-clause-there : goal.returns-in-Ok-clause-there
returns-in-Ok-clause-there c =
    let pages = c.args.pages.now in
    let pair : Pair = (c.args.value.now, c.args.key.now) in
    let here = c.page_of-here.result in
    let place = c.in-Ok.place in
    let page_is : c.index-pages-here.result ≡ page_at pages here = c.index-pages-here.is ∙ get_or_default pages here c.index-pages-here.result [] c.page_of-here.ensures.within in
    let inside : place < length (page_at pages here) = subst (λ (page : List Pair). place < length page) page_is c.in-Ok.ensures.bound in
    let tied = subst (λ (page : List Pair). HoldsAt (λ (e : Pair). pair_cmp e pair ≡ Equal) page place) page_is c.in-Ok.ensures.position in
    record {
      within = c.page_of-here.ensures.within;
      inside = inside;
      there = pair_found pages c.requires.in_order pair here c.page_of-here.ensures.within place inside tied;
      without = removed pages c.requires.in_order pair here c.page_of-here.ensures.within place inside tied;
    }

pub returns-in-Err-clause-gap : goal.returns-in-Err-clause-gap
returns-in-Err-clause-gap c =
    let pages = c.args.pages.now in
    let pair : Pair = (c.args.value.now, c.args.key.now) in
    let here = c.page_of-here.result in
    let place = c.in-Err.place in
    let page_is : c.index-pages-here.result ≡ page_at pages here = c.index-pages-here.is ∙ get_or_default pages here c.index-pages-here.result [] c.page_of-here.ensures.within in
    let inside : place ≤ length (page_at pages here) = subst (λ (page : List Pair). place ≤ length page) page_is c.in-Err.ensures.bound in
    let parted = subst (λ (page : List Pair). IsNonDecreasingBy (λ (e : Pair). ordering_index (pair_cmp e pair)) page → IsPartitionPoint (λ (e : Pair). pair_cmp e pair ≡ Less) (λ (e : Pair). pair_cmp e pair ≡ Greater) page place) page_is c.in-Err.ensures.position in
    record {
      within = c.page_of-here.ensures.within;
      inside = inside;
      absent = no_pair pages c.requires.in_order pair here c.requires.used c.page_of-here.ensures place inside parted;
      with = inserted pages c.requires.in_order pair here c.requires.used c.page_of-here.ensures place inside parted;
    }
