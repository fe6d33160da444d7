use Rattle.std.proofs.Common.{◌≡◌, [], List, length, sym, ap, subst, ◌∙◌, arith}
use Rattle.std.proofs.lemmas.List.{get_or_default}
use Rattle.bf_heap.specs.Pages.{first_page, page_at}
use Rattle.bf_heap.proofs.Counts.{over_within}
use Rattle.bf_heap.proofs.Takes.{first_most}
use Rattle.bf_index.specs.Pages.{pairs_of, IsPairAt}
use Rattle.bf_index.specs.Pairs.{PairSet, Pair, has_pair}
use Rattle.bf_index.proofs.Members.{without_pair-absent}
use Rattle.bf_index.proofs.Puts.{kept_taken}
use Rattle.bf_index.proofs.index.Index.take.Goals as goal

pub raised-self-inside-requires : goal.raised-self-inside-requires
raised-self-inside-requires c = record { small = (omega (arith, c.over_without-self-inside.ensures, over_within c.self.inside.pages.items, c.self.invariant.over_is, c.self.invariant.within, c.first_room-first.ensures, first_most c.deref-in-Ok.result.now), omega (arith, c.self.invariant.within)) }

pub invariant_of-self : goal.invariant_of-self
invariant_of-self c =
    let pages = c.self.inside.pages.items in
    let pair : Pair = (c.args.value.now, c.args.key.now) in
    let here = c.in-Ok.here in
    let at = subst (λ (ps : List (List Pair)). IsPairAt ps pair here c.in-Ok.place) c.deref.ensures.value c.in-Ok.ensures.there in
    let size : c.len-pairs.result ≡ length (page_at pages here) = c.len-pairs.ensures.count ∙ ap length (c.index.ensures ∙ get_or_default pages here c.index.result.now [] at.within) in
    kept_taken pages c.self.inside.spares.items c.self.inside.count c.self.inside.spare c.self.inside.over _ _ c.self.invariant pair here c.in-Ok.place at c.take_out.new.pages.items c.take_out.new.spares.items c.take_out.ensures.pairs
    c.len-pairs.result c.over_without-self-inside.result c.first_room-first.result c.raised-self-inside.result _ _ size c.over_without-self-inside.ensures (c.first_room-first.ensures ∙ ap first_page c.deref-in-Ok.ensures.value) c.raised-self-inside.ensures.within.0 c.raised-self-inside.ensures.within.1
    (λ a b. omega (arith, c.raised-self-inside.ensures.room a (omega (arith, b, c.len.ensures, c.take_out.new.spares.ok.0)), c.len.ensures, c.take_out.new.spares.ok.0)) c.take_out.ensures.capacity.0 c.take_out.ensures.capacity.1

-- a pair that is not there
pub returns-in-Err-clause-pairs : goal.returns-in-Err-clause-pairs
returns-in-Err-clause-pairs c =
    let pair : Pair = (c.args.value.now, c.args.key.now) in
    let pages_are : pairs_of c.deref.result.now ≡ c.args.self.now.pairs = ap pairs_of c.deref.ensures.value ∙ ap (λ (i : PairSet). i.pairs) c.self.view_is in
    sym (without_pair-absent c.args.self.now.pairs pair (ap (λ pairs. has_pair pairs pair) (sym pages_are) ∙ c.in-Err.ensures.gap.absent))
