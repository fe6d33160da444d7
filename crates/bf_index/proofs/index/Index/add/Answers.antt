use Rattle.std.proofs.Common.{◌≡◌, ◌+◌, ◌-◌, [], ◌∷◌, ◌++◌, true, List, length, sym, ap, subst, ◌∙◌, arith, vec_capacity}
use Rattle.std.proofs.lemmas.List.{get_or_default}
use Rattle.bf_base.specs.Maps.{is_map}
use Rattle.bf_heap.specs.Pages.{page_at}
use Rattle.bf_heap.proofs.Counts.{over_within}
use Rattle.bf_heap.proofs.Firsts.{no_pages}
use Rattle.bf_index.specs.Pages.{pairs_of, IsGapAt, IsPaged}
use Rattle.bf_index.specs.Pairs.{PairSet, Pair, has_pair, itself, pair_cmp}
use Rattle.bf_index.proofs.Firsts.{kept_first}
use Rattle.bf_index.proofs.Members.{with_pair-there}
use Rattle.bf_index.proofs.Puts.{kept_put, page_there}
use Rattle.bf_index.proofs.index.Index.add.Goals as goal

-- the first pair
pub invariant_of-self : goal.invariant_of-self
invariant_of-self c =
    let empty = no_pages c.self.inside.pages.items _ _ c.self.inside.pages.ok.0 c.is_empty.ensures c.if-is_empty.true in
    let popped : c.self.inside.spares.items ≡ c.pop.new.self.items ++ c.unwrap-page.result ∷ [] = rw c.unwrap-page.ensures at c.pop.ensures.items in
    let pushed : c.push.new.self.items ≡ c.self.inside.pages.items ++ c.insert.new.self ∷ [] = rw c.unwrap.ensures at c.push.ensures.items in
    let now_is : c.push.new.self.items ≡ c.insert.new.self ∷ [] = pushed ∙ ap (λ (ps : List (List Pair)). ps ++ c.insert.new.self ∷ []) empty in
    subst (λ (ps : List (List Pair)). IsPaged ps c.pop.new.self.items (c.self.inside.count + 1) (c.self.inside.spare - 1) c.self.inside.over (vec_capacity c.push.new.self) (vec_capacity c.pop.new.self)) (sym now_is)
    (kept_first c.self.inside.pages.items c.self.inside.spares.items c.pop.new.self.items c.unwrap-page.result c.insert.new.self (c.args.value, c.args.key) c.self.inside.count c.self.inside.spare c.self.inside.over _ (vec_capacity c.push.new.self) _ (vec_capacity c.pop.new.self) c.self.invariant empty popped c.insert.ensures c.push.ensures.capacity (omega (arith, c.pop.ensures.capacity)))

-- a pair that is there
pub returns-in-Ok-clause-pairs : goal.returns-in-Ok-clause-pairs
returns-in-Ok-clause-pairs c =
    let pair : Pair = (c.args.value, c.args.key) in
    let pages_are : pairs_of c.deref.result.now ≡ c.args.self.now.pairs = ap pairs_of c.deref.ensures.value ∙ ap (λ (i : PairSet). i.pairs) c.self.view_is in
    let in_order = subst (λ (i : PairSet). is_map pair_cmp itself i.pairs ≡ true) c.self.view_is c.self.invariant.in_order in
    sym (with_pair-there c.args.self.now.pairs pair in_order (ap (λ pairs. has_pair pairs pair) (sym pages_are) ∙ c.in-Ok.ensures.there.there))

-- a new pair
pub put_new-requires-clause-spare : goal.put_new-requires-clause-spare
put_new-requires-clause-spare c =
    let pages = c.self.inside.pages.items in
    let pair : Pair = (c.args.value, c.args.key) in
    let at = subst (λ (ps : List (List Pair)). IsGapAt ps pair c.in-Err.here c.in-Err.place) c.deref.ensures.value c.in-Err.ensures.gap in
    page_there pages c.self.inside.spares.items c.self.inside.count c.self.inside.spare c.self.inside.over _ _ c.self.invariant pair c.in-Err.here c.in-Err.place at c.self.inside.columns.items c.args.self.now c.self.view_is c.requires

pub over_with-self-inside-requires-clause-small : goal.over_with-self-inside-requires-clause-small
over_with-self-inside-requires-clause-small c = omega (arith, over_within c.self.inside.pages.items, c.self.invariant.over_is, c.self.invariant.within)

pub invariant_of-self-in-Err : goal.invariant_of-self-in-Err
invariant_of-self-in-Err c =
    let pages = c.self.inside.pages.items in
    let pair : Pair = (c.args.value, c.args.key) in
    let here = c.in-Err.here in
    let at = subst (λ (ps : List (List Pair)). IsGapAt ps pair here c.in-Err.place) c.deref.ensures.value c.in-Err.ensures.gap in
    let size : c.len-pairs.result ≡ length (page_at pages here) = c.len-pairs.ensures.count ∙ ap length (c.index.ensures ∙ get_or_default pages here c.index.result.now [] at.within) in
    kept_put pages c.self.inside.spares.items c.self.inside.count c.self.inside.spare c.self.inside.over _ _ c.self.invariant pair here c.in-Err.place at c.self.inside.columns.items c.args.self.now c.self.view_is c.requires c.put_new.new.pages.items c.put_new.new.spares.items c.put_new.ensures.pair
    c.len-pairs.result c.over_with-self-inside.result _ _ size c.over_with-self-inside.ensures.split c.over_with-self-inside.ensures.more c.over_with-self-inside.ensures.same c.put_new.ensures.capacity.0 c.put_new.ensures.capacity.1
