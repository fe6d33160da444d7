use Rattle.std.proofs.Common.{◌≡◌, ◌<◌, ◌++◌, ◌∷◌, [], List, length, get_or, set, sym, ap, ◌∙◌, subst, arith, get_or-set_same}
use Rattle.std.specs.List.{remove}
use Rattle.std.proofs.lemmas.List.{get_or_default}
use Rattle.bf_index.specs.Pairs.{Pair}
use Rattle.bf_heap.specs.Pages.{page_at, IsTakenOut}
use Rattle.bf_heap.proofs.Takes.{take_stays, take_left}
use Rattle.bf_index.proofs.index.take_out.Goals as goal

pub returns-then-pairs-eq1-clause-pairs : goal.returns-then-pairs-eq1-clause-pairs
returns-then-pairs-eq1-clause-pairs c =
    let pages = c.args.pages.now.items in
    let spares = c.args.spares.now.items in
    let here = c.args.here in
    let place = c.args.place in
    let page_is : c.index_mut-page.result.now ≡ page_at pages here = c.index_mut-page.ensures.value ∙ get_or_default pages here c.index_mut-page.result.now [] c.requires.here in
    let now_is : c.remove.new.self ≡ remove (page_at pages here) place = c.remove.ensures ∙ ap (λ (p : List Pair). remove p place) page_is in
    let left : c.remove-page.new.self.items ≡ remove (set pages here (remove (page_at pages here) place)) here = c.remove-page.ensures.items ∙ ap (λ (p : List Pair). remove (set pages here p) here) now_is in
    let lt : here < length pages = c.requires.here in
    let same : get_or (set pages here c.remove.new.self) here c.remove-page.result ≡ c.remove.new.self = rw get_or-set_same in
    let gone : c.remove-page.result ≡ remove (page_at pages here) place = c.remove-page.ensures.value ∙ same ∙ now_is in
    let pushed : c.push.new.self.items ≡ spares ++ c.remove-page.result ∷ [] = rw c.unwrap.ensures at c.push.ensures.items in
    subst (λ (ps : List (List Pair)). IsTakenOut pages spares here place ps c.push.new.self.items) (sym left)
    (subst (λ (ss : List (List Pair)). IsTakenOut pages spares here place (remove (set pages here (remove (page_at pages here) place)) here) ss) (sym (pushed ∙ ap (λ (p : List Pair). spares ++ p ∷ []) gone))
    (take_left pages spares here place c.requires.here c.requires.place (omega (arith, ap length page_is, c.len-pairs.ensures.count, c.if-pairs-eq1.true))))

pub returns-else-pairs-eq1-clause-pairs : goal.returns-else-pairs-eq1-clause-pairs
returns-else-pairs-eq1-clause-pairs c =
    let pages = c.args.pages.now.items in
    let spares = c.args.spares.now.items in
    let here = c.args.here in
    let place = c.args.place in
    let page_is : c.index_mut-page.result.now ≡ page_at pages here = c.index_mut-page.ensures.value ∙ get_or_default pages here c.index_mut-page.result.now [] c.requires.here in
    let now_is : c.remove.new.self ≡ remove (page_at pages here) place = c.remove.ensures ∙ ap (λ (p : List Pair). remove p place) page_is in
    subst (λ (p : List Pair). IsTakenOut pages spares here place (set pages here p) spares) (sym now_is)
    (take_stays pages spares here place c.requires.here c.requires.place (omega (arith, ap length page_is, c.len-pairs.ensures.count, c.if-pairs-eq1.false, c.requires.place)))
