use Rattle.std.proofs.Common.{◌≡◌, ◌<◌, ◌++◌, ◌∷◌, [], List, length, get_or, set, sym, ap, ◌∙◌, subst, arith, get_or-set_same}
use Rattle.std.specs.List.{remove}
use Rattle.std.proofs.lemmas.List.{get_or_default}
use Rattle.bf_heap.specs.Heaps.{Entry}
use Rattle.bf_heap.specs.Pages.{page_at, IsTakenOut}
use Rattle.bf_heap.proofs.Takes.{take_stays, take_left}
use Rattle.bf_heap.proofs.heap.take_out.Goals as goal

pub returns-then-rows-eq1-clause-rows : goal.returns-then-rows-eq1-clause-rows
returns-then-rows-eq1-clause-rows c =
    let pages = c.args.pages.now.items in
    let spares = c.args.spares.now.items in
    let here = c.args.here in
    let place = c.args.place in
    let page_is : c.index_mut-page.result.now ≡ page_at pages here = c.index_mut-page.ensures.value ∙ get_or_default pages here c.index_mut-page.result.now [] c.requires.here in
    let now_is : c.remove-former.new.self ≡ remove (page_at pages here) place = c.remove-former.ensures.rows ∙ ap (λ (p : List Entry). remove p place) page_is in
    let left : c.remove-page.new.self.items ≡ remove (set pages here (remove (page_at pages here) place)) here = c.remove-page.ensures.items ∙ ap (λ (p : List Entry). remove (set pages here p) here) now_is in
    let lt : here < length pages = c.requires.here in
    let same : get_or (set pages here c.remove-former.new.self) here c.remove-page.result ≡ c.remove-former.new.self = rw get_or-set_same in
    let gone : c.remove-page.result ≡ remove (page_at pages here) place = c.remove-page.ensures.value ∙ same ∙ now_is in
    let pushed : c.push.new.self.items ≡ spares ++ c.remove-page.result ∷ [] = rw c.unwrap.ensures at c.push.ensures.items in
    subst (λ (ps : List (List Entry)). IsTakenOut pages spares here place ps c.push.new.self.items) (sym left)
    (subst (λ (ss : List (List Entry)). IsTakenOut pages spares here place (remove (set pages here (remove (page_at pages here) place)) here) ss) (sym (pushed ∙ ap (λ (p : List Entry). spares ++ p ∷ []) gone))
    (take_left pages spares here place c.requires.here c.requires.place (omega (arith, ap length page_is, c.len-rows.ensures.count, c.if-rows-eq1.true))))

pub returns-else-rows-eq1-clause-rows : goal.returns-else-rows-eq1-clause-rows
returns-else-rows-eq1-clause-rows c =
    let pages = c.args.pages.now.items in
    let spares = c.args.spares.now.items in
    let here = c.args.here in
    let place = c.args.place in
    let page_is : c.index_mut-page.result.now ≡ page_at pages here = c.index_mut-page.ensures.value ∙ get_or_default pages here c.index_mut-page.result.now [] c.requires.here in
    let now_is : c.remove-former.new.self ≡ remove (page_at pages here) place = c.remove-former.ensures.rows ∙ ap (λ (p : List Entry). remove p place) page_is in
    subst (λ (p : List Entry). IsTakenOut pages spares here place (set pages here p) spares) (sym now_is)
    (take_stays pages spares here place c.requires.here c.requires.place (omega (arith, ap length page_is, c.len-rows.ensures.count, c.if-rows-eq1.false, c.requires.place)))
