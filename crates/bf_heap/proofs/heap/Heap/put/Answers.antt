use Rattle.std.proofs.Common.{◌≡◌, ◌+◌, ◌-◌, [], ◌∷◌, ◌++◌, List, set, get_or, Some, sym, ap, subst, ◌∙◌, arith, vec_capacity}
use Rattle.bf_heap.specs.Heaps.{Entry}
use Rattle.bf_heap.specs.Pages.{IsPaged}
use Rattle.bf_heap.proofs.Counts.{over_within}
use Rattle.bf_heap.proofs.Firsts.{no_pages, kept_first}
use Rattle.bf_heap.proofs.Puts.{row_found, spare_left, entries_replaced, kept_replaced, no_row, room_there, page_there, spare_taken, entries_put, kept_put, now_page, over_now}
use Rattle.bf_heap.proofs.heap.Heap.put.Goals as goal

-- the first row
pub invariant_of-self : goal.invariant_of-self
invariant_of-self c =
    let empty = no_pages c.self.inside.pages.items _ _ c.self.inside.pages.ok.0 c.is_empty.ensures c.if-is_empty.true in
    let popped : c.self.inside.spares.items ≡ c.pop.new.self.items ++ c.unwrap-page.result ∷ [] = rw c.unwrap-page.ensures at c.pop.ensures.items in
    let pushed : c.push.new.self.items ≡ c.self.inside.pages.items ++ c.insert.new.self ∷ [] = rw c.unwrap.ensures at c.push.ensures.items in
    let now_is : c.push.new.self.items ≡ c.insert.new.self ∷ [] = pushed ∙ ap (λ (ps : List (List Entry)). ps ++ c.insert.new.self ∷ []) empty in
    subst (λ (ps : List (List Entry)). IsPaged ps c.pop.new.self.items (c.self.inside.count + 1) (c.self.inside.spare - 1) c.self.inside.over (vec_capacity c.push.new.self) (vec_capacity c.pop.new.self)) (sym now_is)
    (kept_first c.self.inside.pages.items c.self.inside.spares.items c.pop.new.self.items c.unwrap-page.result c.insert.new.self (c.args.key, c.args.row) c.self.inside.count c.self.inside.spare c.self.inside.over _ (vec_capacity c.push.new.self) _ (vec_capacity c.pop.new.self) c.self.invariant empty popped c.insert.ensures c.push.ensures.capacity (omega (arith, c.pop.ensures.capacity)))

-- the key's entry is replaced
pub invariant_of-self-in-Ok : goal.invariant_of-self-in-Ok
invariant_of-self-in-Ok c =
    kept_replaced c.self.inside.pages.items c.self.inside.spares.items c.self.inside.count c.self.inside.spare c.self.inside.over _ _ c.self.invariant c.args.self.now c.self.view_is c.deref.result.now c.deref.ensures.value c.args.key c.page_near-here.result c.page_near-here.ensures c.index-page.result.now c.index-page.ensures c.in-Ok.place c.in-Ok.ensures.bound c.in-Ok.ensures.position c.args.row c.replace.new.self (c.replace.ensures.rows ∙ ap (λ (p : List Entry). set p c.in-Ok.place (c.args.key, c.args.row)) (now_page c.self.inside.pages.items c.self.inside.spares.items c.self.inside.count c.self.inside.spare c.self.inside.over _ _ c.self.invariant c.args.self.now c.self.view_is c.deref.result.now c.deref.ensures.value c.args.key c.page_near-here.result c.page_near-here.ensures c.index-page.result.now c.index-page.ensures c.index_mut-page.result.now c.index_mut-page.ensures.value))

pub returns-in-Ok-clause-former : goal.returns-in-Ok-clause-former
returns-in-Ok-clause-former c =
    let d : Entry = ([], []) in
    ap Some (c.replace.ensures.former d ∙ ap (λ (p : List Entry). (get_or p c.in-Ok.place d).1) (now_page c.self.inside.pages.items c.self.inside.spares.items c.self.inside.count c.self.inside.spare c.self.inside.over _ _ c.self.invariant c.args.self.now c.self.view_is c.deref.result.now c.deref.ensures.value c.args.key c.page_near-here.result c.page_near-here.ensures c.index-page.result.now c.index-page.ensures c.index_mut-page.result.now c.index_mut-page.ensures.value))
    ∙ sym (row_found c.self.inside.pages.items c.self.inside.spares.items c.self.inside.count c.self.inside.spare c.self.inside.over _ _ c.self.invariant c.args.self.now c.self.view_is c.deref.result.now c.deref.ensures.value c.args.key c.page_near-here.result c.page_near-here.ensures c.index-page.result.now c.index-page.ensures c.in-Ok.place c.in-Ok.ensures.bound c.in-Ok.ensures.position d)

pub returns-in-Ok-clause-entries : goal.returns-in-Ok-clause-entries
returns-in-Ok-clause-entries c =
    entries_replaced c.self.inside.pages.items c.self.inside.spares.items c.self.inside.count c.self.inside.spare c.self.inside.over _ _ c.self.invariant c.args.self.now c.self.view_is c.deref.result.now c.deref.ensures.value c.args.key c.page_near-here.result c.page_near-here.ensures c.index-page.result.now c.index-page.ensures c.in-Ok.place c.in-Ok.ensures.bound c.in-Ok.ensures.position c.args.row c.replace.new.self (c.replace.ensures.rows ∙ ap (λ (p : List Entry). set p c.in-Ok.place (c.args.key, c.args.row)) (now_page c.self.inside.pages.items c.self.inside.spares.items c.self.inside.count c.self.inside.spare c.self.inside.over _ _ c.self.invariant c.args.self.now c.self.view_is c.deref.result.now c.deref.ensures.value c.args.key c.page_near-here.result c.page_near-here.ensures c.index-page.result.now c.index-page.ensures c.index_mut-page.result.now c.index_mut-page.ensures.value))

pub returns-in-Ok-clause-spare : goal.returns-in-Ok-clause-spare
returns-in-Ok-clause-spare c = spare_left c.self.inside.pages.items c.self.inside.spares.items c.self.inside.count c.self.inside.spare c.self.inside.over _ _ c.self.invariant c.args.self.now c.self.view_is c.deref.result.now c.deref.ensures.value c.args.key c.page_near-here.result c.page_near-here.ensures c.index-page.result.now c.index-page.ensures c.in-Ok.place c.in-Ok.ensures.bound c.in-Ok.ensures.position

-- a new key's entry is put
pub put_new-requires-clause-spare : goal.put_new-requires-clause-spare
put_new-requires-clause-spare c = page_there c.self.inside.pages.items c.self.inside.spares.items c.self.inside.count c.self.inside.spare c.self.inside.over _ _ c.self.invariant c.args.self.now c.self.view_is c.deref.result.now c.deref.ensures.value c.args.key c.page_near-here.result c.page_near-here.ensures c.index-page.result.now c.index-page.ensures c.in-Err.place c.in-Err.ensures.bound c.in-Err.ensures.position c.requires

pub over_with-self-inside-requires-clause-small : goal.over_with-self-inside-requires-clause-small
over_with-self-inside-requires-clause-small c = omega (arith, over_within c.self.inside.pages.items, c.self.invariant.over_is, c.self.invariant.rows.within)

pub overflow_sub-self-in-Err : goal.overflow_sub-self-in-Err
overflow_sub-self-in-Err c = omega (arith, room_there c.self.inside.pages.items c.self.inside.spares.items c.self.inside.count c.self.inside.spare c.self.inside.over _ _ c.self.invariant c.args.self.now c.self.view_is c.deref.result.now c.deref.ensures.value c.args.key c.page_near-here.result c.page_near-here.ensures c.index-page.result.now c.index-page.ensures c.in-Err.place c.in-Err.ensures.bound c.in-Err.ensures.position c.requires)

pub invariant_of-self-in-Err : goal.invariant_of-self-in-Err
invariant_of-self-in-Err c =
    kept_put c.self.inside.pages.items c.self.inside.spares.items c.self.inside.count c.self.inside.spare c.self.inside.over _ _ c.self.invariant c.args.self.now c.self.view_is c.deref.result.now c.deref.ensures.value c.args.key c.page_near-here.result c.page_near-here.ensures c.index-page.result.now c.index-page.ensures c.in-Err.place c.in-Err.ensures.bound c.in-Err.ensures.position c.args.row c.put_new.new.pages.items c.put_new.new.spares.items c.put_new.ensures.entry c.requires (omega (arith, c.len-rows.ensures.within)) _ _ _
    (over_now c.self.inside.pages.items c.self.inside.spares.items c.self.inside.count c.self.inside.spare c.self.inside.over _ _ c.self.invariant c.args.self.now c.self.view_is c.deref.result.now c.deref.ensures.value c.args.key c.page_near-here.result c.page_near-here.ensures c.index-page.result.now c.index-page.ensures c.in-Err.place c.in-Err.ensures.bound c.in-Err.ensures.position c.args.row c.put_new.new.pages.items c.put_new.new.spares.items c.put_new.ensures.entry c.len-rows.result c.over_with-self-inside.result c.len-rows.ensures.count c.len-rows.ensures.within c.over_with-self-inside.ensures.split c.over_with-self-inside.ensures.more c.over_with-self-inside.ensures.same)
    c.put_new.ensures.capacity.0 c.put_new.ensures.capacity.1

pub returns-in-Err-clause-former : goal.returns-in-Err-clause-former
returns-in-Err-clause-former c = sym (no_row c.self.inside.pages.items c.self.inside.spares.items c.self.inside.count c.self.inside.spare c.self.inside.over _ _ c.self.invariant c.args.self.now c.self.view_is c.deref.result.now c.deref.ensures.value c.args.key c.page_near-here.result c.page_near-here.ensures c.index-page.result.now c.index-page.ensures c.in-Err.place c.in-Err.ensures.bound c.in-Err.ensures.position)

pub returns-in-Err-clause-entries : goal.returns-in-Err-clause-entries
returns-in-Err-clause-entries c = entries_put c.self.inside.pages.items c.self.inside.spares.items c.self.inside.count c.self.inside.spare c.self.inside.over _ _ c.self.invariant c.args.self.now c.self.view_is c.deref.result.now c.deref.ensures.value c.args.key c.page_near-here.result c.page_near-here.ensures c.index-page.result.now c.index-page.ensures c.in-Err.place c.in-Err.ensures.bound c.in-Err.ensures.position c.args.row c.put_new.new.pages.items c.put_new.new.spares.items c.put_new.ensures.entry

pub returns-in-Err-clause-spare : goal.returns-in-Err-clause-spare
returns-in-Err-clause-spare c = spare_taken c.self.inside.pages.items c.self.inside.spares.items c.self.inside.count c.self.inside.spare c.self.inside.over _ _ c.self.invariant c.args.self.now c.self.view_is c.deref.result.now c.deref.ensures.value c.args.key c.page_near-here.result c.page_near-here.ensures c.index-page.result.now c.index-page.ensures c.in-Err.place c.in-Err.ensures.bound c.in-Err.ensures.position
