use Rattle.std.proofs.Common.{[], Some, sym, ap, ◌∙◌, arith}
use Rattle.bf_heap.specs.Heaps.{Entry, Rows}
use Rattle.bf_heap.specs.Pages.{first_page}
use Rattle.bf_heap.proofs.Counts.{over_within}
use Rattle.bf_heap.proofs.Takes.{first_most}
use Rattle.bf_heap.proofs.Puts.{row_found, some_row, kept_taken, entries_taken, no_row, nothing_taken}
use Rattle.bf_heap.proofs.heap.Heap.remove.Goals as goal

pub overflow_sub-self : goal.overflow_sub-self
overflow_sub-self c = some_row c.self.inside.pages.items c.self.inside.spares.items c.self.inside.count c.self.inside.spare c.self.inside.over _ _ c.self.invariant c.args.self.now c.self.view_is c.deref.result.now c.deref.ensures.value c.args.key.now c.page_near-here.result c.page_near-here.ensures c.index-page.result.now c.index-page.ensures c.in-Ok.place c.in-Ok.ensures.bound c.in-Ok.ensures.position c.take_out-former.new.pages.items c.take_out-former.new.spares.items c.take_out-former.ensures.rows

pub raised-self-inside-requires : goal.raised-self-inside-requires
raised-self-inside-requires c = record { small = (omega (arith, c.over_without-self-inside.ensures, over_within c.self.inside.pages.items, c.self.invariant.over_is, c.self.invariant.rows.within, c.first_room-first.ensures, first_most c.deref-in-Ok.result.now), omega (arith, c.self.invariant.rows.within)) }

pub invariant_of-self : goal.invariant_of-self
invariant_of-self c =
    kept_taken c.self.inside.pages.items c.self.inside.spares.items c.self.inside.count c.self.inside.spare c.self.inside.over _ _ c.self.invariant c.args.self.now c.self.view_is c.deref.result.now c.deref.ensures.value c.args.key.now c.page_near-here.result c.page_near-here.ensures c.index-page.result.now c.index-page.ensures c.in-Ok.place c.in-Ok.ensures.bound c.in-Ok.ensures.position c.take_out-former.new.pages.items c.take_out-former.new.spares.items c.take_out-former.ensures.rows c.len-rows.result c.over_without-self-inside.result c.first_room-first.result c.raised-self-inside.result _ _ c.len-rows.ensures.count c.over_without-self-inside.ensures (c.first_room-first.ensures ∙ ap first_page c.deref-in-Ok.ensures.value) c.raised-self-inside.ensures.within.0 c.raised-self-inside.ensures.within.1 (λ a b. omega (arith, c.raised-self-inside.ensures.room a (omega (arith, b, c.len.ensures, c.take_out-former.new.spares.ok.0)), c.len.ensures, c.take_out-former.new.spares.ok.0)) c.take_out-former.ensures.capacity.0 c.take_out-former.ensures.capacity.1

pub returns-in-Ok-clause-former : goal.returns-in-Ok-clause-former
returns-in-Ok-clause-former c =
    let d : Entry = ([], []) in
    ap Some (c.take_out-former.ensures.former d) ∙ sym (row_found c.self.inside.pages.items c.self.inside.spares.items c.self.inside.count c.self.inside.spare c.self.inside.over _ _ c.self.invariant c.args.self.now c.self.view_is c.deref.result.now c.deref.ensures.value c.args.key.now c.page_near-here.result c.page_near-here.ensures c.index-page.result.now c.index-page.ensures c.in-Ok.place c.in-Ok.ensures.bound c.in-Ok.ensures.position d)

pub returns-in-Ok-clause-entries : goal.returns-in-Ok-clause-entries
returns-in-Ok-clause-entries c = entries_taken c.self.inside.pages.items c.self.inside.spares.items c.self.inside.count c.self.inside.spare c.self.inside.over _ _ c.self.invariant c.args.self.now c.self.view_is c.deref.result.now c.deref.ensures.value c.args.key.now c.page_near-here.result c.page_near-here.ensures c.index-page.result.now c.index-page.ensures c.in-Ok.place c.in-Ok.ensures.bound c.in-Ok.ensures.position c.take_out-former.new.pages.items c.take_out-former.new.spares.items c.take_out-former.ensures.rows

pub returns-in-Ok-clause-spare : goal.returns-in-Ok-clause-spare
returns-in-Ok-clause-spare c = omega (arith, ap (λ (h : Rows). h.spare) c.self.view_is, c.raised-self-inside.ensures.within.0)

pub returns-in-Err-clause-former : goal.returns-in-Err-clause-former
returns-in-Err-clause-former c = sym (no_row c.self.inside.pages.items c.self.inside.spares.items c.self.inside.count c.self.inside.spare c.self.inside.over _ _ c.self.invariant c.args.self.now c.self.view_is c.deref.result.now c.deref.ensures.value c.args.key.now c.page_near-here.result c.page_near-here.ensures c.index-page.result.now c.index-page.ensures c.in-Err.field-0 c.in-Err.ensures.bound c.in-Err.ensures.position)

pub returns-in-Err-clause-entries : goal.returns-in-Err-clause-entries
returns-in-Err-clause-entries c = ap (λ (h : Rows). h.entries) c.self.view_is ∙ nothing_taken c.self.inside.pages.items c.self.inside.spares.items c.self.inside.count c.self.inside.spare c.self.inside.over _ _ c.self.invariant c.args.self.now c.self.view_is c.deref.result.now c.deref.ensures.value c.args.key.now c.page_near-here.result c.page_near-here.ensures c.index-page.result.now c.index-page.ensures c.in-Err.field-0 c.in-Err.ensures.bound c.in-Err.ensures.position
