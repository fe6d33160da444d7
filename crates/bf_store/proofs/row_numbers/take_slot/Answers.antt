use Rattle.std.proofs.Common.{ℕ, ◌+◌, ◌≤◌, length, set, Option, is_some, refl, ap, ◌∙◌, arith}
use Rattle.bf_store.specs.RowNumbers.{from_slot}
use Rattle.bf_store.proofs.RowNumbers.{none_in_slot, slot_beyond, slot_found, slot_taken}
use Rattle.bf_store.proofs.row_numbers.take_slot.Goals as goal

pub returns-then-slot-len-clause-taken : goal.returns-then-slot-len-clause-taken
returns-then-slot-len-clause-taken c = λ at.
    let os = c.args.page.now.items in
    let i = c.args.slot in
    ap (λ (o : Option ℕ). from_slot at (set os i o)) c.take.ensures.after
    ∙ slot_taken (at + i) at os i refl (omega (arith, c.if-slot-len.true, c.len.ensures, c.args.page.now.ok.0))

pub returns-then-slot-len-clause-had : goal.returns-then-slot-len-clause-had
returns-then-slot-len-clause-had c = λ at.
    let os = c.args.page.now.items in
    let i = c.args.slot in
    c.is_some.ensures
    ∙ ap is_some (c.take.ensures.value ∙ slot_found (at + i) at os i c.index_mut.result.now refl (omega (arith, c.if-slot-len.true, c.len.ensures, c.args.page.now.ok.0)) c.index_mut.ensures.value)

pub returns-clause-taken : goal.returns-clause-taken
returns-clause-taken c = λ at.
    let os = c.args.page.now.items in
    let i = c.args.slot in
    let beyond : length os ≤ i = omega (arith, c.if-slot-len.false, c.len.ensures, c.args.page.now.ok.0) in
    none_in_slot (at + i) at os (omega arith)

pub returns-clause-had : goal.returns-clause-had
returns-clause-had c = λ at.
    let os = c.args.page.now.items in
    let i = c.args.slot in
    let beyond : length os ≤ i = omega (arith, c.if-slot-len.false, c.len.ensures, c.args.page.now.ok.0) in
    ap is_some (slot_beyond (at + i) at os (omega arith))
