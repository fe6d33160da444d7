use Rattle.std.proofs.Common.{◌+◌, ◌≤◌, length, refl, arith}
use Rattle.bf_store.proofs.RowNumbers.{slot_beyond, slot_found}
use Rattle.bf_store.proofs.row_numbers.slot_at.Goals as goal

pub returns-in-Some : goal.returns-in-Some
returns-in-Some c = λ at. slot_found (at + c.args.slot) at c.args.page.now c.args.slot c.in-Some.number.now refl c.in-Some.ensures.lookup.3.0 c.in-Some.ensures.lookup.1

pub returns-in-None : goal.returns-in-None
returns-in-None c = λ at.
    let beyond : length c.args.page.now ≤ c.args.slot = c.in-None.ensures.lookup.3 in
    slot_beyond (at + c.args.slot) at c.args.page.now (omega arith)
