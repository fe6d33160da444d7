use Rattle.std.proofs.Common.{◌<◌, length, option_map, sym, subst, arith}
use Rattle.bf_index.specs.Edits.{IsIndexOf, edit_to, rows_after}
use Rattle.bf_index.proofs.Following.{has_former, moved, one_more}
use Rattle.bf_index.proofs.indexed_heap.follow_all.Goals as goal

pub follow-requires : goal.follow-requires
follow-requires c =
    let entries = c.args.heap.now.entries in
    let items = c.loop-at.indexes.items in
    let index = c.index_mut.result.now in
    let within : c.loop-at.at < length items = omega (arith, c.loop-at-test.true, c.len-in-loop-at.ensures, c.loop-at.indexes.ok.0) in
    let is : IsIndexOf entries index = subst (IsIndexOf entries) (sym c.index_mut.ensures.value) (c.loop-at.invariant.left c.loop-at.at index (omega arith) within) in
    has_former entries c.args.key.now c.len.ensures.heap.in_order index (option_map (λ row. row.now) c.get-former.result) is c.get-former.ensures

pub loop-at-preserved-in-Ok : goal.loop-at-preserved-in-Ok
loop-at-preserved-in-Ok c =
    let entries = c.args.heap.now.entries in
    let key = c.args.key.now in
    let row = option_map (λ row. row.now) c.args.row in
    let items = c.loop-at.indexes.items in
    let index = c.index_mut.result.now in
    let within : c.loop-at.at < length items = omega (arith, c.loop-at-test.true, c.len-in-loop-at.ensures, c.loop-at.indexes.ok.0) in
    let is : IsIndexOf entries index = subst (IsIndexOf entries) (sym c.index_mut.ensures.value) (c.loop-at.invariant.left c.loop-at.at index (omega arith) within) in
    let followed = moved entries key c.len.ensures.heap.in_order index c.follow.new.index (option_map (λ row. row.now) c.get-former.result) row is c.get-former.ensures c.follow.ensures.columns c.in-Ok.ensures.pairs in
    let now = one_more (IsIndexOf (rows_after entries (edit_to key row))) (IsIndexOf entries) items c.loop-at.at c.follow.new.index within c.loop-at.invariant.followed c.loop-at.invariant.left followed in
    record { followed = now.0; left = now.1 }
