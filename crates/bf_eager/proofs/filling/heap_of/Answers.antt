-- Each row is put under its key, for which there is room.
use Rattle.std.proofs.Common.{◌≡◌, ◌≤◌, List, [], ◌∷◌, ◌++◌, length, sym, ap, subst, ◌∙◌, append_assoc}
use Rattle.std.specs.Vec.Iter.{into_iter_items}
use Rattle.bf_base.specs.declared.value.Value.{Value}
use Rattle.bf_heap.specs.Heaps.{with_row}
use Rattle.bf_eager.specs.Starting.{have_different_keys}
use Rattle.bf_eager.proofs.Placing.{filled_more, room_left}
use Rattle.bf_eager.proofs.filling.heap_of.Goals as goal

pub loop-row-preserved-in_ok-key : goal.loop-row-preserved-in_ok-key
loop-row-preserved-in_ok-key c =
    let row = c.in-Some.row in
    let so_far = c.loop-row.yielded in
    let rest = into_iter_items c.next.new.self in
    let inv = c.loop-row.invariant in
    let steps : into_iter_items c.loop-row.row-iterator ≡ row ∷ rest = c.in-Some.ensures.steps.0 in
    let whole : so_far ++ row ∷ rest ≡ c.args.rows.items = ap (λ (rows : List (List Value)). so_far ++ rows) (sym steps) ∙ inv.left in
    record {
      left = append_assoc so_far (row ∷ []) rest ∙ whole;
      filled =
          c.put.ensures.entries ∙ ap (λ (key : List Value). with_row c.loop-row.heap.entries key row) c.in_ok-key.ensures
          ∙ filled_more c.args.table.now so_far rest row c.loop-row.heap.entries inv.filled (ap (have_different_keys c.args.table.now) whole ∙ c.requires.keys);
      room = subst (λ n. length rest ≤ n) (sym c.put.ensures.spare)
          (room_left c.loop-row.heap c.in_ok-key.key (length rest) (length (into_iter_items c.loop-row.row-iterator)) inv.room (ap (λ (rows : List (List Value)). length rows) steps));
    }

pub loop-row-preserved : goal.loop-row-preserved
loop-row-preserved c =
    let row = c.in-Some.row in
    let so_far = c.loop-row.yielded in
    let rest = into_iter_items c.next.new.self in
    let inv = c.loop-row.invariant in
    let steps : into_iter_items c.loop-row.row-iterator ≡ row ∷ rest = c.in-Some.ensures.steps.0 in
    let whole : so_far ++ row ∷ rest ≡ c.args.rows.items = ap (λ (rows : List (List Value)). so_far ++ rows) (sym steps) ∙ inv.left in
    record {
      left = append_assoc so_far (row ∷ []) rest ∙ whole;
      filled =
          c.put.ensures.entries ∙ ap (λ (key : List Value). with_row c.loop-row.heap.entries key row) c.in_ok-key.ensures
          ∙ filled_more c.args.table.now so_far rest row c.loop-row.heap.entries inv.filled (ap (have_different_keys c.args.table.now) whole ∙ c.requires.keys);
      room = subst (λ n. length rest ≤ n) (sym c.put.ensures.spare)
          (room_left c.loop-row.heap c.in_ok-key.key (length rest) (length (into_iter_items c.loop-row.row-iterator)) inv.room (ap (λ (rows : List (List Value)). length rows) steps));
    }
