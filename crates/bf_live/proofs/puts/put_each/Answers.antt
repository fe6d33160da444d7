use Rattle.std.proofs.Common.{◌≡◌, [], ◌∷◌, ◌++◌, List, Some, fold, length, sym, ap, ◌∙◌, append_assoc, arith}
use Rattle.std.specs.Vec.Iter.{into_iter_items}
use Rattle.std.proofs.lemmas.Grind.{fold-append}
use Rattle.std.proofs.lemmas.List.{map-append}
use Rattle.bf_heap.specs.Heaps.{Entry}
use Rattle.bf_live.specs.Merged.{applied_to}
use Rattle.bf_txn.specs.Writes.{KeyWrite}
use Rattle.bf_live.specs.Puts.{put_writes}
use Rattle.bf_live.proofs.puts.put_each.Goals as goal

pub change-requires : goal.change-requires
change-requires c =
    omega (arith, c.loop-key.invariant.room, ap (λ (es : List Entry). length es) c.in-Some.ensures.steps.0)

pub loop-key-preserved : goal.loop-key-preserved
loop-key-preserved c =
    let e : Entry = (c.in-Some.key, c.in-Some.row) in
    let inv = c.loop-key.invariant in
    let so_far : List Entry = c.loop-key.yielded in
    let rest : List Entry = into_iter_items c.next.new.self in
    let steps : into_iter_items c.loop-key.key-iterator ≡ e ∷ rest = c.in-Some.ensures.steps.0 in
    let ahead : length (into_iter_items c.loop-key.key-iterator) ≡ length (e ∷ rest) = ap (λ (es : List Entry). length es) steps in
    let put : KeyWrite = (e.0, Some e.1) in
    record {
      left = append_assoc so_far (e ∷ []) rest ∙ ap (λ (es : List Entry). so_far ++ es) (sym steps) ∙ inv.left;
      made =
          c.change.ensures.entries ∙ ap (λ (es : List Entry). applied_to es put) inv.made
          ∙ sym (fold-append applied_to c.args.heap.now.entries (put_writes so_far) (put ∷ []))
          ∙ ap (fold applied_to c.args.heap.now.entries) (sym (map-append (λ (e : Entry). (e.0, Some e.1)) so_far (e ∷ [])));
      room = omega (arith, inv.room, ahead, c.change.ensures.spare);
      spare = omega (arith, inv.spare, ahead, c.change.ensures.spare);
    }
