use Rattle.std.proofs.Common.{◌≡◌, [], ◌∷◌, ◌++◌, List, sym, ap, ◌∙◌, arith}
use Rattle.std.proofs.lemmas.Grind.{fold-append}
use Rattle.std.proofs.lemmas.List.{append_assoc}
use Rattle.bf_heap.specs.Heaps.{Entry}
use Rattle.bf_live.specs.Merged.{applied_to}
use Rattle.bf_txn.specs.Writes.{KeyWrite}
use Rattle.bf_live.specs.Commits.{key_puts}
use Rattle.bf_live.proofs.Written.{key_first}
use Rattle.bf_live.proofs.commit.change_all.Goals as goal

pub change-requires : goal.change-requires
change-requires c = omega (arith, c.loop-key.invariant.room, ap key_puts c.in-Some.ensures.steps, key_first (c.in-Some.key, c.in-Some.row) c.next.new.self)

pub loop-key-preserved : goal.loop-key-preserved
loop-key-preserved c =
    let write : KeyWrite = (c.in-Some.key, c.in-Some.row) in
    let inv = c.loop-key.invariant in
    let ahead : key_puts c.loop-key.key-iterator ≡ key_puts (write ∷ c.next.new.self) = ap key_puts c.in-Some.ensures.steps in
    record {
      left = append_assoc c.loop-key.yielded (write ∷ []) c.next.new.self ∙ ap (λ (ws : List KeyWrite). c.loop-key.yielded ++ ws) (sym c.in-Some.ensures.steps) ∙ inv.left;
      made = c.change.ensures.entries ∙ ap (λ (es : List Entry). applied_to es write) inv.made ∙ sym (fold-append applied_to c.args.heap.now.entries c.loop-key.yielded (write ∷ []));
      room = omega (arith, inv.room, ahead, key_first write c.next.new.self, c.change.ensures.spare);
      spare = omega (arith, inv.spare, ahead, key_first write c.next.new.self, c.change.ensures.spare);
    }
