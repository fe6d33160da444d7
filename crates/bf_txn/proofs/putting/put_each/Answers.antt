use Rattle.std.proofs.Common.{◌≡◌, List, [], ◌∷◌, ◌++◌, sym, ap, ◌∙◌, arith}
use Rattle.std.proofs.lemmas.Grind.{fold-append}
use Rattle.std.proofs.lemmas.List.{append_assoc}
use Rattle.std.specs.BTreeMap.{insert_entry}
use Rattle.bf_base.specs.declared.value.Value.{Value}
use Rattle.bf_base.specs.Values.{key_cmp, key_cmp_total, key_cmp-IsAntisymmetric}
use Rattle.bf_txn.specs.declared.putting.Former.{Former}
use Rattle.bf_txn.specs.Formers.{restored_at, undone}
use Rattle.bf_txn.specs.Writes.{KeyWrite, with_key_write}
use Rattle.bf_txn.proofs.KeyWrites.{inserted}
use Rattle.bf_txn.proofs.Taking.{restored_again, undone_last}
use Rattle.bf_txn.proofs.putting.put_each.Goals as goal

pub loop-key-preserved : goal.loop-key-preserved
loop-key-preserved c =
    let yielded = c.loop-key.yielded in
    let write : KeyWrite = (c.in-Some.key, c.in-Some.row) in
    let entries = c.loop-key.rows.entries in
    let former : Former = record { key = c.in_ok-at.at; row = c.in_ok-former.former } in
    let put : c.insert.new.self.entries ≡ insert_entry key_cmp entries c.in-Some.key c.in-Some.row = c.in_ok-former.ensures.entries in
    let noted : c.push.new.self.items ≡ c.loop-key.formers.items ++ former ∷ [] = rw c.unwrap.ensures at c.push.ensures.items in
    record {
      left = append_assoc yielded (write ∷ []) c.next.new.self ∙ ap (λ (ws : List KeyWrite). yielded ++ ws) (sym c.in-Some.ensures.steps) ∙ c.loop-key.invariant.left;
      put = put ∙ inserted key_cmp_total key_cmp-IsAntisymmetric entries c.in-Some.key c.in-Some.row ∙ ap (λ (ws : List KeyWrite). with_key_write ws write) c.loop-key.invariant.put
          ∙ sym (fold-append with_key_write c.args.rows.now.entries yielded (write ∷ []));
      undoable =
          ap (λ (formers : List Former). undone formers c.insert.new.self.entries) noted
          ∙ undone_last c.loop-key.formers.items former c.insert.new.self.entries
          ∙ ap (undone c.loop-key.formers.items) (
          ap (λ (key : List Value). restored_at c.in_ok-former.former key c.insert.new.self.entries) c.in_ok-at.ensures
          ∙ ap (restored_at c.in_ok-former.former c.in-Some.key) put
          ∙ restored_again entries c.in-Some.key c.in-Some.row c.in_ok-former.former c.insert.ensures.was_ordered c.in_ok-former.ensures.old)
          ∙ c.loop-key.invariant.undoable;
      room = grind (arith);
    }
