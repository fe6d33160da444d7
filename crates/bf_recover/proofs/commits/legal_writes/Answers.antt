use Rattle.std.proofs.Common.{◌≡◌, false, List, [], ◌∷◌, ◌++◌, is_some, sym, ap, ap₂, subst, ◌∙◌, append_assoc}
use Rattle.std.specs.Prelude.{IfSome}
use Rattle.std.specs.Vec.Iter.{into_iter_items}
use Rattle.std.proofs.lemmas.List.{map-append}
use Rattle.bf_record.specs.declared.writes.TableWrite.{TableWrite}
use Rattle.bf_txn.specs.declared.write.Write.{Write}
use Rattle.bf_recover.specs.Commits.{is_legal_write, write_of}
use Rattle.bf_recover.proofs.Legality.{one_more_legal, one_not_legal}
use Rattle.bf_recover.proofs.commits.legal_writes.Goals as goal

pub loop-write-preserved : goal.loop-write-preserved
loop-write-preserved c =
    let lazy = c.args.store.now.lazy in
    let so_far : List TableWrite = c.loop-write.yielded in
    let rest : List TableWrite = into_iter_items c.next.new.self in
    let write : TableWrite = c.in-Some.write in
    let left : so_far ++ write ∷ rest ≡ into_iter_items c.into_iter-write-iterator.result = ap (λ (ws : List TableWrite). so_far ++ ws) (sym c.in-Some.ensures.steps.0) ∙ c.loop-write.invariant.left in
    let known : c.in-Some-2.known ≡ write_of lazy.live write = subst (λ o. IfSome o (λ w. w ≡ write_of lazy.live write)) c.in-Some-2.is c.in_ok-known.ensures.write in
    record {
      left = append_assoc so_far (write ∷ []) rest ∙ left;
      legal = one_more_legal lazy so_far write c.loop-write.invariant.legal (sym c.in_ok-known.ensures.legal ∙ ap is_some c.in-Some-2.is);
      writes =
          c.in_ok-push.ensures.items
          ∙ ap₂ (λ (ws : List Write) (w : Write). ws ++ w ∷ []) c.loop-write.invariant.writes known
          ∙ sym (map-append (write_of lazy.live) so_far (write ∷ []));
      kept = c.in_ok-known.ensures.kept;
    }

-- one write is not legal
pub returns-in_default-clause-legal : goal.returns-in_default-clause-legal
returns-in_default-clause-legal c =
    let lazy = c.args.store.now.lazy in
    let so_far : List TableWrite = c.loop-write.yielded in
    let rest : List TableWrite = into_iter_items c.next.new.self in
    let write : TableWrite = c.in-Some.write in
    let left : so_far ++ write ∷ rest ≡ c.args.writes =
    ap (λ (ws : List TableWrite). so_far ++ ws) (sym c.in-Some.ensures.steps.0) ∙ c.loop-write.invariant.left ∙ c.into_iter-write-iterator.ensures.into_iter_gives.0 ∙ c.into_vec-write-items.ensures in
    let not_legal : is_legal_write lazy (write_of lazy.live write) ≡ false = sym c.in_ok-known.ensures.legal ∙ ap is_some c.in_default.is in
    sym (one_not_legal lazy so_far rest c.args.writes write left not_legal)
