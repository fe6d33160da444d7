use Rattle.std.proofs.Common.{◌≡◌, true, List, [], ◌∷◌, ◌++◌, sym, ap, ◌∙◌, append_assoc}
use Rattle.std.specs.Vec.Iter.{into_iter_items}
use Rattle.bf_base.specs.Maps.{is_map}
use Rattle.bf_txn.specs.declared.write.Write.{Write}
use Rattle.bf_txn.specs.Writes.{table_key_cmp, table_key_of, with_write}
use Rattle.bf_txn.proofs.Tables.{table_key_cmp_total}
use Rattle.bf_recover.proofs.Rising.{with_entry-behind}
use Rattle.bf_recover.proofs.commits.workspace_of.Goals as goal

pub loop-write-preserved : goal.loop-write-preserved
loop-write-preserved c =
    let so_far : List Write = c.loop-write.yielded in
    let rest : List Write = into_iter_items c.next.new.self in
    let write : Write = c.in-Some.write in
    let left : so_far ++ write ∷ rest ≡ into_iter_items c.into_iter-write-iterator.result = ap (λ (ws : List Write). so_far ++ ws) (sym c.in-Some.ensures.steps.0) ∙ c.loop-write.invariant.left in
    let all : into_iter_items c.into_iter-write-iterator.result ≡ c.args.writes.items = c.into_iter-write-iterator.ensures.into_iter_gives.0 in
    let rising : is_map table_key_cmp table_key_of (so_far ++ write ∷ rest) ≡ true = ap (is_map table_key_cmp table_key_of) (left ∙ all) ∙ c.requires in
    record {
      left = append_assoc so_far (write ∷ []) rest ∙ left;
      written = c.in_ok-write.ensures.ok ∙ ap (λ (ws : List Write). with_write ws write) c.loop-write.invariant.written ∙ with_entry-behind table_key_cmp_total table_key_of so_far rest write rising;
    }
