use Rattle.std.proofs.Common.{sym, subst}
use Rattle.bf_base.specs.Values.{key_cmp_total}
use Rattle.bf_txn.specs.Writes.{AreKeyWrites, key_of_write}
use Rattle.bf_txn.proofs.KeyWrites.{in_either, is_map-with_entries, rises_from_sorted, sorted_from_rises}
use Rattle.bf_txn.proofs.table_writes.TableWrites.write_all.Goals as goal

pub invariant_of-self : goal.invariant_of-self
invariant_of-self c =
    let before = c.self.inside.rows.entries in
    in_either c.put_all.result
    (λ ok. subst AreKeyWrites (sym ok) (sorted_from_rises key_cmp_total _ (is_map-with_entries key_cmp_total key_of_write before c.more.inside.rows.entries (rises_from_sorted key_cmp_total before c.self.invariant))))
    (λ err. subst AreKeyWrites (sym err) c.self.invariant)
    c.put_all.ensures.ok c.put_all.ensures.err

pub returns-clause-sorted : goal.returns-clause-sorted
returns-clause-sorted c =
    let before = c.self.inside.rows.entries in
    in_either c.put_all.result
    (λ ok. subst AreKeyWrites (sym ok) (sorted_from_rises key_cmp_total _ (is_map-with_entries key_cmp_total key_of_write before c.more.inside.rows.entries (rises_from_sorted key_cmp_total before c.self.invariant))))
    (λ err. subst AreKeyWrites (sym err) c.self.invariant)
    c.put_all.ensures.ok c.put_all.ensures.err
