use Rattle.std.proofs.Common.{List, ap, ◌∙◌}
use Rattle.bf_base.specs.Values.{key_cmp_total, key_cmp-IsAntisymmetric}
use Rattle.bf_txn.specs.Writes.{KeyWrite, with_key_write}
use Rattle.bf_txn.proofs.KeyWrites.{inserted}
use Rattle.bf_txn.proofs.table_writes.TableWrites.write.Goals as goal

pub returns-clause-ok : goal.returns-clause-ok
returns-clause-ok c =
    c.in_ok-insert.ensures.entries ∙ inserted key_cmp_total key_cmp-IsAntisymmetric c.self.inside.rows.entries c.args.key c.args.row
    ∙ ap (λ (ws : List KeyWrite). with_key_write ws (c.args.key, c.args.row)) c.self.view_is
