use Rattle.std.proofs.Common.{List, Some, ap, ◌∙◌}
use Rattle.bf_base.specs.Values.{key_cmp_total}
use Rattle.bf_txn.specs.Writes.{KeyWrite, row_written_at}
use Rattle.bf_txn.proofs.KeyWrites.{looked_up}
use Rattle.bf_txn.proofs.table_writes.TableWrites.read.Goals as goal

pub returns-in-Some-clause-row : goal.returns-in-Some-clause-row
returns-in-Some-clause-row c =
    ap Some c.as_ref.ensures.value ∙ c.in-Some.ensures.value ∙ looked_up key_cmp_total c.self.inside.rows.entries c.args.key.now
    ∙ ap (λ (ws : List KeyWrite). row_written_at ws c.args.key.now) c.self.view_is

pub returns-in-None-clause-row : goal.returns-in-None-clause-row
returns-in-None-clause-row c =
    c.in-None.ensures.value ∙ looked_up key_cmp_total c.self.inside.rows.entries c.args.key.now
    ∙ ap (λ (ws : List KeyWrite). row_written_at ws c.args.key.now) c.self.view_is
