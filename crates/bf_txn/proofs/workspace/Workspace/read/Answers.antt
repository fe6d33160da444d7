use Rattle.std.proofs.Common.{List, ap, ◌∙◌}
use Rattle.bf_txn.specs.Writes.{KeyWrite, row_written_at}
use Rattle.bf_txn.proofs.Tables.{read_of}
use Rattle.bf_txn.proofs.workspace.Workspace.read.Goals as goal

pub returns-clause-row : goal.returns-clause-row
returns-clause-row c =
    c.read.ensures.row ∙ ap (λ (ws : List KeyWrite). row_written_at ws c.args.key.now) c.of_table.ensures.writes ∙ read_of c.args.self.now c.args.table.now c.args.key.now
