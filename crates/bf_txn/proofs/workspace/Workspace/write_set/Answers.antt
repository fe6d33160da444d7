use Rattle.std.proofs.Common.{subst}
use Rattle.bf_txn.specs.Writes.{AreWrites}
use Rattle.bf_txn.proofs.Tables.{are_writes}
use Rattle.bf_txn.proofs.workspace.Workspace.write_set.Goals as goal

pub returns-in_err-copy_each-clause-sorted : goal.returns-in_err-copy_each-clause-sorted
returns-in_err-copy_each-clause-sorted c = subst AreWrites c.tables-table-items.ensures.writes (are_writes c.tables-table-items.result c.tables-table-items.ensures.sorted)

pub returns-clause-sorted : goal.returns-clause-sorted
returns-clause-sorted c = subst AreWrites c.tables-table-items.ensures.writes (are_writes c.tables-table-items.result c.tables-table-items.ensures.sorted)
