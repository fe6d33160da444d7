use Rattle.bf_live.proofs.querying.AsWritten.{reply_law, database_law}
use Rattle.bf_live.proofs.querying.Binding.{stored_table}
use Rattle.bf_live.proofs.querying.RowsAsEntries.{hold_rows}
use Rattle.bf_live.specs.Meanings.{entries_of}
use Rattle.std.proofs.Common.{[]}
use Rattle.bf_sql.specs.Database.{table_rows}
use Rattle.bf_query.proofs.meaning.a_bound_change_means_what_is_written.Goals as goal

pub returns : goal.returns
returns c = record {
  reply = reply_law;
  database = database_law;
  over_the_rows = λ commit db in_block s act table bound is on.
      database_law commit db in_block s act table (entries_of table (table_rows db table.name)) [] bound is on (hold_rows db table bound.database (stored_table db in_block s act table bound on));
}
