use Rattle.bf_live.proofs.querying.RowsAsEntries.{hold_rows}
use Rattle.bf_query.proofs.meaning.rows_of_a_database_are_entries.Goals as goal

pub returns : goal.returns
returns c = hold_rows
