use Rattle.bf_sql.proofs.extents.Rows.{row_held}
use Rattle.bf_sql.proofs.extent_laws.an_admitted_row_is_read_so.Goals as goal

pub returns : goal.returns
returns c = row_held
