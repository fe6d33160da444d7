use Rattle.std.proofs.Common.{sym}
use Rattle.bf_bind.proofs.Columns.{column_at-table}
use Rattle.bf_bind.proofs.scope.column_at.Goals as goal

pub returns : goal.returns
returns c =
    rw c.kind_of_column.ensures (sym (column_at-table c.args.table.now c.args.place c.index-as_slice-place.result c.requires.there (rw c.as_slice.ensures at c.index-as_slice-place.is)))
