-- The rows that a pass has before it, wherever they come from.
use Rattle.std.specs.Prelude.{List, map}
use Rattle.bf_heap.specs.Heaps.{Entry}
use Rattle.bf_query.specs.declared.rows_ahead.Listed.{Listed as ListedRows}
use Rattle.bf_query.specs.declared.rows_ahead.RowsAhead.{RowsAhead}
use Rattle.bf_query.specs.declared.rows_ahead.RowsAhead.TheVariants.{InRange, Listed}

abbrev pub listed_entries : ListedRows → List Entry
listed_entries listed = map (λ entry. (entry.0, entry.1.now)) listed.rows.now

-- with their keys
abbrev pub entries_ahead : RowsAhead → List Entry
entries_ahead (InRange cursor) = cursor
entries_ahead (Listed listed) = listed_entries listed
