use Rattle.std.proofs.Common.{◌≡◌, map, take}
use Rattle.bf_eager.specs.Sorting.{rows_made, table_alone}
use Rattle.bf_eager.proofs.gathering.tables_alone.Given as goal

-- the tables so far
abbrev pub invariant-loop-table : goal.invariant-loop-table
invariant-loop-table l = rows_made l.made.items ≡ map table_alone (take l.table-index l.migration.plan.tables)
