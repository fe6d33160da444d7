use Rattle.std.proofs.Common.{◌≡◌, map, take}
use Rattle.bf_store.proofs.moving.Gathered.{alone}
use Rattle.bf_store.proofs.images.no_puts.Given as goal

-- the tables so far are there
abbrev pub invariant-loop-table : goal.invariant-loop-table
invariant-loop-table l = l.puts.items ≡ map alone (take l.table-index l.tables)
