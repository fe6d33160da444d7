use Rattle.std.proofs.Common.{◌≡◌, [], map, take}
use Rattle.bf_live.specs.Live.{held_in}
use Rattle.bf_store.proofs.flip.without_rows.Given as goal

abbrev pub invariant-loop-table : goal.invariant-loop-table
invariant-loop-table l = held_in l.new.items ≡ map (λ table. (table, [])) (take l.table-index l.tables)
