use Rattle.std.proofs.Common.{◌≡◌, map, take}
use Rattle.std.specs.Prelude.{slice_get}
use Rattle.std.specs.List.{flat_map}
use Rattle.std.specs.Option.{option_to_list}
use Rattle.bf_heap.specs.Heaps.{Entry}
use Rattle.bf_image.proofs.parts.rows_at_all.Given as goal

abbrev pub invariant-loop-position : goal.invariant-loop-position
invariant-loop-position l = map (λ row. row.now) l.rows.items ≡ flat_map (λ at. option_to_list (slice_get (map (λ (e : Entry). e.1) l.table.rows) at)) (take l.position-index l.positions)
