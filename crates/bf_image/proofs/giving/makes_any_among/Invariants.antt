use Rattle.std.proofs.Common.{◌≡◌, false, map, take}
use Rattle.std.specs.Prelude.{option_map, slice_get}
use Rattle.std.specs.List.{list_any}
use Rattle.std.specs.Option.{option_to_list}
use Rattle.bf_heap.specs.Heaps.{Entry}
use Rattle.bf_image.specs.BoundArms.{entries_of}
use Rattle.bf_image.specs.Giving.{makes_any}
use Rattle.bf_image.proofs.parting.ValueRows.{rows_at}
use Rattle.bf_image.proofs.giving.makes_any_among.Given as goal

-- none of the rows of FROM so far serves
abbrev pub invariant-loop-position : goal.invariant-loop-position
invariant-loop-position l =
    list_any (λ at. makes_any l.arm.placed.now (option_to_list (slice_get (map (λ (e : Entry). e.1) l.arm.from.now.rows) at))
    (rows_at (map (λ (e : Entry). e.1) (entries_of (option_map (λ j. j.now) l.arm.join))) l.join)) (take l.position-index l.from) ≡ false
