use Rattle.std.proofs.Common.{◌≡◌, false, [], ◌∷◌, map, take}
use Rattle.std.specs.Prelude.{slice_get}
use Rattle.std.specs.List.{list_any}
use Rattle.std.specs.Option.{option_to_list}
use Rattle.bf_heap.specs.Heaps.{Entry}
use Rattle.bf_image.specs.Giving.{makes_any}
use Rattle.bf_image.proofs.giving.makes_any_of.Given as goal

-- none of the rows of JOIN so far serves
abbrev pub invariant-loop-position : goal.invariant-loop-position
invariant-loop-position l =
    list_any (λ at. makes_any l.arm.placed.now (l.from ∷ []) (option_to_list (slice_get (map (λ (e : Entry). e.1) l.table.rows) at))) (take l.position-index l.join) ≡ false
