-- Each table's rows can stand under their keys.
use Rattle.std.proofs.Common.{◌≡◌, List, ◌∷◌, ◌++◌, sym, ap, subst, ◌∙◌}
use Rattle.std.specs.List.{AllByRecursion}
use Rattle.std.specs.Vec.Iter.{into_iter_items}
use Rattle.bf_eager.specs.Flips.{CanStand, Made}
use Rattle.bf_eager.proofs.Placing.{in_midst}
use Rattle.bf_eager.proofs.flip.heaps_of.Goals as goal

pub heap_of-requires-clause-within : goal.heap_of-requires-clause-within
heap_of-requires-clause-within c =
    let x : Made = (c.in-Some.table, c.in-Some.rows) in
    let so_far = c.loop-table.yielded in
    let rest = into_iter_items c.next.new.self in
    let whole : so_far ++ x ∷ rest ≡ c.args.made.items = ap (λ (made : List Made). so_far ++ made) (sym c.in-Some.ensures.steps.0) ∙ c.loop-table.invariant.left in
    (in_midst CanStand so_far rest x (subst (AllByRecursion CanStand) (sym whole) c.requires)).within

pub heap_of-requires-clause-keys : goal.heap_of-requires-clause-keys
heap_of-requires-clause-keys c =
    let x : Made = (c.in-Some.table, c.in-Some.rows) in
    let so_far = c.loop-table.yielded in
    let rest = into_iter_items c.next.new.self in
    let whole : so_far ++ x ∷ rest ≡ c.args.made.items = ap (λ (made : List Made). so_far ++ made) (sym c.in-Some.ensures.steps.0) ∙ c.loop-table.invariant.left in
    (in_midst CanStand so_far rest x (subst (AllByRecursion CanStand) (sym whole) c.requires)).keys
