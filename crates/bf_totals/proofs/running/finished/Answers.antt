use Rattle.std.proofs.Common.{refl, map, ◌∙◌, sym, ap, subst, length, ◌<◌, ◌≡◌, ◌++◌, ◌∷◌, arith, get_or}
use Rattle.std.specs.Vec.Iter.{into_iter_items}
use Rattle.std.proofs.lemmas.List.{length-map, length-append, get_or_at, get_or-map}
use Rattle.bf_totals.specs.RunningTotals.{RunningTotal, IsCountable, running_total}
use Rattle.bf_totals.proofs.running.finished.Goals as goal

pub finish-requires : goal.finish-requires
finish-requires c =
    let total = c.in-Some.total in
    let n = length c.loop-total.yielded in
    let step = c.in-Some.ensures.steps in
    let whole : c.loop-total.yielded ++ total ∷ into_iter_items c.next.new.self ≡ c.args.running.items = ap (λ r. c.loop-total.yielded ++ r) (sym step.0) ∙ c.loop-total.invariant.left in
    let lt : n < length c.args.running.items = omega (arith, ap length whole, length-append c.loop-total.yielded (total ∷ into_iter_items c.next.new.self)) in
    let lt_map : n < length (map running_total c.args.running.items) = simp length-map lt in
    let there : get_or c.args.running.items n total ≡ total = ap (λ l. get_or l n total) (sym whole) ∙ get_or_at c.loop-total.yielded total (into_iter_items c.next.new.self) total n refl in
    let here : get_or (map running_total c.args.running.items) n (running_total total) ≡ running_total total = get_or-map running_total c.args.running.items n total (running_total total) lt ∙ ap running_total there in
    subst (λ (s : RunningTotal). IsCountable s) here (c.requires n (running_total total) lt_map)
