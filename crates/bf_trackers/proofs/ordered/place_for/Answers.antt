-- What a granule's place among others is: behind the last, or where a search ends.
use Rattle.std.proofs.Common.{◌≡◌, ◌∙◌, length, ap, subst, sym, Ordering, Less, Equal, Greater}
use Rattle.std.specs.List.{HoldsAt}
use Rattle.std.specs.List.Sorted.{IsNonDecreasingBy, IsPartitionPoint}
use Rattle.std.specs.Ordering.{ordering_index}
use Rattle.bf_base.specs.declared.granule.Granule.{Granule}
use Rattle.bf_base.proofs.Order.{less_from_test}
use Rattle.bf_store.specs.States.{granule_cmp}
use Rattle.bf_store.proofs.Granules.{derived_is}
use Rattle.bf_trackers.proofs.Rising.{goes_behind, goes_in, is_there, searchable}
use Rattle.bf_trackers.proofs.ordered.place_for.Goals as goal

pub returns-clause-new : goal.returns-clause-new
returns-clause-new c =
    let gs = c.args.granules.now in
    let g = c.args.granule.now in
    let last = c.in-Some.last.now in
    let less : granule_cmp last g ≡ Less = ap (λ (cmp : Granule → Granule → Ordering). cmp last g) (sym derived_is) ∙ sym c.cmp.ensures ∙ less_from_test c.cmp.result (sym c.is_lt.ensures ∙ c.if-is_lt.true) in
    goes_in gs g (length gs) (goes_behind gs g last c.requires.rising c.in-Some.ensures.value less)

pub returns-in-Ok-clause-there : goal.returns-in-Ok-clause-there
returns-in-Ok-clause-there c =
    let gs = c.args.granules.now in
    let g = c.args.granule.now in
    let place = c.in-Ok.field-0 in
    is_there gs g place c.in-Ok.ensures.bound (subst (λ (cmp : Granule → Granule → Ordering). HoldsAt (λ (h : Granule). cmp h g ≡ Equal) gs place) derived_is c.in-Ok.ensures.position)

pub returns-in-Err-clause-new : goal.returns-in-Err-clause-new
returns-in-Err-clause-new c =
    let gs = c.args.granules.now in
    let g = c.args.granule.now in
    let place = c.in-Err.place in
    let parted = subst (λ (cmp : Granule → Granule → Ordering). IsNonDecreasingBy (λ (h : Granule). ordering_index (cmp h g)) gs → IsPartitionPoint (λ (h : Granule). cmp h g ≡ Less) (λ (h : Granule). cmp h g ≡ Greater) gs place) derived_is c.in-Err.ensures.position in
    goes_in gs g place (parted (searchable gs g c.requires.rising))
