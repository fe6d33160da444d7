use Rattle.std.proofs.Common.{◌≡◌, ℕ, ◌+◌, ◌*◌, List, ◌++◌, map, drop, Option, sym, ap, ◌∙◌, arith, append_assoc}
use Rattle.std.specs.Map.{keys_of}
use Rattle.std.proofs.lemmas.List.{map-append}
use Rattle.bf_base.specs.declared.granule.Granule.{Granule}
use Rattle.bf_base.specs.declared.granule.Place.TheVariants.{Row}
use Rattle.bf_store.specs.ByUnit.{at_place}
use Rattle.bf_store.specs.RowNumbers.{from_page, from_slot}
use Rattle.bf_store.proofs.ByUnit.{keys-append}
use Rattle.bf_store.proofs.RowNumbers.{one_page}
use Rattle.bf_store.proofs.row_numbers.RowNumbers.add_granules.Goals as goal

pub loop-page-preserved : goal.loop-page-preserved
loop-page-preserved c =
    let row : ℕ → Granule = λ n. at_place c.args.unit (Row n) in
    let ps = c.deref-slots-items.result.now in
    let i = c.loop-page.page in
    let x = c.slots-item.result in
    let so_far = c.loop-page.granules.items in
    let this : List (ℕ × ℕ) = from_slot (64 * i) x.items in
    let rest : List (ℕ × ℕ) = from_page (i + 1) (drop (i + 1) ps) in
    let first : i * 64 ≡ 64 * i = omega arith in
    let slots : from_slot (i * 64) c.deref.result.now ≡ this = ap (λ at. from_slot at c.deref.result.now) first ∙ ap (λ (os : List (Option ℕ)). from_slot (64 * i) os) c.deref.ensures.value in
    ap (λ (gs : List Granule). gs ++ map row (keys_of rest)) (c.in_ok-add_slots.ensures ∙ ap (λ (es : List (ℕ × ℕ)). so_far ++ map row (keys_of es)) slots)
    ∙ append_assoc so_far (map row (keys_of this)) (map row (keys_of rest))
    ∙ ap (λ (gs : List Granule). so_far ++ gs) (sym (map-append row (keys_of this) (keys_of rest)) ∙ ap (map row) (sym (keys-append this rest)))
    ∙ ap (λ (es : List (ℕ × ℕ)). so_far ++ map row (keys_of es)) (one_page i ps x c.loop-page-test.true c.slots-item.is)
    ∙ c.loop-page.invariant
