use Rattle.std.proofs.Common.{◌≡◌, ℕ, List, ◌++◌, map, sym, ap, ap₂, ◌∙◌, append_assoc}
use Rattle.std.proofs.lemmas.List.{append-nil}
use Rattle.std.specs.Map.{keys_of}
use Rattle.bf_base.specs.declared.granule.Granule.{Granule}
use Rattle.bf_base.specs.declared.granule.Place.TheVariants.{Row, Group}
use Rattle.bf_base.specs.declared.value.Value.{Value}
use Rattle.bf_store.specs.ByUnit.{at_place, of_rows, of_values}
use Rattle.bf_store.proofs.ByUnit.{keys-append, keys-named}
use Rattle.bf_store.proofs.unit_marks.UnitMarks.add_granules.Goals as goal

pub returns : goal.returns
returns c =
    let u = c.args.unit in
    let row : ℕ → Granule = λ n. at_place u (Row n) in
    let value : List Value → Granule = λ v. at_place u (Group v) in
    let m = c.args.self.now in
    let before = c.args.granules.now.items in
    let between = c.add_granules.new.granules.items in
    let all = c.loop-value.granules.items in
    let values : all ≡ between ++ map value (keys_of m.values.entries) =
    sym (append-nil all) ∙ ap (λ (vs : List (List Value)). all ++ map value vs) (sym c.in-None.ensures.steps.0) ∙ c.loop-value.invariant
    ∙ ap (λ (vs : List (List Value)). between ++ map value vs) (c.into_iter-value-iterator.ensures.into_iter_gives ∙ c.keys-value-items.ensures.rest)
    in
    values ∙ ap (λ (gs : List Granule). gs ++ map value (keys_of m.values.entries)) c.in_ok-add_granules.ensures
    ∙ append_assoc before (map row (keys_of m.rows)) (map value (keys_of m.values.entries))
    ∙ ap (λ (gs : List Granule). before ++ gs)
    (sym (keys-append (of_rows u m.rows) (of_values u m.values.entries) ∙ ap₂ (λ (gs hs : List Granule). gs ++ hs) (keys-named row m.rows) (keys-named value m.values.entries)))
