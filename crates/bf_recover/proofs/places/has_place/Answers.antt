use Rattle.std.proofs.Common.{Option, ap, ◌∙◌}
use Rattle.std.specs.Prelude.{slice_get}
use Rattle.std.specs.Option.{option_and_then}
use Rattle.bf_image.specs.declared.value_indexes.UnitIndex.{UnitIndex}
use Rattle.bf_recover.specs.Places.{is_row_below}
use Rattle.bf_recover.proofs.Known.{places_by_row, places_by_value}
use Rattle.bf_recover.proofs.places.has_place.Goals as goal

pub returns-in-Some : goal.returns-in-Some
returns-in-Some c =
    let indexed = ap (λ is. option_and_then (λ (index : Option UnitIndex). index) (slice_get is c.args.unit)) c.requires.indexed in
    c.is_value_of.ensures ∙ places_by_value c.args.migration.now c.requires.lawful c.args.unit c.in-Some.index.now (c.in-Some.ensures ∙ indexed) c.args.place.now

pub returns-in-None : goal.returns-in-None
returns-in-None c =
    let indexed = ap (λ is. option_and_then (λ (index : Option UnitIndex). index) (slice_get is c.args.unit)) c.requires.indexed in
    c.is_row_below.ensures ∙ ap (λ n. is_row_below n c.args.place.now) c.positions.ensures ∙ places_by_row c.args.migration.now c.requires.lawful c.args.unit (c.in-None.ensures ∙ indexed) c.args.place.now
