-- Each unit goes by rows, or by values of FROM, with those of JOIN where there is one.
use Rattle.std.proofs.Common.{◌≡◌, List, ◌++◌, None, Option, Some, slice_get, ap, ◌∙◌}
use Rattle.std.specs.Option.{option_and_then}
use Rattle.std.proofs.lemmas.Result.{on_ok_weaker}
use Rattle.bf_base.specs.declared.granule.Granule.{Granule}
use Rattle.bf_image.specs.Migrations.{value_indexes}
use Rattle.bf_image.specs.declared.value_indexes.UnitIndex.{UnitIndex}
use Rattle.bf_transpose.specs.Scans.{row_granules}
use Rattle.bf_transpose.proofs.Units.{granules_indexed, rows_of_unit}
use Rattle.bf_transpose.proofs.scan.add_unit.Goals as goal

pub returns-in-None : goal.returns-in-None
returns-in-None c =
    let m = c.args.migration.now in
    let unit = c.args.unit in
    let before = c.args.granules.now.items in
    let none : None ≡ option_and_then (λ (i : Option UnitIndex). i) (slice_get (value_indexes m) unit) =
    c.in-None.ensures ∙ ap (λ (is : List (Option UnitIndex)). option_and_then (λ (i : Option UnitIndex). i) (slice_get is unit)) c.requires.indexed in
    on_ok_weaker c.add_rows.result
    (λ added. added ∙ ap (λ (gs : List Granule). before ++ gs) (ap (row_granules unit) c.positions.ensures ∙ rows_of_unit m unit none))
    c.add_rows.ensures

pub returns-in-Some : goal.returns-in-Some
returns-in-Some c =
    let m = c.args.migration.now in
    let unit = c.args.unit in
    let before = c.args.granules.now.items in
    let some : Some c.in-Some.index.now ≡ option_and_then (λ (i : Option UnitIndex). i) (slice_get (value_indexes m) unit) =
    c.in-Some.ensures ∙ ap (λ (is : List (Option UnitIndex)). option_and_then (λ (i : Option UnitIndex). i) (slice_get is unit)) c.requires.indexed in
    on_ok_weaker c.add_indexed.result
    (λ added. added ∙ ap (λ (gs : List Granule). before ++ gs) (granules_indexed m unit c.requires.lawful c.in-Some.index.now some))
    c.add_indexed.ensures
