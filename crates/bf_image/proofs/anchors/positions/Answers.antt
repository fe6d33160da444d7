use Rattle.std.proofs.Common.{◌≡◌, ◌≤◌, ◌∙◌, List, Some, length, refl, sym, ap, arith}
use Rattle.std.specs.Prelude.{slice_get}
use Rattle.std.proofs.lemmas.Option.{slice_get_read}
use Rattle.bf_tree.specs.declared.plan.Unit.{Unit as Planned}
use Rattle.bf_image.proofs.cutting.Swept.{anchors_by_rows, anchors_by_values, anchors_past, has_few_rows}
use Rattle.bf_image.proofs.anchors.positions.Goals as goal

pub value_count-requires : goal.value_count-requires
value_count-requires c = has_few_rows c.args.migration.now c.requires.lawful c.args.unit c.in-Some.arm c.in-Some.ensures

pub returns-in-Some : goal.returns-in-Some
returns-in-Some c = c.value_count.ensures ∙ sym (anchors_by_values c.args.migration.now c.requires.lawful c.args.unit c.in-Some.arm c.in-Some.ensures)

pub returns-in-Some-get : goal.returns-in-Some-get
returns-in-Some-get c =
    let m = c.args.migration.now in
    let unit = c.in-Some-get.planned.now in
    let at : slice_get m.plan.units c.args.unit ≡ Some unit = ap (λ us. slice_get us c.args.unit) (sym c.as_slice.ensures) ∙ slice_get_read c.as_slice.result.now _ c.args.unit _ refl c.in-Some-get.ensures.lookup.3.0 c.in-Some-get.ensures.lookup.1 in
    c.row_count.ensures ∙ sym (anchors_by_rows m c.requires.lawful c.args.unit c.in_default.ensures unit at)

pub returns-in-None : goal.returns-in-None
returns-in-None c =
    let m = c.args.migration.now in
    let past : length m.plan.units ≤ c.args.unit = omega (arith, c.in-None.ensures.lookup.3, ap (λ (us : List Planned). length us) c.as_slice.ensures) in
    sym (anchors_past m c.requires.lawful c.args.unit past)
