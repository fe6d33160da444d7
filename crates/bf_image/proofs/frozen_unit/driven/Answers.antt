use Rattle.std.proofs.Common.{◌≡◌, ◌≤◌, ◌∙◌, List, Some, None, length, refl, sym, ap, arith}
use Rattle.std.specs.Prelude.{slice_get}
use Rattle.std.proofs.lemmas.Option.{slice_get_past, slice_get_read}
use Rattle.bf_base.specs.declared.granule.Place.TheVariants.{Row}
use Rattle.bf_tree.specs.declared.plan.Unit.{Unit as Planned}
use Rattle.bf_tree.specs.declared.plan.UnitKind.TheVariants.{Rows}
use Rattle.bf_image.proofs.parting.UnitParts.{part_planned, part_by_values}
use Rattle.bf_image.proofs.parting.UnitTables.{driven_by}
use Rattle.bf_image.proofs.planning.Units.{planned_as}
use Rattle.bf_image.proofs.frozen_unit.driven.Goals as goal

-- there is no such unit
pub returns-in_default : goal.returns-in_default
returns-in_default c = λ at.
    let m = c.args.migration.now in
    let past : length m.plan.units ≤ c.args.number = omega (arith, c.in_default.ensures.lookup.3, ap (λ (us : List Planned). length us) c.as_slice.ensures) in
    part_planned m c.args.number (Row at) c.requires.lawful None (slice_get_past m.plan.units c.args.number past)

pub arms_of-requires-clause-planned : goal.arms_of-requires-clause-planned
arms_of-requires-clause-planned c =
    let m = c.args.migration.now in
    let unit = c.in-Some.unit.now in
    let there : slice_get m.plan.units c.args.number ≡ Some unit =
    ap (λ us. slice_get us c.args.number) (sym c.as_slice.ensures)
    ∙ slice_get_read c.as_slice.result.now _ c.args.number _ refl c.in-Some.ensures.lookup.3.0 c.in-Some.ensures.lookup.1 in
    planned_as m c.requires.lawful c.args.number unit there Rows c.in-Rows.is

pub returns-in_ok-arms-in-Rows : goal.returns-in_ok-arms-in-Rows
returns-in_ok-arms-in-Rows c =
    let m = c.args.migration.now in
    let unit = c.in-Some.unit.now in
    let there : slice_get m.plan.units c.args.number ≡ Some unit =
    ap (λ us. slice_get us c.args.number) (sym c.as_slice.ensures)
    ∙ slice_get_read c.as_slice.result.now _ c.args.number _ refl c.in-Some.ensures.lookup.3.0 c.in-Some.ensures.lookup.1 in
    driven_by m c.args.number c.in_ok-arms-in-Rows.arms.items c.requires.lawful unit there c.in-Rows.is c.in_ok-arms-in-Rows.ensures _ c.source.ensures

pub returns-in-Groups : goal.returns-in-Groups
returns-in-Groups c = λ at.
    let m = c.args.migration.now in
    let unit = c.in-Some.unit.now in
    let there : slice_get m.plan.units c.args.number ≡ Some unit =
    ap (λ us. slice_get us c.args.number) (sym c.as_slice.ensures)
    ∙ slice_get_read c.as_slice.result.now _ c.args.number _ refl c.in-Some.ensures.lookup.3.0 c.in-Some.ensures.lookup.1 in
    part_by_values m c.requires.lawful c.args.number at unit there c.in-Groups.is
