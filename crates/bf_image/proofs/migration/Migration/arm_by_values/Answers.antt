use Rattle.std.proofs.Common.{◌≡◌, ◌≤◌, ◌∙◌, List, Some, length, refl, sym, ap, subst, arith}
use Rattle.std.specs.Prelude.{slice_get}
use Rattle.std.proofs.lemmas.Option.{slice_get_read}
use Rattle.bf_tree.specs.declared.plan.Unit.{Unit as Planned}
use Rattle.bf_image.specs.BoundArms.{IsOfUnit}
use Rattle.bf_image.specs.Migrations.{unit_at}
use Rattle.bf_image.proofs.planning.Units.{arm_of_unit, no_first, none_by_rows, none_past}
use Rattle.bf_image.proofs.migration.Migration.arm_by_values.Goals as goal

-- there is no such unit
pub returns-in_err-unit : goal.returns-in_err-unit
returns-in_err-unit c =
    let m = c.args.self.now in
    let past : length m.plan.units ≤ c.args.number = omega (arith, c.in_err-unit.ensures.lookup.3, ap (λ (us : List Planned). length us) c.as_slice.ensures) in
    subst (λ o. IsOfUnit m (unit_at m c.args.number) o) (sym c.from_residual.ensures) (none_past m c.requires.lawful c.args.number past)

-- a unit that goes by values has an arm
pub returns-in_err-target-in-Groups : goal.returns-in_err-target-in-Groups
returns-in_err-target-in-Groups c =
    let m = c.args.self.now in
    let unit = c.in_ok-unit.unit.now in
    let at : slice_get m.plan.units c.args.number ≡ Some unit = ap (λ us. slice_get us c.args.number) (sym c.as_slice.ensures) ∙ slice_get_read c.as_slice.result.now _ c.args.number _ refl c.in_ok-unit.ensures.lookup.3.0 c.in_ok-unit.ensures.lookup.1 in
    absurd (no_first m c.requires.lawful c.args.number unit at c.in-Groups.is (c.in_err-target-in-Groups.ensures.value ∙ ap (λ ps. slice_get ps 0) c.as_slice-in-Groups.ensures))

pub returns-in-Rows : goal.returns-in-Rows
returns-in-Rows c =
    let m = c.args.self.now in
    let unit = c.in_ok-unit.unit.now in
    let at : slice_get m.plan.units c.args.number ≡ Some unit = ap (λ us. slice_get us c.args.number) (sym c.as_slice.ensures) ∙ slice_get_read c.as_slice.result.now _ c.args.number _ refl c.in_ok-unit.ensures.lookup.3.0 c.in_ok-unit.ensures.lookup.1 in
    none_by_rows m c.requires.lawful c.args.number unit at c.in-Rows.is

pub returns-in_ok-target-in-Groups : goal.returns-in_ok-target-in-Groups
returns-in_ok-target-in-Groups c =
    let m = c.args.self.now in
    let unit = c.in_ok-unit.unit.now in
    let at : slice_get m.plan.units c.args.number ≡ Some unit = ap (λ us. slice_get us c.args.number) (sym c.as_slice.ensures) ∙ slice_get_read c.as_slice.result.now _ c.args.number _ refl c.in_ok-unit.ensures.lookup.3.0 c.in_ok-unit.ensures.lookup.1 in
    let first : slice_get unit.arms 0 ≡ Some c.in_ok-target-in-Groups.field-0.now = ap (λ ps. slice_get ps 0) (sym c.as_slice-in-Groups.ensures) ∙ sym c.in_ok-target-in-Groups.ensures.value in
    arm_of_unit m c.requires.lawful c.args.number unit c.in_ok-target-in-Groups.field-0.now c.arm.result at c.in-Groups.is first c.arm.ensures
