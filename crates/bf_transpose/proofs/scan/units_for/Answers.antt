use Rattle.std.proofs.Common.{ℕ, ◌+◌, ◌≤◌, List, Option, length, slice_get, refl, sym, ap, subst, ◌∙◌, arith}
use Rattle.std.proofs.lemmas.List.{length_push}
use Rattle.std.proofs.lemmas.Option.{slice_get_read}
use Rattle.bf_tree.specs.declared.plan.Unit.{Unit as Planned}
use Rattle.bf_image.specs.declared.frozen_unit.FrozenUnit.{FrozenUnit}
use Rattle.bf_image.proofs.planning.Units.{units_few}
use Rattle.bf_transpose.proofs.Looked.{AreUnitsTo, all_units, one_more_unit}
use Rattle.bf_transpose.proofs.scan.units_for.Goals as goal

pub loop-number-init : goal.loop-number-init
loop-number-init c = record { counted = ap length c.in_ok-units.ensures.items; each = λ n below. absurd (omega (arith, below)) }

pub overflow_cast-number : goal.overflow_cast-number
overflow_cast-number c =
    let few : length c.args.migration.now.plan.units ≤ 12 = units_few c.args.migration.now c.requires.lawful in
    omega (arith, few, c.loop-number-test.true, ap (λ (us : List Planned). length us) c.as_slice-planned.ensures)

pub unit_for-requires-clause-planned : goal.unit_for-requires-clause-planned
unit_for-requires-clause-planned c =
    let n = c.loop-number.number in
    ap (λ (us : List Planned). slice_get us n) (sym c.as_slice-planned.ensures) ∙ slice_get_read c.as_slice-planned.result.now _ n _ refl c.loop-number-test.true c.index-planned-number.is

pub loop-number-preserved : goal.loop-number-preserved
loop-number-preserved c =
    let m = c.args.migration.now in
    let before = c.loop-number.units.items in
    let n = c.loop-number.number in
    let unit = c.in_ok-unit_for.field-0 in
    let pushed = c.in_ok-push.ensures.items in
    record {
      counted = ap length pushed ∙ (length_push before unit ∙ ap (λ (k : ℕ). k + 1) c.loop-number.invariant.counted);
      each = subst (λ (units : List (Option FrozenUnit)). AreUnitsTo m c.args.target (n + 1) units) (sym pushed)
          (one_more_unit m c.args.target before n c.loop-number.invariant.counted c.loop-number.invariant.each unit c.in_ok-unit_for.ensures);
    }

pub returns : goal.returns
returns c =
    let all : length c.args.migration.now.plan.units ≤ c.loop-number.number = omega (arith, c.loop-number-test.false, ap (λ (us : List Planned). length us) c.as_slice-planned.ensures) in
    all_units c.args.migration.now c.args.target c.loop-number.units.items c.loop-number.number c.loop-number.invariant.counted all c.loop-number.invariant.each
