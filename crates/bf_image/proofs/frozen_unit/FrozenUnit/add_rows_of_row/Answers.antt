use Rattle.std.proofs.Common.{◌≡◌, ◌<◌, ◌≤◌, List, length, get_or, ap, subst, ◌∙◌}
use Rattle.std.specs.Option.{option_to_list}
use Rattle.bf_image.specs.declared.arms.FrozenArm.{FrozenArm}
use Rattle.bf_image.proofs.parting.UnitTables.{arm_bound, arm_by_row, arm_makes_any, has_driver, more_of_arm, part_of_arms, row_of_unit}
use Rattle.bf_image.proofs.frozen_unit.FrozenUnit.add_rows_of_row.Goals as goal

pub row_of_driver-requires-clause-by_row : goal.row_of_driver-requires-clause-by_row
row_of_driver-requires-clause-by_row c =
    let unit = c.args.self.now in
    let has = has_driver unit c.requires.unit c.requires.by_rows in
    let arm = c.arm-item.result in
    let i = c.loop-arm.arm-index in
    let within : i < length unit.arms.items = subst (λ (arms : List FrozenArm). i < length arms) c.deref-arm-items.ensures.value c.loop-arm-test.true in
    let here : arm ≡ get_or unit.arms.items i arm = c.arm-item.is ∙ ap (λ arms. get_or arms i arm) c.deref-arm-items.ensures.value in
    arm_by_row unit.migration.now unit.number unit.arms.items has.driver.now has.goes c.requires.unit.lawful i arm within here

pub row_of_driver-requires-clause-plain : goal.row_of_driver-requires-clause-plain
row_of_driver-requires-clause-plain c =
    let unit = c.args.self.now in
    let has = has_driver unit c.requires.unit c.requires.by_rows in
    let arm = c.arm-item.result in
    let i = c.loop-arm.arm-index in
    let within : i < length unit.arms.items = subst (λ (arms : List FrozenArm). i < length arms) c.deref-arm-items.ensures.value c.loop-arm-test.true in
    let here : arm ≡ get_or unit.arms.items i arm = c.arm-item.is ∙ ap (λ arms. get_or arms i arm) c.deref-arm-items.ensures.value in
    arm_makes_any unit.migration.now unit.number unit.arms.items has.driver.now has.goes c.requires.unit.lawful i arm within here

pub loop-arm-preserved : goal.loop-arm-preserved
loop-arm-preserved c = λ driver goes at there.
    let unit = c.args.self.now in
    let m = unit.migration.now in
    let lawful = c.requires.unit.lawful in
    let arm = c.arm-item.result in
    let i = c.loop-arm.arm-index in
    let within : i < length unit.arms.items = subst (λ (arms : List FrozenArm). i < length arms) c.deref-arm-items.ensures.value c.loop-arm-test.true in
    let here : arm ≡ get_or unit.arms.items i arm = c.arm-item.is ∙ ap (λ arms. get_or arms i arm) c.deref-arm-items.ensures.value in
    let bound = arm_bound m unit.number unit.arms.items driver goes lawful i arm within here in
    more_of_arm m unit.number unit.arms.items driver goes lawful i arm within here at c.args.row.now there (option_to_list c.in_ok-row_of_driver.field-0)
    (λ by_from. c.in_ok-row_of_driver.ensures.from m _ _ lawful bound by_from) (λ by_join. c.in_ok-row_of_driver.ensures.join m _ _ lawful bound by_join)
    c.args.rows.now.items c.loop-arm.rows.items c.add_row.new.rows.items c.in_ok-add_row.ensures (c.loop-arm.invariant driver goes at there)

pub returns : goal.returns
returns c = λ at here.
    let unit = c.args.self.now in
    let has = has_driver unit c.requires.unit c.requires.by_rows in
    let past = subst (λ (arms : List FrozenArm). length arms ≤ c.loop-arm.arm-index) c.deref-arm-items.ensures.value c.loop-arm-test.false in
    part_of_arms unit.migration.now unit.number unit.arms.items has.driver.now has.goes c.requires.unit.lawful at c.loop-arm.arm-index past
    c.args.rows.now.items c.loop-arm.rows.items
    (c.loop-arm.invariant has.driver.now has.goes at (row_of_unit unit has at c.args.row.now here))
