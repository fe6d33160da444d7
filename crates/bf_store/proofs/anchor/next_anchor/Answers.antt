use Rattle.std.proofs.Common.{◌+◌, ◌≤◌, length, sym, ap, ◌∙◌, arith}
use Rattle.std.specs.Option.{option_map}
use Rattle.bf_image.specs.Migrations.{units_in}
use Rattle.bf_image.proofs.planning.Units.{units_few}
use Rattle.bf_store.specs.Anchors.{anchor_of}
use Rattle.bf_store.proofs.moving.Anchoring.{found_here, next_unit, none_behind, none_here, units_counted}
use Rattle.bf_store.proofs.anchor.next_anchor.Goals as goal

pub overflow_cast-unit : goal.overflow_cast-unit
overflow_cast-unit c =
    let few : length c.args.migration.now.plan.units ≤ 12 = units_few c.args.migration.now c.requires.lawful in
    omega (arith, few, c.loop-number-test.true, c.len-number-end.ensures)

pub returns : goal.returns
returns c =
    let m = c.args.migration.now in
    let past : length (units_in m) ≤ c.loop-number.number = omega (arith, units_counted m c.requires.lawful, c.loop-number-test.false, c.len-number-end.ensures) in
    sym (ap (option_map anchor_of) (c.loop-number.invariant ∙ none_behind m c.args.done.now c.loop-number.number c.loop-number.position past))

pub returns-in-Some : goal.returns-in-Some
returns-in-Some c =
    let m = c.args.migration.now in
    let there : c.loop-number.number + 1 ≤ length (units_in m) = omega (arith, units_counted m c.requires.lawful, c.loop-number-test.true, c.len-number-end.ensures) in
    found_here m c.args.done.now c.loop-number.number c.loop-number.position there c.in-Some.position (sym c.in_ok-position.ensures ∙ c.in-Some.is)
    ∙ ap (option_map anchor_of) (sym c.loop-number.invariant)

pub loop-number-preserved : goal.loop-number-preserved
loop-number-preserved c =
    let m = c.args.migration.now in
    let there : c.loop-number.number + 1 ≤ length (units_in m) = omega (arith, units_counted m c.requires.lawful, c.loop-number-test.true, c.len-number-end.ensures) in
    let none = none_here m c.args.done.now c.loop-number.number c.loop-number.position (sym c.in_default.is ∙ c.in_ok-position.ensures) in
    c.loop-number.invariant ∙ next_unit m c.args.done.now c.loop-number.number c.loop-number.position there none
