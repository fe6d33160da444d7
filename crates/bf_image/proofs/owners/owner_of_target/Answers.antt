use Rattle.std.proofs.Common.{◌<◌, sym, ◌∙◌, arith, rules}
use Rattle.bf_image.proofs.owning.Found.{all_left, found_here, left_past, none_left}
use Rattle.bf_image.proofs.planning.Units.{units_few}
use Rattle.bf_image.proofs.owners.owner_of_target.Goals as goal

pub loop-number-init : goal.loop-number-init
loop-number-init c = all_left c.args.migration.now c.requires.lawful c.args.target c.requires.there c.args.key.now

pub overflow_cast-unit : goal.overflow_cast-unit
overflow_cast-unit c =
    let few = units_few c.args.migration.now c.requires.lawful in
    let below : c.loop-number.number < 256 = omega (arith, few, c.loop-number-test.true, c.len-number-end.ensures) in
    search rules

pub returns-in-Some : goal.returns-in-Some
returns-in-Some c =
    found_here c.args.migration.now c.requires.lawful c.args.target c.requires.there c.args.key.now c.loop-number.number
    (omega (arith, c.loop-number-test.true, c.len-number-end.ensures)) c.in-Some.owner (sym c.in-Some.is ∙ c.in_ok-owner.ensures) c.loop-number.invariant

pub loop-number-preserved : goal.loop-number-preserved
loop-number-preserved c =
    left_past c.args.migration.now c.requires.lawful c.args.target c.requires.there c.args.key.now c.loop-number.number
    (omega (arith, c.loop-number-test.true, c.len-number-end.ensures)) (sym c.in_default.is ∙ c.in_ok-owner.ensures) c.loop-number.invariant

pub returns : goal.returns
returns c =
    none_left c.args.migration.now c.requires.lawful c.args.target c.requires.there c.args.key.now c.loop-number.number
    (omega (arith, c.loop-number-test.false, c.len-number-end.ensures)) c.loop-number.invariant
