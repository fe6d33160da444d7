use Rattle.std.proofs.Common.{◌≡◌, ◌∙◌, ◌<◌, List, length, take, ap, arith}
use Rattle.bf_tree.specs.declared.plan.Unit.{Unit as Planned}
use Rattle.bf_image.specs.Migrations.{value_indexes}
use Rattle.bf_image.proofs.planning.Indexes.{all_indexes, next_index}
use Rattle.bf_image.proofs.planning.Units.{units_few}
use Rattle.bf_image.proofs.value_indexes.ValueIndexes.of.Goals as goal

pub overflow_cast-number : goal.overflow_cast-number
overflow_cast-number c =
    let few = units_few c.args.migration.now c.requires.lawful in
    let same = ap (λ (us : List Planned). length us) c.as_slice-count.ensures in
    omega (arith, few, same)

pub loop-number-preserved : goal.loop-number-preserved
loop-number-preserved c =
    let m = c.args.migration.now in
    let same = ap (λ (us : List Planned). length us) c.as_slice-count.ensures in
    let less : c.loop-number.number < length m.plan.units = omega (arith, same) in
    next_index m c.requires.lawful c.loop-number.number _ _ _ less c.in_ok-push.ensures.items c.loop-number.invariant c.in_ok-index_of_unit.ensures

pub returns : goal.returns
returns c =
    let m = c.args.migration.now in
    let same = ap (λ (us : List Planned). length us) c.as_slice-count.ensures in
    let all : c.loop-number.number ≡ length m.plan.units = omega (arith, same, c.loop-number-test.false, c.loop-number.auto) in
    c.loop-number.invariant ∙ ap (λ n. take n (value_indexes m)) all ∙ all_indexes m c.requires.lawful
