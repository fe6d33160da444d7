use Rattle.std.proofs.Common.{◌≡◌, ◌∙◌, ◌≤◌, List, length, take, ap, subst, sym, arith}
use Rattle.bf_tree.specs.declared.plan.Unit.{Unit as Planned}
use Rattle.bf_image.proofs.planning.Units.{units_few}
use Rattle.bf_trackers.specs.declared.units.Shape.{Shape}
use Rattle.bf_trackers.specs.Migrations.{shapes_of}
use Rattle.bf_trackers.proofs.Shapes.{all_shapes, few_shapes, next_shape}
use Rattle.bf_trackers.proofs.trackers.shapes.Goals as goal

pub overflow_cast-number : goal.overflow_cast-number
overflow_cast-number c =
    let few = units_few c.args.migration.now c.requires.lawful in
    let same = ap (λ (us : List Planned). length us) c.as_slice-count.ensures in
    omega (arith, few, same)

pub loop-number-preserved : goal.loop-number-preserved
loop-number-preserved c =
    next_shape c.args.migration.now c.requires.lawful c.loop-number.number _ _ _ c.in_ok-push.ensures.items c.loop-number.invariant c.shape.ensures

pub returns-clause-shapes : goal.returns-clause-shapes
returns-clause-shapes c =
    let m = c.args.migration.now in
    let same = ap (λ (us : List Planned). length us) c.as_slice-count.ensures in
    let all : c.loop-number.number ≡ length m.plan.units = omega (arith, same, c.loop-number-test.false, c.loop-number.auto) in
    c.loop-number.invariant ∙ ap (λ n. take n (shapes_of m)) all ∙ all_shapes m c.requires.lawful

pub returns-clause-few : goal.returns-clause-few
returns-clause-few c =
    let m = c.args.migration.now in
    let same = ap (λ (us : List Planned). length us) c.as_slice-count.ensures in
    let all : c.loop-number.number ≡ length m.plan.units = omega (arith, same, c.loop-number-test.false, c.loop-number.auto) in
    let whole : c.loop-number.shapes.items ≡ shapes_of m = c.loop-number.invariant ∙ ap (λ n. take n (shapes_of m)) all ∙ all_shapes m c.requires.lawful in
    subst (λ (ss : List Shape). length ss ≤ 256) (sym whole) (few_shapes m c.requires.lawful)
