-- A migration has few units.
use Rattle.std.proofs.Common.{List, length, ap, arith}
use Rattle.bf_tree.specs.declared.plan.Unit.{Unit as Planned}
use Rattle.bf_image.proofs.planning.Units.{units_few}
use Rattle.bf_serve.proofs.ahead.Cursor.place.Goals as goal

pub overflow_cast-unit-in-loop-unit : goal.overflow_cast-unit-in-loop-unit
overflow_cast-unit-in-loop-unit c =
    let few = units_few c.args.migration.now c.requires.lawful in
    let same = ap (λ (us : List Planned). length us) c.as_slice-count.ensures in
    omega (arith, few, same)

pub overflow_cast-result : goal.overflow_cast-result
overflow_cast-result c =
    let few = units_few c.args.migration.now c.requires.lawful in
    let same = ap (λ (us : List Planned). length us) c.as_slice-count.ensures in
    omega (arith, few, same)
