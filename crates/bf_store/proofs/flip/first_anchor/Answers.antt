-- A unit without anchors is passed over.
use Rattle.std.proofs.Common.{◌<◌, ◌≤◌, length, sym, ◌∙◌, arith}
use Rattle.bf_image.specs.Migrations.{old_of, units_in}
use Rattle.bf_image.proofs.planning.Units.{units_few}
use Rattle.bf_store.proofs.aside.Anchors.{count_at, here_first, none_behind, passed_over}
use Rattle.bf_store.proofs.moving.Anchoring.{units_counted}
use Rattle.bf_store.proofs.flip.first_anchor.Goals as goal

pub overflow_cast-unit : goal.overflow_cast-unit
overflow_cast-unit c = omega (arith, units_few c.args.migration.now c.requires, c.len-number-end.ensures)

pub returns-then-positions-gt0 : goal.returns-then-positions-gt0
returns-then-positions-gt0 c =
    let m = c.args.migration.now in
    let n = c.loop-number.number in
    let within : n < length (units_in m) = omega (arith, units_counted m c.requires, c.len-number-end.ensures) in
    let some : 0 < count_at (old_of m) (units_in m) n = omega (arith, c.positions.ensures, c.if-positions-gt0.true) in
    sym (here_first (old_of m) (units_in m) n within some) ∙ c.loop-number.invariant

pub loop-number-preserved : goal.loop-number-preserved
loop-number-preserved c =
    let m = c.args.migration.now in
    let n = c.loop-number.number in
    let within : n < length (units_in m) = omega (arith, units_counted m c.requires, c.len-number-end.ensures) in
    let none : count_at (old_of m) (units_in m) n ≤ 0 = omega (arith, c.positions.ensures, c.if-positions-gt0.false) in
    sym (passed_over (old_of m) (units_in m) n within none) ∙ c.loop-number.invariant

pub returns : goal.returns
returns c =
    let m = c.args.migration.now in
    let n = c.loop-number.number in
    let past : length (units_in m) ≤ n = omega (arith, units_counted m c.requires, c.len-number-end.ensures, c.loop-number-test.false) in
    sym (none_behind (old_of m) (units_in m) n past) ∙ c.loop-number.invariant
