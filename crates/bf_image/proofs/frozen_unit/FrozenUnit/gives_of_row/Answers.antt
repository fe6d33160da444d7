use Rattle.std.proofs.Common.{arith}
use Rattle.bf_image.proofs.parting.UnitTables.{has_driver, row_of_unit}
use Rattle.bf_image.proofs.giving.FrozenRows.{none_at_all, none_made, none_of_others, unit_gives}
use Rattle.bf_image.proofs.frozen_unit.FrozenUnit.gives_of_row.Goals as goal
use Rattle.bf_image.proofs.frozen_unit.FrozenUnit.gives_of_row.Goals.{else-arm-target-via-then-arm-target+in_ok-gives_of_driver+else-branch, else-arm-target-via-else-arm-target}

pub returns-then-branch : goal.returns-then-branch
returns-then-branch c = λ at here.
    let unit = c.args.self.now in
    let has = has_driver unit c.requires.unit c.requires.by_rows in
    unit_gives unit c.requires.unit has at c.args.target c.requires.there c.args.row.now (row_of_unit unit has at c.args.row.now here)
    c.deref-arm-items.result.now c.deref-arm-items.ensures.value c.loop-arm.arm-index c.arm-item.result c.loop-arm-test.true c.arm-item.is
    c.in_ok-gives_of_driver.field-0 c.in_ok-gives_of_driver.ensures.from c.in_ok-gives_of_driver.ensures.join c.if-arm-target.true c.if-branch.true

pub loop-arm-preserved : goal.loop-arm-preserved
loop-arm-preserved c = λ has at there.
    let unit = c.args.self.now in
    elim c.else-arm-target.branch [
      | else-arm-target-via-then-arm-target+in_ok-gives_of_driver+else-branch w ↦
          none_made unit c.requires.unit has at c.args.target c.requires.there c.args.row.now there
          c.deref-arm-items.result.now c.deref-arm-items.ensures.value c.loop-arm.arm-index c.arm-item.result c.loop-arm-test.true c.arm-item.is
          w.in_ok-gives_of_driver.field-0 w.in_ok-gives_of_driver.ensures.from w.in_ok-gives_of_driver.ensures.join w.if-branch.false (c.loop-arm.invariant has at there)
      | else-arm-target-via-else-arm-target w ↦
          none_of_others unit c.requires.unit has at c.args.target c.requires.there c.args.row.now there
          c.deref-arm-items.result.now c.deref-arm-items.ensures.value c.loop-arm.arm-index c.arm-item.result c.loop-arm-test.true c.arm-item.is
          w.if-arm-target.false (c.loop-arm.invariant has at there)
    ]

pub returns : goal.returns
returns c = λ at here.
    let unit = c.args.self.now in
    let has = has_driver unit c.requires.unit c.requires.by_rows in
    let there = row_of_unit unit has at c.args.row.now here in
    none_at_all unit c.requires.unit has at c.args.target c.requires.there c.args.row.now there
    c.deref-arm-items.result.now c.deref-arm-items.ensures.value c.loop-arm.arm-index (omega arith) (c.loop-arm.invariant has at there)
