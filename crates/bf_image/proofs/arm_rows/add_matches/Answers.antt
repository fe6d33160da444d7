use Rattle.std.proofs.Common.{◌++◌}
use Rattle.bf_image.specs.ArmRows.{rows_of_match}
use Rattle.bf_image.proofs.arm_rows.Made.{more_behind}
use Rattle.bf_image.proofs.arm_rows.add_matches.Goals as goal

pub loop-right-preserved : goal.loop-right-preserved
loop-right-preserved c =
    more_behind c.args.join.now c.loop-right.right-index c.right-item.result c.loop-right-test.true c.right-item.is
    (λ right. rows_of_match c.args.arm.now c.args.on.now (c.args.left.now ++ right.now)) c.args.made.now.items c.loop-right.made.items _ c.loop-right.invariant c.in_ok-add_match.ensures
