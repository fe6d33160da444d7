use Rattle.std.proofs.Common.{◌+◌, ◌*◌}
use Rattle.bf_tree.specs.Trees.{nodes}
use Rattle.bf_bind.proofs.expression.+expression.Given as goal

abbrev pub decreases-bind_expression : goal.decreases-bind_expression
decreases-bind_expression l = 2 * nodes l.raw.now

abbrev pub decreases-bind_part : goal.decreases-bind_part
decreases-bind_part l = 2 * nodes l.part.now + 1

abbrev pub decreases-bind_parts : goal.decreases-bind_parts
decreases-bind_parts l = 2 * (nodes l.left.now + nodes l.right.now) + 1
