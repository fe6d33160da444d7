use Rattle.std.proofs.Common.{◌+◌, ◌*◌}
use Rattle.bf_tree.specs.Trees.{nodes}
use Rattle.bf_record.proofs.expressions.+put_expression.Given as goal

abbrev pub decreases-put_expr : goal.decreases-put_expr
decreases-put_expr l = 2 * nodes l.expr.now

abbrev pub decreases-put_two : goal.decreases-put_two
decreases-put_two l = 2 * (nodes l.left.now + nodes l.right.now) + 1
