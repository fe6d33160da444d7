use Rattle.std.proofs.Common.{◌+◌, ◌*◌}
use Rattle.bf_record.proofs.expressions.+expression.Given as goal

abbrev pub decreases-take_expr : goal.decreases-take_expr
decreases-take_expr l = 3 * l.budget + 2

abbrev pub decreases-take_operator : goal.decreases-take_operator
decreases-take_operator l = 3 * l.budget + 1

abbrev pub decreases-take_two : goal.decreases-take_two
decreases-take_two l = 3 * l.budget + 3
