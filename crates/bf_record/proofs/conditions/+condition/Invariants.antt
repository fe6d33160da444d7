use Rattle.std.proofs.Common.{◌+◌, ◌*◌}
use Rattle.bf_record.proofs.conditions.+condition.Given as goal

abbrev pub decreases-take_cond : goal.decreases-take_cond
decreases-take_cond l = 2 * l.budget

abbrev pub decreases-take_two : goal.decreases-take_two
decreases-take_two l = 2 * l.budget + 1
