use Rattle.std.proofs.Common.{◌∙◌}
use Rattle.bf_plan.proofs.Columns.{one_key}
use Rattle.bf_plan.proofs.target.has_one_key.Goals as goal

pub returns : goal.returns
returns c = (rw c.first_key.ensures at c.all_have_key.ensures) ∙ one_key c.args.arms.now
