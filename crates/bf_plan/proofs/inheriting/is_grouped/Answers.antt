use Rattle.std.proofs.Common.{sym}
use Rattle.bf_plan.proofs.ArmParts.{nowhere}
use Rattle.bf_plan.proofs.inheriting.is_grouped.Goals as goal

pub returns-in-None : goal.returns-in-None
returns-in-None c = rw c.if-item.false (sym (nowhere c.args.group.now c.args.item.now.place c.in-None.is))
