use Rattle.bf_plan.proofs.Prepared.{unplanned, unplanned_in_block}
use Rattle.bf_plan.proofs.preparing.prepare.Goals as goal

pub bind-requires-clause-alone : goal.bind-requires-clause-alone
bind-requires-clause-alone c = unplanned_in_block c.args.in_block c.args.statement.now c.if-in_block.true

pub bind-requires-in_default-clause-alone : goal.bind-requires-in_default-clause-alone
bind-requires-in_default-clause-alone c = unplanned c.args.in_block c.args.statement.now c.in_default.not-Migrate
