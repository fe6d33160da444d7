use Rattle.bf_sql.specs.Bound.{without_rows}
use Rattle.bf_plan.proofs.Planned.{planned, refused}
use Rattle.bf_plan.proofs.planning.plan.Goals as goal

pub returns-in-Ok : goal.returns-in-Ok
returns-in-Ok c = planned (without_rows c.args.catalog.now) c.args.migrate.now c.in-Ok.plan c.in-Ok.ensures.0 c.in-Ok.ensures.1

pub returns-in-Err-Refused : goal.returns-in-Err-Refused
returns-in-Err-Refused c =
    refused (without_rows c.args.catalog.now) c.args.migrate.now c.in-Err-Refused.refusal (rw c.in-Err-Refused.field-0-is at c.in-Err-Refused.ensures)
