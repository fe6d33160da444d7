use Rattle.bf_sql.specs.Bound.{without_rows}
use Rattle.bf_plan.proofs.Prepared.{prepared-planned}
use Rattle.bf_plan.proofs.preparing.prepare_migrate.Goals as goal

pub returns : goal.returns
returns c =
    rw (c.action_planned.ensures, c.number.ensures) (prepared-planned (without_rows c.args.catalog.now) c.args.migrate.now c.in_ok-planned.planned c.in_ok-planned.ensures)
