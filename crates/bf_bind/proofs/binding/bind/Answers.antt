use Rattle.bf_sql.specs.Bound.{without_rows}
use Rattle.bf_bind.proofs.Statements.{bound_of-refused, bound_of-unobjected}
use Rattle.bf_bind.proofs.binding.bind.Goals as goal

pub returns-in-Ok : goal.returns-in-Ok
returns-in-Ok c =
    rw (c.changes_schema-schema_change.ensures, c.number.ensures) (bound_of-unobjected (without_rows c.args.catalog.now) c.args.in_block c.args.statement.now c.in-Ok.action c.in-Ok.ensures)

pub returns-in-Err-Refused : goal.returns-in-Err-Refused
returns-in-Err-Refused c =
    rw (c.changes_schema-schema_change.ensures, c.number-in-Err-Refused.ensures) (bound_of-refused (without_rows c.args.catalog.now) c.args.in_block c.args.statement.now c.in-Err-Refused.refusal (rw c.in-Err-Refused.field-0-is at c.in-Err-Refused.ensures))
