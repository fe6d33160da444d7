-- A bound statement has what `footprint` asks for.
use Rattle.std.proofs.Common.{false}
use Rattle.bf_live.proofs.locking.Writing.{bound_has_keys}
use Rattle.bf_sql.specs.Bound.{without_rows}
use Rattle.plan_cases.proofs.ready.tell_locks.Goals as goal

pub footprint-requires : goal.footprint-requires
footprint-requires c =
    bound_has_keys (without_rows c.args.catalog.now) false c.args.statement.now c.in_ok-bound.bound
    (record { database = c.requires.database; is = c.in_ok-bound.ensures })
