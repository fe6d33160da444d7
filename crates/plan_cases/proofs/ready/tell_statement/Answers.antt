use Rattle.plan_cases.proofs.Bare.{is_bare}
use Rattle.plan_cases.proofs.ready.tell_statement.Goals as goal

pub tell_locks-requires-clause-database : goal.tell_locks-requires-clause-database
tell_locks-requires-clause-database c = is_bare c.args.database.now.database c.catalog-catalog.result.now c.catalog-catalog.ensures.catalog c.catalog-catalog.ensures.database

pub tell_ready-requires-clause-database : goal.tell_ready-requires-clause-database
tell_ready-requires-clause-database c = is_bare c.args.database.now.database c.catalog-catalog.result.now c.catalog-catalog.ensures.catalog c.catalog-catalog.ensures.database
