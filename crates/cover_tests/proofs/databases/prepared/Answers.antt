use Rattle.std.proofs.Common.{false}
use Rattle.bf_sql.specs.Bound.{without_rows}
use Rattle.cover_tests.proofs.Prepared.{is_bare, prepared_if_ok}
use Rattle.cover_tests.proofs.databases.prepared.Goals as goal

pub prepare-requires-clause-database : goal.prepare-requires-clause-database
prepare-requires-clause-database c = is_bare c.args.eager.now.database c.catalog.result.now c.catalog.ensures.catalog c.catalog.ensures.database

pub returns : goal.returns
returns c =
    prepared_if_ok (without_rows c.catalog.result.now) false c.args.statement.now c.prepare.result
    (is_bare c.args.eager.now.database c.catalog.result.now c.catalog.ensures.catalog c.catalog.ensures.database) c.prepare.ensures
