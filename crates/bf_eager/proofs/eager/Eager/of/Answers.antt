use Rattle.std.proofs.Common.{sym, subst}
use Rattle.bf_tree.specs.Limits.{HasNarrowTables}
use Rattle.bf_sql.specs.Bound.{catalog_of}
use Rattle.bf_sql.specs.Database.{Database, IsDatabase}
use Rattle.bf_eager.specs.Starting.{named_tables}
use Rattle.bf_eager.proofs.Beginning.{start_is_database, start_narrow}
use Rattle.bf_eager.proofs.eager.Eager.of.Goals as goal

pub invariant_of-result : goal.invariant_of-result
invariant_of-result c =
    let given = named_tables c.args.rows.items in (
      subst IsDatabase (sym c.in_ok-live.ensures) (start_is_database c.args.catalog.now given c.requires),
      subst (λ (db : Database). HasNarrowTables (catalog_of db)) (sym c.in_ok-live.ensures) (start_narrow c.args.catalog.now given c.requires),
    )
