use Rattle.std.proofs.Common.{subst}
use Rattle.bf_base.specs.declared.table.Table.{Table}
use Rattle.bf_tree.specs.Catalogs.{Catalog}
use Rattle.bf_tree.specs.Places.{AreByName}
use Rattle.bf_tree.proofs.ByName.{by_name}
use Rattle.bf_tree.proofs.catalog.Catalog.tables.Goals as goal

pub returns-clause-by_name : goal.returns-clause-by_name
returns-clause-by_name c =
    subst (λ (catalog : Catalog). AreByName catalog.tables) c.self.view_is (by_name (λ (t : Table). t.name) c.self.inside.tables.entries c.self.invariant.0)
