use Rattle.std.proofs.Common.{subst}
use Rattle.bf_tree.specs.declared.catalog.IndexRule.{IndexRule}
use Rattle.bf_tree.specs.Catalogs.{Catalog}
use Rattle.bf_tree.specs.Places.{AreIndexesByName}
use Rattle.bf_tree.proofs.ByName.{by_name}
use Rattle.bf_tree.proofs.catalog.Catalog.indexes.Goals as goal

pub returns-clause-by_name : goal.returns-clause-by_name
returns-clause-by_name c =
    subst (λ (catalog : Catalog). AreIndexesByName catalog.indexes) c.self.view_is (by_name (λ (i : IndexRule). i.name) c.self.inside.indexes.entries c.self.invariant.1)
