use Rattle.std.proofs.Common.{ap, ◌∙◌}
use Rattle.bf_tree.specs.Catalogs.{Catalog}
use Rattle.bf_tree.specs.Places.{table_named}
use Rattle.bf_tree.proofs.ByName.{table_under}
use Rattle.bf_tree.proofs.catalog.Catalog.table.Goals as goal

pub returns : goal.returns
returns c =
    let name = c.args.name.now in
    c.get.ensures.value ∙ table_under name c.self.inside.tables.entries c.self.invariant.0 ∙ ap (λ (catalog : Catalog). table_named catalog name) c.self.view_is
