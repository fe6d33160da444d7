use Rattle.std.proofs.Common.{ap, ◌∙◌}
use Rattle.bf_tree.specs.Catalogs.{Catalog}
use Rattle.bf_tree.specs.Places.{index_named}
use Rattle.bf_tree.proofs.ByName.{index_under}
use Rattle.bf_tree.proofs.catalog.Catalog.index.Goals as goal

pub returns : goal.returns
returns c =
    let name = c.args.name.now in
    c.get.ensures.value ∙ index_under name c.self.inside.indexes.entries c.self.invariant.1 ∙ ap (λ (catalog : Catalog). index_named catalog name) c.self.view_is
