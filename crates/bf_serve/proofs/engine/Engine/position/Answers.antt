-- The session stands where the machine says, and the passes read its catalog and its last migration.
use Rattle.std.proofs.Common.{◌≡◌, Option, sym, ap, subst, ◌∙◌}
use Rattle.boxcar.specs.Table.{Shows, Where}
use Rattle.bf_tree.specs.Catalogs.{Catalog}
use Rattle.bf_image.specs.declared.migration.Migration.{Migration}
use Rattle.bf_store.specs.Stores.{IsOf}
use Rattle.bf_serve.specs.Requests.{IsPresentCatalog}
use Rattle.bf_serve.proofs.threads.Standing.{is_position}
use Rattle.bf_serve.proofs.engine.Engine.position.Goals as goal

pub invariant_of-result : goal.invariant_of-result
invariant_of-result g c =
    let m = c.self.inside.machine in
    let registry = g.N.Opened.registry in
    let same : m.script ≡ g.N.Opened.script = sym c.script.ensures.script ∙ c.script.ensures.opened in
    let present = subst (λ (pass : Option (Where Catalog)). IsPresentCatalog registry m pass) c.in-Some.is c.self.invariant.3 in
    is_position registry g.N.Opened.script m same c.script.ensures.kept c.args.session c.in-Statement.place c.requires.place c.in-Statement.ensures c.catalog.ensures.database c.is_in_block.result c.copy.result c.migration-migration.result
    (subst (λ (pass : Where Catalog). Shows registry.catalogs pass) (sym c.copy.ensures) present.0)
    (ap (λ (pass : Where Catalog). pass.value) c.copy.ensures ∙ present.1)
    (subst (λ (pass : Option (Where Migration)). IsOf registry pass) (sym c.migration-migration.ensures.pass) c.migration-migration.ensures.one)
