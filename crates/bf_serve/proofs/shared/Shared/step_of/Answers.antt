-- What a statement needs is of the migration at its position.
use Rattle.std.proofs.Common.{◌≡◌, [], Option, Some, sym, ap, subst, ◌∙◌}
use Rattle.std.specs.Prelude.{IfSome, IsTrue}
use Rattle.boxcar.specs.Table.{Shows, Where}
use Rattle.bf_base.specs.Lists.{rises}
use Rattle.bf_image.specs.declared.migration.Migration.{Migration as Kept}
use Rattle.bf_store.specs.States.{AreGranules, granule_cmp}
use Rattle.bf_store.specs.Stores.{IsOf, migration_of}
use Rattle.bf_serve.specs.Requests.{AreNeededOf, Position}
use Rattle.bf_serve.specs.Sections.{AreNeededIfServed}
use Rattle.bf_serve.specs.Steps.{AreToMove}
use Rattle.bf_serve.specs.declared.engine.Served.{Served}
use Rattle.bf_serve.proofs.shared.Shared.step_of.Goals as goal

pub returns-in-Need-Some : goal.returns-in-Need-Some
returns-in-Need-Some g c =
    let r = c.args.request.now in
    let pass = c.in-Need-Some.pass.now in
    let granules = c.in-Need-Some.granules.items in
    let needed : AreNeededOf r granules = subst (λ (s : Served). AreNeededIfServed r s) c.in-Need-Some.is-0 c.requires in
    let same : Some pass ≡ r.at.migration = c.in-Need-Some.ensures.pass ∙ ap (λ (p : Position). p.migration) c.at.ensures.at in
    let of : AreGranules (migration_of pass.value []) granules × IsTrue (rises granule_cmp granules) =
    subst (λ (o : Option (Where Kept)). IfSome o (λ p. AreGranules (migration_of p.value []) granules × IsTrue (rises granule_cmp granules))) (sym same) needed.0 in
    let shown : Shows g.N.Opened.registry.migrations pass = subst (λ (o : Option (Where Kept)). IsOf g.N.Opened.registry o) (sym c.in-Need-Some.ensures.pass) c.in-Need-Some.ensures.own in
    subst (λ (p : Where Kept). AreToMove g.N.Opened.registry p granules) (sym c.copy.ensures) (record { shown = shown; each = of.0; ordered = of.1; some = needed.1 })
