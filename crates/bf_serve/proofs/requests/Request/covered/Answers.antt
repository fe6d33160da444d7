-- The cover is that of the statement, by the old rows of the position's migration.
use Rattle.std.proofs.Common.{◌≡◌, Option, sym, ap, subst, ◌∙◌}
use Rattle.boxcar.specs.Table.{Where}
use Rattle.bf_image.specs.Migrations.{IsLawfulMigration, value_indexes}
use Rattle.bf_image.specs.declared.migration.Migration.{Migration}
use Rattle.bf_store.specs.Stores.{AreIndexesOf}
use Rattle.bf_serve.specs.Requests.{Request}
use Rattle.bf_serve.proofs.threads.Asking.{well_bound_at}
use Rattle.bf_serve.proofs.requests.Request.covered.Goals as goal

pub cover_of-requires-clause-bound : goal.cover_of-requires-clause-bound
cover_of-requires-clause-bound g c =
    let i = c.self.inside in
    well_bound_at g.N.Opened.script i.at i.bound c.self.invariant.at.database c.self.invariant.prepared

pub cover_of-requires-clause-found : goal.cover_of-requires-clause-found
cover_of-requires-clause-found g c =
    let own : c.args.indexes.now ≡ value_indexes c.in-Some.pass.now.value = subst (λ (pass : Option (Where Migration)). AreIndexesOf pass c.args.indexes.now) (sym c.in-Some.ensures.pass)
    (subst (λ (r : Request). AreIndexesOf r.at.migration c.args.indexes.now) (sym c.self.view_is) c.requires.indexes) in
    (subst IsLawfulMigration (sym c.migration-last.ensures.read) c.migration-last.ensures.lawful, own ∙ ap value_indexes (sym c.migration-last.ensures.read))
