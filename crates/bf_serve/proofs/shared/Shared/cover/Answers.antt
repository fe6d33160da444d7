-- The old rows by their values are those of the position's migration.
use Rattle.std.proofs.Common.{ap, subst, ◌∙◌}
use Rattle.std.specs.Prelude.{Option}
use Rattle.boxcar.specs.Table.{Where}
use Rattle.bf_image.specs.Migrations.{value_indexes}
use Rattle.bf_image.specs.declared.migration.Migration.{Migration}
use Rattle.bf_store.specs.Stores.{AreIndexesOf}
use Rattle.bf_serve.specs.Requests.{Position}
use Rattle.bf_serve.proofs.shared.Shared.cover.Goals as goal

pub covered-requires-clause-indexes : goal.covered-requires-clause-indexes
covered-requires-clause-indexes g c =
    subst (λ (pass : Option (Where Migration)). AreIndexesOf pass c.indexes.result.now) (c.in-Some.ensures.pass ∙ ap (λ (p : Position). p.migration) c.at.ensures.at)
    (c.indexes.ensures ∙ ap value_indexes (ap (λ (pass : Where Migration). pass.value) c.deref.ensures ∙ c.in_ok-lookups.ensures))
