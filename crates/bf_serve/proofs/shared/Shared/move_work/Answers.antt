-- The old rows by their values are those of the work's migration.
use Rattle.std.proofs.Common.{ap, sym, ◌∙◌}
use Rattle.boxcar.specs.Table.{Where}
use Rattle.bf_image.specs.Migrations.{value_indexes}
use Rattle.bf_image.specs.declared.migration.Migration.{Migration}
use Rattle.bf_serve.proofs.shared.Shared.move_work.Goals as goal

pub of-requires-clause-indexed : goal.of-requires-clause-indexed
of-requires-clause-indexed g c =
    c.indexes-indexes.ensures ∙ ap (λ (p : Where Migration). value_indexes p.value) c.deref.ensures ∙ ap value_indexes c.in_ok-lookups.ensures
    ∙ ap (λ (p : Where Migration). value_indexes p.value) (c.pass.ensures ∙ sym c.pass-2.ensures) ∙ ap value_indexes (sym c.migration-migration.ensures.read)

pub move_granules-moved-requires-clause-indexed : goal.move_granules-moved-requires-clause-indexed
move_granules-moved-requires-clause-indexed g c =
    c.indexes-indexes.ensures ∙ ap (λ (p : Where Migration). value_indexes p.value) c.deref.ensures ∙ ap value_indexes c.in_ok-lookups.ensures
    ∙ ap (λ (p : Where Migration). value_indexes p.value) c.pass.ensures
