-- Copies of the sources are old tables, over which what the catalog allows is lawful.
use Rattle.std.proofs.Common.{List, ℕ, sym, subst}
use Rattle.bf_image.specs.declared.migration.Frozen.{Frozen}
use Rattle.bf_eager.specs.Freezing.{AreFrozen}
use Rattle.bf_eager.proofs.Lawful.{lawful_migration}
use Rattle.bf_eager.proofs.flip.migration_of.Goals as goal

pub returns-clause-frozen : goal.returns-clause-frozen
returns-clause-frozen c =
    subst (λ (fs : List Frozen). AreFrozen c.args.live.now c.args.plan.sources fs) (sym c.of.ensures) (subst (λ (names : List (List ℕ)). AreFrozen c.args.live.now names c.in_ok-frozen.frozen.items) c.as_slice.ensures c.in_ok-frozen.ensures)

pub returns-clause-lawful : goal.returns-clause-lawful
returns-clause-lawful c =
    let are : AreFrozen c.args.live.now c.args.plan.sources c.of.result =
    subst (λ (fs : List Frozen). AreFrozen c.args.live.now c.args.plan.sources fs) (sym c.of.ensures) (subst (λ (names : List (List ℕ)). AreFrozen c.args.live.now names c.in_ok-frozen.frozen.items) c.as_slice.ensures c.in_ok-frozen.ensures) in
    lawful_migration c.args.live.now c.args.plan c.requires.database c.requires.planned c.requires.tables (sym c.requires.few) c.of.result are
