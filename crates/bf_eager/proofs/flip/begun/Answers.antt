-- A plan that the catalog allows is begun where no old table is too large.
use Rattle.std.proofs.Common.{sym, ap, ◌∙◌}
use Rattle.bf_sql.specs.RowObjections.{first_oversize}
use Rattle.bf_eager.proofs.Begun.{is_begun}
use Rattle.bf_eager.proofs.flip.begun.Goals as goal

pub returns-in_ok-migration_of-in-None : goal.returns-in_ok-migration_of-in-None
returns-in_ok-migration_of-in-None c =
    is_begun c.args.live.now c.args.plan c.in_ok-migration_of-in-None.field-0 c.requires.database c.requires.planned c.requires.tables
    (sym c.in-None.is ∙ (c.in_ok-refusal.ensures ∙ ap (first_oversize c.args.live.now) c.as_slice.ensures)) c.in_ok-migration_of-in-None.ensures.plan c.in_ok-migration_of-in-None.ensures.frozen c.in_ok-migration_of-in-None.ensures.lawful
