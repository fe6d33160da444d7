use Rattle.std.proofs.Common.{◌≡◌, find}
use Rattle.bf_sql.specs.migrations.Granules.{owner_of}
use Rattle.bf_image.specs.Laws.{owns}
use Rattle.bf_image.specs.Migrations.{old_of, target_at}
use Rattle.bf_image.proofs.owning.Candidates.{candidates_from}
use Rattle.bf_image.proofs.owners.owner_of_target.Given as goal

-- the owner is among the candidates of the units that are left
abbrev pub invariant-loop-number : goal.invariant-loop-number
invariant-loop-number l =
    find (owns (old_of l.migration) l.migration.plan.migrate (target_at l.migration l.target) l.key) (candidates_from l.migration (target_at l.migration l.target) l.key l.number)
    ≡ owner_of (old_of l.migration) l.migration.plan.migrate (target_at l.migration l.target) l.key
