use Rattle.std.proofs.Common.{◌≡◌, take}
use Rattle.bf_sql.specs.migrations.Need.{giving, has_key_of, target_of}
use Rattle.bf_image.specs.Migrations.{old_of}
use Rattle.bf_transpose.proofs.owning.owners_of.Given as goal

-- the owners of the keys so far
abbrev pub invariant-loop-row : goal.invariant-loop-row
invariant-loop-row l =
    l.owners.keys ≡ giving (old_of l.migration) l.migration.plan.migrate (target_of (old_of l.migration) l.migration.plan.migrate l.table) (has_key_of l.table (take l.row-index l.rows))
