use Rattle.std.proofs.Common.{◌≡◌, ◌++◌}
use Rattle.bf_sql.specs.migrations.Granules.{granules_of}
use Rattle.bf_image.specs.Migrations.{old_of}
use Rattle.bf_transpose.proofs.Units.{granules_from}
use Rattle.bf_transpose.proofs.scan.all.Given as goal

-- the granules so far, and those of the units that are left
abbrev pub invariant-loop-unit : goal.invariant-loop-unit
invariant-loop-unit l = l.granules.items ++ granules_from l.migration l.unit ≡ granules_of (old_of l.migration) l.migration.plan.migrate
