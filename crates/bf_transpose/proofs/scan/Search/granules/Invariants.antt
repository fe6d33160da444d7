use Rattle.std.proofs.Common.{◌≡◌, ◌++◌, filter}
use Rattle.bf_sql.specs.migrations.Granules.{granules_of}
use Rattle.bf_image.specs.Migrations.{old_of}
use Rattle.bf_transpose.specs.Scans.{gives}
use Rattle.bf_transpose.proofs.Units.{granules_from}
use Rattle.bf_transpose.proofs.scan.Search.granules.Given as goal

-- the granules so far, and those that the units that are left have
abbrev pub invariant-loop-unit : goal.invariant-loop-unit
invariant-loop-unit l =
    let m = l.self.migration.now in
    l.granules.items ++ filter (gives m l.self.target l.self.cond.now) (granules_from m l.unit)
    ≡ filter (gives m l.self.target l.self.cond.now) (granules_of (old_of m) m.plan.migrate)
