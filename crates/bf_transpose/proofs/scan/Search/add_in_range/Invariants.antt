use Rattle.std.proofs.Common.{◌≡◌, ◌≤◌, ◌++◌, filter}
use Rattle.bf_image.specs.Migrations.{anchors_in}
use Rattle.bf_transpose.specs.Scans.{gives, row_granules}
use Rattle.bf_transpose.proofs.scan.Search.add_in_range.Given as goal

-- those of the positions so far
abbrev pub invariant-loop-position : goal.invariant-loop-position
invariant-loop-position l = record {
  within : l.position ≤ anchors_in l.self.migration.now l.unit;
  found : l.granules.items
      ≡ l.fn.granules.items ++ filter (gives l.self.migration.now l.self.target l.self.cond.now) (row_granules l.unit l.position);
}
