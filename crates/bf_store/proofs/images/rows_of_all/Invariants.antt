use Rattle.std.proofs.Common.{◌≡◌, flat_map, map, take, IfSome}
use Rattle.bf_sql.specs.migrations.Granules.{part_of}
use Rattle.bf_image.specs.FrozenUnits.{IsUnitIn}
use Rattle.bf_image.specs.Migrations.{old_of, target_at}
use Rattle.bf_store.proofs.images.rows_of_all.Given as goal

-- the rows of the granules so far, and the unit that was looked up last
abbrev pub invariant-loop-granule : goal.invariant-loop-granule
invariant-loop-granule l = record {
  rows : map (λ p. (target_at l.migration p.0, p.1)) l.rows.items ≡ flat_map (part_of (old_of l.migration) l.migration.plan.migrate) (take l.granule-index l.granules);
  last : IfSome l.last (IsUnitIn l.migration);
}
