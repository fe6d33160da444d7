-- What the laws speak of: the rows of parts, the granules that have a key, and those that a sweep meets.
use Rattle.std.specs.Prelude.{Bool, List, map, flat_map}
use Rattle.std.specs.List.{list_any, enumerate_from}
use Rattle.bf_base.specs.declared.value.Value.{Value}
use Rattle.bf_base.specs.declared.granule.Granule.{Granule}
use Rattle.bf_base.specs.Lists.{same_key}
use Rattle.bf_base.specs.Tables.{key_of}
use Rattle.bf_tree.specs.declared.migration.Target.{Target}
use Rattle.bf_tree.specs.declared.migration.Migrate.{Migrate}
use Rattle.bf_tree.specs.declared.statement.Statement.TheVariants as statement
use Rattle.bf_sql.specs.Database.{Database}
use Rattle.bf_sql.specs.migrations.Targets.{target_table}
use Rattle.bf_sql.specs.migrations.Granules.{units_of, anchors_of, granule, granules_of, part_in}

-- the rows of all parts of a target, granule by granule
abbrev pub rows_of_parts : Database → Migrate → Target → List (List Value)
rows_of_parts old m t = flat_map (part_in old m t.name) (granules_of old m)

-- whether a granule has a row of a target with a key
abbrev pub owns : Database → Migrate → Target → List Value → Granule → Bool
owns old m t key g = list_any (λ row. same_key key (key_of (target_table old t) row)) (part_in old m t.name g)

-- the granules that a sweep meets, one for each anchor
abbrev pub swept : Database → Migrate → List Granule
swept old m = flat_map (λ u. map (granule u.0) (anchors_of old u.1)) (enumerate_from 0 (units_of old m))
