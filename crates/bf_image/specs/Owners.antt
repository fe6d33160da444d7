-- Where a row of a new table with a key can come from, unit by unit, and whether a row has it.
use Rattle.std.specs.Prelude.{ℕ, ◌&&◌, ◌==◌, Bool, List, [], map, option_map, unwrap_or}
use Rattle.bf_base.specs.declared.granule.Granule.{Granule}
use Rattle.bf_base.specs.declared.table.Table.{Table}
use Rattle.bf_base.specs.declared.value.Value.{Value}
use Rattle.bf_base.specs.Lists.{same_key}
use Rattle.bf_base.specs.Tables.{key_of}
use Rattle.bf_tree.specs.declared.migration.Target.{Target}
use Rattle.bf_sql.specs.migrations.Granules.{granule}
use Rattle.bf_image.specs.Lookup.{places_by}
use Rattle.bf_image.specs.Migrations.{old_of, unit_at}
use Rattle.bf_image.specs.declared.migration.Migration.{Migration}

-- the candidate of a unit by its number, if it has one
abbrev pub candidates_at : Migration → Target → List Value → ℕ → List Granule
candidates_at m t key number = unwrap_or (option_map (λ unit. map (granule number) (places_by (old_of m) t key unit)) (unit_at m number)) []

-- whether a row, with the number of its target, is of a target and has a key there
abbrev pub is_row_with : Table → List Value → ℕ → ℕ × List Value → Bool
is_row_with table key target p = p.0 == target && same_key key (key_of table p.1)
