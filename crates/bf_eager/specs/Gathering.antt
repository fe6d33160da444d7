-- The rows of the new tables, part by part.
use Rattle.std.specs.Prelude.{ℕ, List, flat_map, length, map}
use Rattle.std.specs.List.{enumerate_from, range_with_len}
use Rattle.bf_base.specs.declared.granule.Place.{Place}
use Rattle.bf_base.specs.declared.granule.Place.TheVariants.{Group, Row}
use Rattle.bf_base.specs.declared.value.Value.{Value}
use Rattle.bf_tree.specs.declared.migration.Target.{Target}
use Rattle.bf_sql.specs.Database.{Database, table_rows}
use Rattle.bf_sql.specs.migrations.Granules.{UnitForm, granule, part_of, rows_unit, values_unit}
use Rattle.bf_sql.specs.migrations.Targets.{arm_kind}
use Rattle.bf_index.specs.ByValues.{Valued, by_value}
use Rattle.bf_image.specs.Migrations.{from_values, old_of, target_at, units_in}
use Rattle.bf_image.specs.declared.migration.Migration.{Migration}

-- a row with the number of its target
abbrev pub Numbered : Type 0
Numbered = ℕ × List Value

-- rows with the targets that their numbers name
abbrev pub named : Migration → List Numbered → List (Target × List Value)
named m rows = map (λ (p : Numbered). (target_at m p.0, p.1)) rows

-- the rows of a unit's granules at some places
abbrev pub parts_at : Migration → ℕ → List Place → List (Target × List Value)
parts_at m unit places = flat_map (λ place. part_of (old_of m) m.plan.migrate (granule unit place)) places

-- the places of rows by their positions, and those of values
abbrev pub places_of_rows : ℕ → List Place
places_of_rows count = map Row (range_with_len 0 count)

abbrev pub places_of_values : List Valued → List Place
places_of_values index = map (λ (entry : Valued). Group entry.0) index

-- the places at which a unit is gathered: a join without a row of FROM has no pair
abbrev pub gathered_at : Database → UnitForm → List Place
gathered_at old (rows_unit driver) = places_of_rows (length (table_rows old driver))
gathered_at old (values_unit target arm) = places_of_values (by_value (from_values old arm (arm_kind old arm)))

-- the rows of some units, and of all
abbrev pub gathered_of : Migration → List (ℕ × UnitForm) → List (Target × List Value)
gathered_of m units = flat_map (λ u. parts_at m u.0 (gathered_at (old_of m) u.1)) units

abbrev pub gathered : Migration → List (Target × List Value)
gathered m = gathered_of m (enumerate_from 0 (units_in m))
