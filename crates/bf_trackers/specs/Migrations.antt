-- The trackers of a migration, and what seats of them hold.
use Rattle.std.specs.Prelude.{◌≡◌, List, length, map, refl, IsTrue}
use Rattle.std.specs.Coded.{Coded, code_by, coded×}
use Rattle.std.specs.List.{AllByRecursion}
use Rattle.boxcar.specs.Table.{Where}
use Rattle.bf_base.specs.declared.granule.Granule.{Granule}
use Rattle.bf_base.specs.Lists.{has}
use Rattle.bf_drive.specs.Lists.{Entry}
use Rattle.bf_sql.specs.Database.{Database, table_rows}
use Rattle.bf_sql.specs.migrations.Granules.{UnitForm, rows_unit, values_unit, granules_of, same_granule}
use Rattle.bf_image.specs.Migrations.{old_of, units_in}
use Rattle.bf_image.specs.declared.migration.Migration.{Migration}
use Rattle.bf_trackers.specs.declared.units.Shape.{Shape}
use Rattle.bf_trackers.specs.declared.units.Shape.TheVariants as shape
use Rattle.bf_trackers.specs.declared.units.UnitTracker.{UnitTracker}
use Rattle.bf_trackers.specs.Holding.{HoldClaims}
use Rattle.bf_trackers.specs.Seats.{Seats}
use Rattle.bf_trackers.specs.Units.{shape_of}

-- what the units of a migration go by
abbrev pub shape_in : Database → UnitForm → Shape
shape_in old (rows_unit driver) = shape.Rows (length (table_rows old driver))
shape_in old (values_unit target arm) = shape.Keys

abbrev pub shapes_of : Migration → List Shape
shapes_of m = map (shape_in (old_of m)) (units_in m)

-- what is seen of a migration's trackers: its pass, and the tracker of each unit
pub record Trackers : Type 0 where
  pub pass : Where Migration
  pub units : List UnitTracker

abbrev pub trackers_coded : Coded (Where Migration) → Coded (List UnitTracker) → Coded Trackers
trackers_coded pass units = code_by (Where Migration × List UnitTracker) (coded× pass units) (λ t. (t.pass, t.units)) (λ p. record { pass = p.0; units = p.1 }) (λ _. refl)

abbrev pub AreOf : Migration → List UnitTracker → Type 0
AreOf m units = map shape_of units ≡ shapes_of m

-- a granule is one of a migration's
abbrev pub IsGranuleOf : Migration → Granule → Type 0
IsGranuleOf m granule = IsTrue (has same_granule (granules_of (old_of m) m.plan.migrate) granule)

-- seats of a migration's trackers hold these claims of its granules and no others, in the order in which they were made
pub record HoldsClaims (trackers : Trackers) (seats : Seats) (entries : List Entry) : Type 0 where
  pub held : HoldClaims trackers.units seats entries
  pub each : AllByRecursion (λ entry. IsGranuleOf trackers.pass.value entry.0) entries
