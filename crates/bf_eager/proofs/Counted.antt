-- The units of a migration are few, and as many as its plan has.
use Rattle.std.proofs.Common.{◌≡◌, ◌≤◌, List, length, sym, ap, ◌∙◌}
use Rattle.std.proofs.lemmas.List.{length-map}
use Rattle.bf_sql.specs.migrations.Granules.{UnitForm}
use Rattle.bf_image.specs.PlannedUnits.{unit_form}
use Rattle.bf_image.proofs.planning.Units.{units_few, units_stand_for}
use Rattle.bf_image.specs.Migrations.{IsLawfulMigration, units_in}
use Rattle.bf_image.specs.declared.migration.Migration.{Migration}

pub few_units : (m : Migration) → IsLawfulMigration m → length m.plan.units ≤ 12
few_units m lawful = units_few m lawful

pub units_counted : (m : Migration) → IsLawfulMigration m → length (units_in m) ≡ length m.plan.units
units_counted m lawful = ap (λ (us : List UnitForm). length us) (sym (units_stand_for m lawful)) ∙ length-map m.plan.units (unit_form m.plan.migrate)
