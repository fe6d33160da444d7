use Rattle.std.proofs.Common.{◌≡◌, Option, Some, None, Bor, IfSome, option_map, refl, sym, ap, ◌∙◌}
use Rattle.std.specs.Prelude.{ℕ, List, slice_get}
use Rattle.std.proofs.lemmas.Option.{slice_get_read}
use Rattle.bf_sql.specs.migrations.Granules.{rows_unit}
use Rattle.bf_image.specs.Migrations.{source_of, unit_at}
use Rattle.bf_image.specs.PlannedUnits.{form_by, unit_form}
use Rattle.bf_image.specs.declared.migration.Frozen.{Frozen}
use Rattle.bf_image.specs.declared.migration.Migration.{Migration}
use Rattle.bf_image.proofs.planning.Units.{unit_at_number}
use Rattle.bf_transpose.specs.Scans.{IsDriverOf}
use Rattle.bf_transpose.proofs.drivers.driver_of.Goals as goal

its_table : (m : Migration) (unit : ℕ) (driver : List ℕ) → unit_at m unit ≡ Some (rows_unit driver) → (o : Option (Bor Frozen)) → option_map (λ (f : Bor Frozen). f.now) o ≡ source_of m driver → IfSome o (λ f. IsDriverOf m unit f.now)
its_table m unit driver form None found = tt
its_table m unit driver form (Some f) found = record { driver = driver; form = form; found = sym found }

pub returns-in-Rows : goal.returns-in-Rows
returns-in-Rows c =
    let m = c.args.migration.now in
    let unit = c.args.unit in
    let planned = c.in_ok-planned.planned.now in
    let at : slice_get m.plan.units unit ≡ Some planned = ap (λ us. slice_get us unit) (sym c.as_slice.ensures) ∙ slice_get_read c.as_slice.result.now _ unit _ refl c.in_ok-planned.ensures.lookup.3.0 c.in_ok-planned.ensures.lookup.1 in
    let form : unit_at m unit ≡ Some (rows_unit planned.driver) =
    unit_at_number m c.requires.lawful unit ∙ (ap (option_map (unit_form m.plan.migrate)) at ∙ ap (λ k. Some (form_by m.plan.migrate k planned.driver planned.arms)) c.in-Rows.is) in
    its_table m unit planned.driver form c.source.result c.source.ensures
