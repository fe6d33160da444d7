-- The part of a granule, by the planned unit of its number.
use Rattle.std.proofs.Common.{◌≡◌, ℕ, List, [], Option, Some, ◌⊎◌, inl, inr, ap, ◌∙◌}
use Rattle.std.specs.Prelude.{option_map, slice_get, unwrap_or}
use Rattle.bf_base.specs.declared.granule.Place.{Place}
use Rattle.bf_base.specs.declared.granule.Place.TheVariants.{Row}
use Rattle.bf_base.specs.declared.value.Value.{Value}
use Rattle.bf_tree.specs.declared.migration.Target.{Target}
use Rattle.bf_tree.specs.declared.plan.Unit.{Unit as Planned}
use Rattle.bf_tree.specs.declared.plan.UnitKind.TheVariants.{Rows, Groups, Joins}
use Rattle.bf_sql.specs.migrations.Granules.{UnitForm, rows_unit, granule, part_at, part_of}
use Rattle.bf_image.specs.Migrations.{IsLawfulMigration, old_of, unit_at}
use Rattle.bf_image.specs.PlannedUnits.{form_by, unit_form}
use Rattle.bf_image.specs.declared.migration.Migration.{Migration}
use Rattle.bf_image.proofs.planning.Units.{unit_at_number}

module _ (m : Migration) (number : ℕ) (place : Place) where
  abbrev pub part : List (Target × List Value)
  part = part_of (old_of m) m.plan.migrate (granule number place)

  abbrev pub of_form : Option UnitForm → List (Target × List Value)
  of_form o = unwrap_or (option_map (λ unit. part_at (old_of m) m.plan.migrate unit place) o) []

  -- what the unit of the number has at the place
  pub part_is : (o : Option UnitForm) → unit_at m number ≡ o → part ≡ of_form o
  part_is o is = ap of_form is

  pub part_planned : IsLawfulMigration m → (o : Option Planned) → slice_get m.plan.units number ≡ o → part ≡ of_form (option_map (unit_form m.plan.migrate) o)
  part_planned lawful o is = part_is _ (unit_at_number m lawful number ∙ ap (option_map (unit_form m.plan.migrate)) is)

-- a unit by rows has its driver's rows, and any other has none of a position
module _ (m : Migration) (lawful : IsLawfulMigration m) (number at : ℕ) (unit : Planned) (there : slice_get m.plan.units number ≡ Some unit) where
  pub part_by_rows : unit.kind ≡ Rows → part m number (Row at) ≡ part_at (old_of m) m.plan.migrate (rows_unit unit.driver) (Row at)
  part_by_rows is = part_planned m number (Row at) lawful (Some unit) there ∙ ap (λ k. part_at (old_of m) m.plan.migrate (form_by m.plan.migrate k unit.driver unit.arms) (Row at)) is

  pub part_by_values : (unit.kind ≡ Groups) ⊎ (unit.kind ≡ Joins) → part m number (Row at) ≡ []
  part_by_values (inl is) = part_planned m number (Row at) lawful (Some unit) there ∙ ap (λ k. part_at (old_of m) m.plan.migrate (form_by m.plan.migrate k unit.driver unit.arms) (Row at)) is
  part_by_values (inr is) = part_planned m number (Row at) lawful (Some unit) there ∙ ap (λ k. part_at (old_of m) m.plan.migrate (form_by m.plan.migrate k unit.driver unit.arms) (Row at)) is
