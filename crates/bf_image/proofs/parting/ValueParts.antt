-- The part of a value, by the arm of its unit.
use Rattle.std.proofs.Common.{◌≡◌, ℕ, List, ◌++◌, map, Option, Some, None, refl, sym, ap, ap₂, ◌∙◌, subst}
use Rattle.std.specs.Prelude.{option_map, slice_get}
use Rattle.std.specs.Option.{option_and_then}
use Rattle.std.proofs.lemmas.Option.{slice_get-map}
use Rattle.std.proofs.lemmas.Simd.{map-map}
use Rattle.bf_base.specs.declared.granule.Place.TheVariants.{Group}
use Rattle.bf_base.specs.declared.value.Value.{Value}
use Rattle.bf_tree.specs.declared.migration.Arm.{Arm}
use Rattle.bf_tree.specs.declared.migration.Target.{Target}
use Rattle.bf_sql.specs.Database.{Database}
use Rattle.bf_sql.specs.migrations.Granules.{UnitForm, rows_unit, values_unit, from_with, join_with}
use Rattle.bf_sql.specs.migrations.Placed.{placed_arm, placed_rows}
use Rattle.bf_sql.specs.migrations.Targets.{arm_kind}
use Rattle.bf_image.specs.ArmRows.{AreOfOne, CanMake}
use Rattle.bf_image.specs.BoundArms.{IsFrozenArm, IsOfUnit}
use Rattle.bf_image.specs.Migrations.{AreBehind, IsLawfulMigration, old_of, target_at, unit_at, unit_index, units_in, value_indexes}
use Rattle.bf_image.specs.declared.arms.FrozenArm.{FrozenArm}
use Rattle.bf_image.specs.declared.migration.Migration.{Migration}
use Rattle.bf_image.proofs.parting.MetRows.{rows_of_bound}
use Rattle.bf_image.proofs.parting.UnitParts.{part, part_is}
use Rattle.bf_image.proofs.parting.ValueRows.{IsOf, of_migrate, one_group, makes_with}

-- the arm for whose values a unit stands, and its bound form
pub record IsValued (m : Migration) (number : ℕ) (bound : FrozenArm) : Type 0 where
  pub target : Target
  pub arm : Arm
  pub at : unit_at m number ≡ Some (values_unit target arm)
  pub frozen : IsFrozenArm m bound.target arm bound
  pub named : target_at m bound.target ≡ target

module _ (m : Migration) (number : ℕ) where
  valued_by : (bound : FrozenArm) (o : Option UnitForm) → unit_at m number ≡ o → IsOfUnit m o (Some bound) → IsValued m number bound
  valued_by bound None at is = absurd is
  valued_by bound (Some (rows_unit driver)) at is = absurd is
  valued_by bound (Some (values_unit target arm)) at is = record { target = target; arm = arm; at = at; frozen = is.0; named = is.1 }

  pub valued : (bound : FrozenArm) → IsOfUnit m (unit_at m number) (Some bound) → IsValued m number bound
  valued bound is = valued_by bound (unit_at m number) refl is

  -- the index of the number is that of its unit
  pub index_at : (form : UnitForm) → unit_at m number ≡ Some form → option_and_then (λ i. i) (slice_get (value_indexes m) number) ≡ unit_index (old_of m) form
  index_at form at = ap (option_and_then (λ i. i)) (slice_get-map (unit_index (old_of m)) (units_in m) number ∙ ap (option_map (unit_index (old_of m))) at)

  module _ (lawful : IsLawfulMigration m) (bound : FrozenArm) (is : IsValued m number bound) (value : List Value) (from join : List (List Value)) (from_is : from ≡ from_with (old_of m) is.arm (arm_kind (old_of m) is.arm) value) where
    abbrev old : Database
    old = old_of m

    of : IsOf m.plan.migrate is.target is.arm
    of = of_migrate m number is.target is.arm is.at

    -- the rows with the value are of one group, and nothing stands in the way of what the arm makes of them
    pub one_of_bound : AreOfOne bound.placed.now.kind bound.placed.now from
    one_of_bound =
        subst (λ p. AreOfOne p.kind p from) (sym is.frozen.placed)
        (subst (λ rows. AreOfOne (arm_kind old is.arm) (placed_arm old is.arm) rows) (sym from_is) (one_group old m.plan.migrate is.target is.arm lawful.lawful of value (arm_kind old is.arm) refl))

    pub bound_can_make : CanMake bound.placed.now from join
    bound_can_make =
        subst (λ p. CanMake p from join) (sym is.frozen.placed)
        (subst (λ rows. CanMake (placed_arm old is.arm) rows join) (sym from_is) (makes_with old m.plan.migrate is.target is.arm lawful.lawful of value (arm_kind old is.arm) join))

    abbrev named : ℕ × List Value → Target × List Value
    named p = (target_at m p.0, p.1)

    -- what the arm makes of them is the part of the value
    pub part_made : (before rows : List (ℕ × List Value)) (made : List (List Value)) → join ≡ join_with old is.arm value → made ≡ placed_rows bound.placed.now from join
        → rows ≡ before ++ map (λ row. (bound.target, row)) made → AreBehind m (part m number (Group value)) before rows
    part_made before rows made join_is made_is rows_is = record {
      rows = map (λ row. (bound.target, row)) made;
      behind = rows_is;
      targets =
          map-map named (λ row. (bound.target, row)) made
          ∙ ap₂ (λ t rs. map (λ row. (t, row)) rs) is.named
          (made_is ∙ ap₂ (placed_rows bound.placed.now) from_is join_is ∙ rows_of_bound m bound.target is.arm bound is.frozen (from_with old is.arm (arm_kind old is.arm) value) (join_with old is.arm value))
          ∙ sym (part_is m number (Group value) (Some (values_unit is.target is.arm)) is.at);
    }
