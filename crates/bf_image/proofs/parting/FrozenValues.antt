-- A frozen unit that goes by values: its arm and its index.
use Rattle.std.proofs.Common.{◌≡◌, Bor, Option, Some, None, sym, ap, ◌∙◌, subst}
use Rattle.std.specs.Prelude.{option_map}
use Rattle.bf_sql.specs.migrations.Granules.{values_unit}
use Rattle.bf_image.specs.BoundArms.{IsOfUnit}
use Rattle.bf_image.specs.FrozenUnits.{IsFrozenUnit}
use Rattle.bf_image.specs.Migrations.{old_of, unit_at, unit_index}
use Rattle.bf_image.specs.declared.arms.FrozenArm.{FrozenArm}
use Rattle.bf_image.specs.declared.frozen_unit.FrozenUnit.{FrozenUnit}
use Rattle.bf_image.specs.declared.migration.Migration.{Migration}
use Rattle.bf_image.specs.declared.value_indexes.UnitIndex.{UnitIndex}
use Rattle.bf_image.proofs.parting.ValueParts.{IsValued, valued, index_at}

module _ (unit : FrozenUnit) (whole : IsFrozenUnit unit) (bound : FrozenArm) (armed : unit.valued ≡ Some bound) where
  abbrev m : Migration
  m = unit.migration.now

  -- the arm is that of the migration's unit of the number
  pub its_arm : IsValued unit.migration.now unit.number bound
  its_arm = valued m unit.number bound (subst (IsOfUnit m (unit_at m unit.number)) armed whole.valued)

  index_is : (o : Option (Bor UnitIndex)) → unit.index ≡ o → unit_index (old_of m) (values_unit its_arm.target its_arm.arm) ≡ option_map (λ index. index.now) o
  index_is o is = sym (index_at m unit.number (values_unit its_arm.target its_arm.arm) its_arm.at) ∙ sym whole.indexed ∙ ap (option_map (λ index. index.now)) is

  -- the index is that of the arm's rows
  pub its_index : (index : Bor UnitIndex) → unit.index ≡ Some index → unit_index (old_of unit.migration.now) (values_unit its_arm.target its_arm.arm) ≡ Some index.now
  its_index index is = index_is (Some index) is

  -- where there is an arm there is an index
  pub has_index : unit.index ≡ None → ⊥
  has_index none = let missing : unit_index (old_of m) (values_unit its_arm.target its_arm.arm) ≡ None = index_is None none in absurd cc
