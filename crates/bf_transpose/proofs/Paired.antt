-- The granule of a unit by values from which a row with a key can come: of a unit by pairs that at which a row of FROM stands.
use Rattle.std.proofs.Common.{◌≡◌, ℕ, ◌<◌, ◌-◌, Bool, true, List, [], ◌∷◌, map, length, take, get_or, nat_lt, Option, Some, None, option_map, unwrap_or, if◌then◌else◌, refl, sym, ap, ◌∙◌, arith}
use Rattle.std.specs.Prelude.{position, slice_get}
use Rattle.std.specs.Option.{option_and_then, option_to_list}
use Rattle.std.proofs.lemmas.Bool.Decides.{nat_tests}
use Rattle.std.proofs.lemmas.List.Quantifiers.{position-Some}
use Rattle.std.proofs.lemmas.Option.{slice_get-get_or}
use Rattle.bf_base.specs.declared.granule.Granule.{Granule}
use Rattle.bf_base.specs.declared.granule.Place.TheVariants.{Group}
use Rattle.bf_base.specs.declared.table.Table.{Table}
use Rattle.bf_base.specs.declared.value.Value.{Value}
use Rattle.bf_base.specs.Lists.{same_key, same_name}
use Rattle.bf_heap.specs.Heaps.{Entry}
use Rattle.bf_tree.specs.declared.migration.Arm.{Arm}
use Rattle.bf_tree.specs.declared.migration.Target.{Target}
use Rattle.bf_tree.specs.declared.plan.ArmKind.{ArmKind}
use Rattle.bf_tree.specs.declared.plan.ArmKind.TheVariants.{ByPair, ByGroup}
use Rattle.bf_sql.specs.Database.{Database, table_rows}
use Rattle.bf_sql.specs.migrations.Granules.{UnitForm, rows_unit, values_unit, anchors_of, granule, left_value, right_value}
use Rattle.bf_sql.specs.migrations.Images.{rows_of_join}
use Rattle.bf_sql.specs.migrations.Targets.{arm_kind}
use Rattle.bf_image.specs.BoundArms.{IsFrozenArm, IsOfUnit}
use Rattle.bf_image.specs.Lookup.{anchor_value_by, has_the_key, places_by, row_with, values_by}
use Rattle.bf_image.specs.Migrations.{IsLawfulMigration, anchored_at, old_of, target_at, unit_at}
use Rattle.bf_image.specs.Owners.{candidates_at}
use Rattle.bf_image.specs.declared.arms.FrozenArm.{FrozenArm}
use Rattle.bf_image.specs.declared.migration.Migration.{Migration}
use Rattle.bf_image.proofs.cutting.Anchors.{place_is}
use Rattle.bf_image.proofs.items.Names.{name-itself}
use Rattle.bf_image.proofs.owning.Candidates.{place_by_arm}
use Rattle.bf_image.proofs.owning.Stored.{position_is, table_is}
use Rattle.bf_image.proofs.owning.Valued.{kind_is}
use Rattle.bf_transpose.proofs.Finding.{found_nowhere, found_there}

module _ (m : Migration) (lawful : IsLawfulMigration m) (unit : ℕ) (bound : FrozenArm) (of_unit : IsOfUnit m (unit_at m unit) (Some bound)) (key : List Value) where
  abbrev old : Database
  old = old_of m

  abbrev t : Target
  t = target_at m bound.target

  abbrev pub Comes : List Granule → Type 0
  Comes found = found ≡ candidates_at m t key unit

  -- none of a unit that goes by rows, as an arm by values never does
  pub none_by_kind : (kind : ArmKind) → bound.placed.now.kind ≡ kind → ((arm : Arm) → [] ≡ values_by old arm key kind) → Comes []
  none_by_kind kind is none =
      place_by_arm m lawful unit bound.target key bound [] of_unit refl
      (λ arm frozen. ap (map Group) (none arm ∙ ap (values_by old arm key) (sym (kind_is m bound.target arm bound frozen kind is))))

  -- the group that is the key
  pub by_group : bound.placed.now.kind ≡ ByGroup → Comes (granule unit (Group key) ∷ [])
  by_group is =
      place_by_arm m lawful unit bound.target key bound (Group key ∷ []) of_unit refl
      (λ arm frozen. ap (λ kind. map Group (values_by old arm key kind)) (sym (kind_is m bound.target arm bound frozen ByGroup is)))

  module _ (pairs : bound.placed.now.kind ≡ ByPair) (front : List Value) (begins : front ≡ take (length bound.from.now.table.key) key) where
    abbrev sought : Option ℕ
    sought = position (λ (e : Entry). same_key front e.0) bound.from.now.rows

    module _ (arm : Arm) (frozen : IsFrozenArm m bound.target arm bound) where
      abbrev rows : List (List Value)
      rows = table_rows old arm.from

      abbrev is_it : List Value → Bool
      is_it = has_the_key old arm.from front

      by_pairs : arm_kind old arm ≡ ByPair
      by_pairs = kind_is m bound.target arm bound frozen ByPair pairs

      placed : sought ≡ position is_it rows
      placed = position_is m arm.from bound.from.now frozen.from lawful front

      values_are : values_by old arm key (arm_kind old arm) ≡ option_to_list (option_map (left_value old arm) (row_with old arm.from front))
      values_are =
          ap (values_by old arm key) by_pairs
          ∙ ap (λ (table : Table). option_to_list (option_map (left_value old arm) (row_with old arm.from (take (length table.key) key)))) (table_is m arm.from bound.from.now frozen.from)
          ∙ ap (λ ks. option_to_list (option_map (left_value old arm) (row_with old arm.from ks))) (sym begins)

      values_if_nowhere : sought ≡ None → [] ≡ values_by old arm key (arm_kind old arm)
      values_if_nowhere none = sym (values_are ∙ ap (λ o. option_to_list (option_map (left_value old arm) o)) (found_nowhere is_it rows (sym placed ∙ none)))

      module _ (at : ℕ) (is : sought ≡ Some at) where
        abbrev row : List Value
        row = get_or rows at []

        there : position is_it rows ≡ Some at
        there = sym placed ∙ is

        within : at < length rows
        within = (position-Some is_it rows at [] there).0

        values_there : values_by old arm key (arm_kind old arm) ≡ left_value old arm row ∷ []
        values_there = values_are ∙ ap (λ o. option_to_list (option_map (left_value old arm) o)) (found_there is_it rows at [] there)

        anchored : (target : Target) → slice_get (anchors_of old (values_unit target arm)) at ≡ Some (Group (left_value old arm row))
        anchored target =
            let below : nat_lt at (length rows) ≡ true = grind (arith, nat_tests, within) in
            place_is old (values_unit target arm) at
            ∙ ap (λ kind. option_map Group (anchor_value_by old arm kind at)) by_pairs
            ∙ ap (λ b. option_map Group (if b then option_map (left_value old arm) (slice_get rows at) else option_map (right_value old arm) (slice_get (rows_of_join old arm.join) (at - length rows)))) below
            ∙ ap (λ o. option_map Group (option_map (left_value old arm) o)) (slice_get-get_or rows at [] within)

    -- no row of FROM has the front of the key
    pub none_by_pair : sought ≡ None → Comes []
    none_by_pair none = place_by_arm m lawful unit bound.target key bound [] of_unit refl (λ arm frozen. ap (map Group) (values_if_nowhere arm frozen none))

    -- one has it
    abbrev of_form : Option UnitForm → List Granule
    of_form o = unwrap_or (option_map (λ form. map (granule unit) (places_by old t key form)) o) []

    pub by_pair : (at : ℕ) → sought ≡ Some at → Comes (option_to_list (anchored_at m unit at))
    by_pair at is = of (unit_at m unit) of_unit
      where
        of : (o : Option UnitForm) → IsOfUnit m o (Some bound) → option_to_list (option_and_then (λ u. option_map (granule unit) (slice_get (anchors_of old u) at)) o) ≡ of_form o
        of None bad = absurd bad
        of (Some (rows_unit driver)) bad = absurd bad
        of (Some (values_unit its arm)) both =
            let named : same_name its.name t.name ≡ true = ap (λ (s : Target). same_name its.name s.name) both.1 ∙ name-itself its.name in
            ap (λ o. option_to_list (option_map (granule unit) o)) (anchored arm both.0 at is its)
            ∙ ap (λ vs. map (granule unit) (map Group vs)) (sym (values_there arm both.0 at is))
            ∙ ap (λ b. map (granule unit) (if b then map Group (values_by old arm key (arm_kind old arm)) else [])) (sym named)
