-- The values from which a row of an arm by pairs can come.
use Rattle.std.proofs.Common.{◌≡◌, ℕ, Bool, true, nat_lt, List, [], ◌∷◌, ◌++◌, map, filter, flat_map, length, take, Option, Some, None, option_map, unwrap_or, refl, sym, ap, ap₂, ◌∙◌, arith}
use Rattle.std.specs.Option.{option_to_list}
use Rattle.std.proofs.lemmas.Bool.Decides.{nat_tests}
use Rattle.std.proofs.lemmas.List.Folds.{flat_map-map}
use Rattle.bf_base.specs.declared.granule.Place.TheVariants.{Group}
use Rattle.bf_base.specs.declared.table.Table.{Table}
use Rattle.bf_base.specs.declared.value.Value.{Value}
use Rattle.bf_base.specs.Tables.{cells}
use Rattle.bf_heap.specs.Heaps.{row_under}
use Rattle.bf_tree.specs.declared.migration.Arm.{Arm}
use Rattle.bf_tree.specs.declared.migration.Join.{Join}
use Rattle.bf_tree.specs.declared.plan.ArmKind.{ArmKind}
use Rattle.bf_tree.specs.declared.plan.ArmKind.TheVariants.{ByGroup, ByPair}
use Rattle.bf_tree.specs.declared.plan.PlacedArm.{PlacedArm}
use Rattle.bf_tree.specs.declared.raw.Ref.{Ref}
use Rattle.bf_sql.specs.Scopes.{Scope, place_of}
use Rattle.bf_sql.specs.migrations.Granules.{left_places, left_value}
use Rattle.bf_sql.specs.migrations.Placed.{placed_pair}
use Rattle.bf_sql.specs.migrations.Targets.{arm_kind, arm_scope, kind_by, on_places, width}
use Rattle.bf_image.specs.BoundArms.{IsFrozenArm, places_in_from, places_of_on}
use Rattle.bf_image.specs.Lookup.{row_with, values_by}
use Rattle.bf_image.specs.Migrations.{IsLawfulMigration, old_of}
use Rattle.bf_image.specs.declared.arms.FrozenArm.{FrozenArm}
use Rattle.bf_image.specs.declared.migration.Migration.{Migration}
use Rattle.bf_image.proofs.owning.Stored.{row_is, table_is}

-- an arm by pairs has no groups
no_group : (group : List Ref) (joins on_join on_from : Bool) → kind_by (nat_lt 0 (length group)) joins on_join on_from ≡ ByPair → group ≡ []
no_group [] joins on_join on_from is = refl
no_group (ref ∷ refs) joins on_join on_from is =
    let many : nat_lt 0 (length (ref ∷ refs)) ≡ true = grind (arith, nat_tests) in
    let other : ByGroup ≡ ByPair = ap (λ b. kind_by b joins on_join on_from) (sym many) ∙ is in
    absurd cc

-- the places of ON are the same with places for names
on_placed : (scope : Scope) (join : Option Join)
    → places_of_on (option_map (λ j. map (placed_pair scope) j.on) join) ≡ flat_map (λ e. place_of scope e.0 ∷ place_of scope e.1 ∷ []) (unwrap_or (option_map (λ j. j.on) join) [])
on_placed scope None = refl
on_placed scope (Some j) = flat_map-map (λ pair. pair.0 ∷ pair.1 ∷ []) (placed_pair scope) j.on

module _ (m : Migration) (target : ℕ) (arm : Arm) (bound : FrozenArm) (is : IsFrozenArm m target arm bound) where
  width_is : length bound.from.now.table.columns ≡ width (old_of m) arm
  width_is = ap (λ (t : Table). length t.columns) (sym (table_is m arm.from bound.from.now is.from))

  -- an arm by pairs goes by the joined columns of FROM
  places_are : arm_kind (old_of m) arm ≡ ByPair → places_in_from bound ≡ left_places (old_of m) arm
  places_are pairs =
      let scope = arm_scope (old_of m) arm in
      let alone : map (place_of scope) arm.group ≡ [] = ap (map (place_of scope)) (no_group arm.group _ _ _ pairs) in
      ap (λ (p : PlacedArm). p.group ++ filter (λ n. nat_lt n (length bound.from.now.table.columns)) (places_of_on p.on)) is.placed
      ∙ ap₂ (λ group ns. group ++ filter (λ n. nat_lt n (length bound.from.now.table.columns)) ns) alone (on_placed scope arm.join)
      ∙ ap (λ (w : ℕ). filter (λ n. nat_lt n w) (on_places (old_of m) arm)) width_is

  pub kind_is : (kind : ArmKind) → bound.placed.now.kind ≡ kind → arm_kind (old_of m) arm ≡ kind
  kind_is kind e = sym (ap (λ (p : PlacedArm). p.kind) is.placed) ∙ e

  module _ (lawful : IsLawfulMigration m) (key front : List Value) (pairs : bound.placed.now.kind ≡ ByPair) (begins : front ≡ take (length bound.from.now.table.key) key) where
    sought : values_by (old_of m) arm key (arm_kind (old_of m) arm) ≡ option_to_list (option_map (left_value (old_of m) arm) (row_under bound.from.now.rows front))
    sought =
        ap (values_by (old_of m) arm key) (kind_is ByPair pairs)
        ∙ ap (λ (t : Table). option_to_list (option_map (left_value (old_of m) arm) (row_with (old_of m) arm.from (take (length t.key) key)))) (table_is m arm.from bound.from.now is.from)
        ∙ ap (λ ks. option_to_list (option_map (left_value (old_of m) arm) (row_with (old_of m) arm.from ks))) (sym begins)
        ∙ ap (λ o. option_to_list (option_map (left_value (old_of m) arm) o)) (sym (row_is m arm.from bound.from.now is.from lawful front))

    pub no_value : row_under bound.from.now.rows front ≡ None → [] ≡ map Group (values_by (old_of m) arm key (arm_kind (old_of m) arm))
    no_value none = sym (ap (map Group) (sought ∙ ap (λ o. option_to_list (option_map (left_value (old_of m) arm) o)) none))

    pub one_value : (row value : List Value) → row_under bound.from.now.rows front ≡ Some row → value ≡ cells (places_in_from bound) row → (Group value ∷ []) ≡ map Group (values_by (old_of m) arm key (arm_kind (old_of m) arm))
    one_value row value some made =
        ap (λ v. Group v ∷ []) (made ∙ ap (λ ps. cells ps row) (places_are (kind_is ByPair pairs)))
        ∙ sym (ap (map Group) (sought ∙ ap (λ o. option_to_list (option_map (left_value (old_of m) arm) o)) some))
