-- The tables of a bound arm, and the values of their rows by which the arm goes.
use Rattle.std.proofs.Common.{◌≡◌, ℕ, ◌-◌, Bool, true, false, nat_le, nat_lt, List, [], ◌∷◌, ◌++◌, map, filter, flat_map, length, Some, None, refl, sym, ap, ap₂, ◌∙◌, append-nil, arith}
use Rattle.std.proofs.lemmas.Bool.{false≢true}
use Rattle.std.proofs.lemmas.Bool.Decides.{nat_tests}
use Rattle.std.specs.Prelude.{Option, option_map, unwrap_or}
use Rattle.std.proofs.lemmas.List.Folds.{flat_map-map}
use Rattle.std.proofs.lemmas.Simd.{map-map}
use Rattle.bf_base.specs.declared.table.Table.{Table}
use Rattle.bf_base.specs.declared.value.Value.{Value}
use Rattle.bf_base.specs.Tables.{cell, cells}
use Rattle.bf_heap.specs.Heaps.{Entry}
use Rattle.bf_tree.specs.declared.migration.Arm.{Arm}
use Rattle.bf_tree.specs.declared.migration.Join.{Join}
use Rattle.bf_tree.specs.declared.plan.ArmKind.TheVariants.{ByPair}
use Rattle.bf_tree.specs.declared.plan.PlacedArm.{PlacedArm}
use Rattle.bf_tree.specs.declared.raw.Ref.{Ref}
use Rattle.bf_sql.specs.Database.{Stored, no_table, table_at, table_rows}
use Rattle.bf_sql.specs.Scopes.{Scope, place_of}
use Rattle.bf_sql.specs.migrations.Granules.{left_places, left_value, right_places, right_value}
use Rattle.bf_sql.specs.migrations.Images.{group_value, rows_of_join}
use Rattle.bf_sql.specs.migrations.Placed.{placed_pair}
use Rattle.bf_sql.specs.migrations.Targets.{arm_kind, arm_scope, kind_by, on_places, width}
use Rattle.bf_image.specs.BoundArms.{IsFrozenArm, IsJoined, places_in_from, places_in_join, places_of_on, width_of}
use Rattle.bf_image.specs.Migrations.{old_of, source_of, stored_of}
use Rattle.bf_image.specs.declared.arms.FrozenArm.{FrozenArm}
use Rattle.bf_image.specs.declared.migration.Frozen.{Frozen}
use Rattle.bf_image.specs.declared.migration.Migration.{Migration}
use Rattle.bf_image.proofs.planning.Sourced.{stored_source}

abbrev pub rows_in : List Entry → List (List Value)
rows_in entries = map (λ entry. entry.1) entries

-- the old table of JOIN, if the arm has one
abbrev pub joined_of : FrozenArm → Option Frozen
joined_of bound = option_map (λ join. join.now) bound.join

abbrev pub rows_joined : Option Frozen → List (List Value)
rows_joined None = []
rows_joined (Some frozen) = rows_in frozen.rows

-- the kinds of arms that tell their groups
grouped_by : (g j a b : Bool) → kind_by g j a b ≡ ByPair → g ≡ false
grouped_by true j a b e = absurd cc
grouped_by false j a b e = refl

module _ (m : Migration) where
  pub table_found : (name : List ℕ) (frozen : Frozen) → source_of m name ≡ Some frozen → table_at (old_of m) name ≡ frozen.table
  table_found name frozen e = ap (λ (o : Option Stored). unwrap_or (option_map (λ (s : Stored). s.table) o) no_table) (stored_source m name ∙ ap (option_map stored_of) e)

  pub rows_found : (name : List ℕ) (frozen : Frozen) → source_of m name ≡ Some frozen → table_rows (old_of m) name ≡ rows_in frozen.rows
  rows_found name frozen e = ap (λ (o : Option Stored). unwrap_or (option_map (λ (s : Stored). s.rows) o) []) (stored_source m name ∙ ap (option_map stored_of) e)

  module _ (target : ℕ) (arm : Arm) (bound : FrozenArm) (is : IsFrozenArm m target arm bound) where
    abbrev scope : Scope
    scope = arm_scope (old_of m) arm

    pub from_table : table_at (old_of m) arm.from ≡ bound.from.now.table
    from_table = table_found arm.from bound.from.now is.from

    pub from_rows : table_rows (old_of m) arm.from ≡ rows_in bound.from.now.rows
    from_rows = rows_found arm.from bound.from.now is.from

    pub from_width : width (old_of m) arm ≡ width_of bound
    from_width = ap (λ (t : Table). length t.columns) from_table

    pub joined_rows : rows_of_join (old_of m) arm.join ≡ rows_joined (joined_of bound)
    joined_rows = of arm.join (joined_of bound) is.join
      where
        of : (j : Option Join) (f : Option Frozen) → IsJoined m j f → rows_of_join (old_of m) j ≡ rows_joined f
        of None None is = refl
        of None (Some f) is = absurd is
        of (Some j) None is = absurd is
        of (Some j) (Some f) is = rows_found j.table f is

    -- the kind of the arm is known
    pub kind_is : bound.placed.now.kind ≡ arm_kind (old_of m) arm
    kind_is = ap (λ (p : PlacedArm). p.kind) is.placed

    on_is : places_of_on bound.placed.now.on ≡ on_places (old_of m) arm
    on_is = ap (λ (p : PlacedArm). places_of_on p.on) is.placed ∙ of arm.join
      where
        of : (j : Option Join) → places_of_on (option_map (λ (j : Join). map (placed_pair scope) j.on) j) ≡ flat_map (λ (e : Ref × Ref). place_of scope e.0 ∷ place_of scope e.1 ∷ []) (unwrap_or (option_map (λ (j : Join). j.on) j) [])
        of None = refl
        of (Some j) = flat_map-map (λ (p : ℕ × ℕ). p.0 ∷ p.1 ∷ []) (placed_pair scope) j.on

    group_is : bound.placed.now.group ≡ map (place_of scope) arm.group
    group_is = ap (λ (p : PlacedArm). p.group) is.placed

    -- the places by whose values the arm goes, as places for its refs
    pub from_places_are : places_in_from bound ≡ map (place_of scope) arm.group ++ left_places (old_of m) arm
    from_places_are = ap₂ (λ ps qs. ps ++ qs) group_is (ap (filter (λ p. nat_lt p (width_of bound))) on_is ∙ ap (λ w. filter (λ p. nat_lt p w) (on_places (old_of m) arm)) (sym from_width))

    pub join_places_are : places_in_join bound ≡ map (λ p. p - width (old_of m) arm) (right_places (old_of m) arm)
    join_places_are =
        ap (λ ps. map (λ p. p - width_of bound) (filter (λ p. nat_le (width_of bound) p) ps)) on_is
        ∙ ap (λ w. map (λ p. p - w) (filter (λ p. nat_le w p) (on_places (old_of m) arm))) (sym from_width)

    -- an arm that goes by pairs has no groups, and one that goes by groups and has no JOIN has no ON
    pub pair_places : arm_kind (old_of m) arm ≡ ByPair → places_in_from bound ≡ left_places (old_of m) arm
    pair_places kind = from_places_are ∙ ap (λ (g : List Ref). map (place_of scope) g ++ left_places (old_of m) arm) (none arm.group (grouped_by _ _ _ _ kind))
      where
        none : (g : List Ref) → nat_lt 0 (length g) ≡ false → g ≡ []
        none [] e = refl
        none (r ∷ rs) e = let some : nat_lt 0 (length (r ∷ rs)) ≡ true = grind (arith, nat_tests) in absurd (false≢true (sym e ∙ some))

    pub group_places : arm.join ≡ None → places_in_from bound ≡ map (place_of scope) arm.group
    group_places alone =
        from_places_are
        ∙ ap (λ (j : Option Join). map (place_of scope) arm.group ++ filter (λ p. nat_lt p (width (old_of m) arm)) (flat_map (λ (e : Ref × Ref). place_of scope e.0 ∷ place_of scope e.1 ∷ []) (unwrap_or (option_map (λ (j : Join). j.on) j) []))) alone
        ∙ append-nil (map (place_of scope) arm.group)

    -- the values at those places are the arm's
    pub group_cells : arm.join ≡ None → (row : List Value) → cells (places_in_from bound) row ≡ group_value (old_of m) arm row
    group_cells alone row = ap (λ ps. cells ps row) (group_places alone) ∙ map-map (cell row) (place_of scope) arm.group

    pub left_cells : arm_kind (old_of m) arm ≡ ByPair → (row : List Value) → cells (places_in_from bound) row ≡ left_value (old_of m) arm row
    left_cells kind row = ap (λ ps. cells ps row) (pair_places kind)

    pub right_cells : (row : List Value) → cells (places_in_join bound) row ≡ right_value (old_of m) arm row
    right_cells row = ap (λ ps. cells ps row) join_places_are ∙ map-map (cell row) (λ p. p - width (old_of m) arm) (right_places (old_of m) arm)
