-- The row of the other table that a driver's row meets, by the places of ON.
use Rattle.std.proofs.Common.{◌≡◌, ℕ, ◌+◌, ◌-◌, List, [], ◌∷◌, map, flat_map, length, Option, Some, None, is_some, sym, refl, ap, ap₂, ◌∙◌, arith}
use Rattle.std.specs.Prelude.{MatchOption, option_map, unwrap_or}
use Rattle.std.specs.Option.{option_to_list}
use Rattle.std.proofs.lemmas.Bool.{false≢true}
use Rattle.std.proofs.lemmas.List.{append-nil}
use Rattle.std.proofs.lemmas.Simd.{map-map}
use Rattle.bf_base.specs.declared.value.Value.{Value}
use Rattle.bf_base.specs.Tables.{cell}
use Rattle.bf_heap.specs.Heaps.{row_under}
use Rattle.bf_tree.specs.declared.migration.Arm.{Arm}
use Rattle.bf_tree.specs.declared.migration.Join.{Join}
use Rattle.bf_tree.specs.declared.plan.ArmKind.TheVariants.{ByJoin}
use Rattle.bf_tree.specs.declared.plan.PlacedArm.{PlacedArm}
use Rattle.bf_sql.specs.Database.{Database, table_at}
use Rattle.bf_sql.specs.migrations.Images.{arm_rows}
use Rattle.bf_sql.specs.migrations.Placed.{placed_pair, placed_rows}
use Rattle.bf_sql.specs.migrations.Targets.{arm_kind, arm_scope, equalities, join_key, names_of_join, width}
use Rattle.bf_image.specs.BoundArms.{IsFrozenArm, IsJoined}
use Rattle.bf_image.specs.Lookup.{partner, join_met, from_met, row_with, join_rows_met, from_rows_met}
use Rattle.bf_image.specs.Migrations.{IsLawfulMigration, old_of, source_of}
use Rattle.bf_image.specs.declared.arms.FrozenArm.{FrozenArm}
use Rattle.bf_image.specs.declared.migration.Frozen.{Frozen}
use Rattle.bf_image.specs.declared.migration.Migration.{Migration}
use Rattle.bf_image.proofs.making.PlacedArms.{placed_alike}
use Rattle.bf_image.proofs.making.Unobjected.{joins_by_join}
use Rattle.bf_image.proofs.parting.OldTables.{table_found, row_found}

-- an option as a slice is its list
pub as_listed : {X Y : Type 0} (f : X → Y) (met : Option X) (slice : List X) → MatchOption met (slice ≡ []) (λ x. slice ≡ x ∷ []) → map f slice ≡ option_to_list (option_map f met)
as_listed f None slice is = ap (map f) is
as_listed f (Some x) slice is = ap (map f) is

module _ (m : Migration) (target : ℕ) (arm : Arm) (bound : FrozenArm) (frozen : IsFrozenArm m target arm bound) where
  -- a bound arm makes the rows of its arm
  pub rows_of_bound : (from join : List (List Value)) → placed_rows bound.placed.now from join ≡ arm_rows (old_of m) arm from join
  rows_of_bound from join = ap (λ p. placed_rows p from join) frozen.placed ∙ sym (placed_alike (old_of m) arm from join)

-- the JOIN of an arm whose bound form has one
pub record HasJoin (m : Migration) (arm : Arm) (on : List (ℕ × ℕ)) (join : Frozen) : Type 0 where
  pub j : Join
  pub joined : arm.join ≡ Some j
  pub found : source_of m j.table ≡ Some join
  pub placed : on ≡ map (placed_pair (arm_scope (old_of m) arm)) j.on

module _ (m : Migration) (arm : Arm) where
  abbrev old : Database
  old = old_of m

  abbrev on_of : Option Join → Option (List (ℕ × ℕ))
  on_of o = option_map (λ j. map (placed_pair (arm_scope old arm)) j.on) o

  has_join : (o : Option Join) (bound : Option Frozen) (on : List (ℕ × ℕ)) (join : Frozen) → arm.join ≡ o → IsJoined m o bound → Some on ≡ on_of o → bound ≡ Some join → HasJoin m arm on join
  has_join None None on join is same placed there = absurd cc
  has_join None (Some frozen) on join is same placed there = absurd same
  has_join (Some j) None on join is same placed there = absurd same
  has_join (Some j) (Some frozen) on join is same placed there =
      let one : frozen ≡ join = cc in
      let places : on ≡ map (placed_pair (arm_scope old arm)) j.on = cc in
      record { j = j; joined = is; found = same ∙ ap Some one; placed = places }

  pub with_join : (target : ℕ) (bound : FrozenArm) → IsFrozenArm m target arm bound → (on : List (ℕ × ℕ)) (join : Frozen) → bound.placed.now.on ≡ Some on → option_map (λ j. j.now) bound.join ≡ Some join → HasJoin m arm on join
  with_join target bound frozen on join placed there =
      has_join arm.join (option_map (λ j. j.now) bound.join) on join refl frozen.join (sym placed ∙ ap (λ (p : PlacedArm). p.on) frozen.placed) there

  on_join : (o : Option Join) (on : Option (List (ℕ × ℕ))) → arm.join ≡ o → on ≡ on_of o → arm_kind old arm ≡ ByJoin → (pairs : List (ℕ × ℕ)) × (on ≡ Some pairs)
  on_join None on is placed by_join = absurd (false≢true (sym (ap is_some is) ∙ joins_by_join _ (is_some arm.join) _ _ by_join))
  on_join (Some j) on is placed by_join = (map (placed_pair (arm_scope old arm)) j.on, placed)

  -- an arm that the rows of JOIN drive has an ON
  pub has_on : (target : ℕ) (bound : FrozenArm) → IsFrozenArm m target arm bound → arm_kind old arm ≡ ByJoin → (pairs : List (ℕ × ℕ)) × (bound.placed.now.on ≡ Some pairs)
  has_on target bound frozen by_join = on_join arm.join bound.placed.now.on refl (ap (λ (p : PlacedArm). p.on) frozen.placed) by_join

  pairs_of : (o : Option Join) (on : List (ℕ × ℕ)) → arm.join ≡ o → Some on ≡ on_of o → on ≡ map (placed_pair (arm_scope old arm)) (equalities arm)
  pairs_of None on is placed = absurd cc
  pairs_of (Some j) on is placed =
      let places : on ≡ map (placed_pair (arm_scope old arm)) j.on = cc in
      places ∙ sym (ap (λ (o : Option Join). map (placed_pair (arm_scope old arm)) (unwrap_or (option_map (λ j. j.on) o) [])) is)

  -- the pairs of ON are those of the equalities
  pub pairs_are : (target : ℕ) (bound : FrozenArm) → IsFrozenArm m target arm bound → (on : List (ℕ × ℕ)) → bound.placed.now.on ≡ Some on → on ≡ map (placed_pair (arm_scope old arm)) (equalities arm)
  pairs_are target bound frozen on is = pairs_of arm.join on refl (sym is ∙ ap (λ (p : PlacedArm). p.on) frozen.placed)

  module _ (lawful : IsLawfulMigration m) (from : Frozen) (found_from : source_of m arm.from ≡ Some from) (row : List Value) where
    wide : width old arm ≡ length from.table.columns
    wide = ap (λ t. length t.columns) (table_found m arm.from from found_from)

    module _ (on : List (ℕ × ℕ)) (join : Frozen) (has : HasJoin m arm on join) where
      equal_on : equalities arm ≡ has.j.on
      equal_on = ap (λ (o : Option Join). unwrap_or (option_map (λ j. j.on) o) []) has.joined

      one_name : names_of_join arm ≡ has.j.table ∷ []
      one_name = ap (λ (o : Option Join). unwrap_or (option_map (λ j. j.table ∷ []) o) []) has.joined

      joined_key : join_key old arm ≡ map (λ p. width old arm + p) join.table.key
      joined_key =
          ap (flat_map (λ name. map (λ p. width old arm + p) (table_at old name).key)) one_name
          ∙ append-nil (map (λ p. width old arm + p) (table_at old has.j.table).key)
          ∙ ap (λ t. map (λ p. width old arm + p) t.key) (table_found m has.j.table join has.found)

      met_in_join : join_met old arm row ≡ map (λ p. cell row (partner (arm_scope old arm) has.j.on (length from.table.columns + p) - 0)) join.table.key
      met_in_join =
          ap₂ (λ pairs places. map (λ p. cell row (partner (arm_scope old arm) pairs p)) places) equal_on joined_key
          ∙ map-map (λ p. cell row (partner (arm_scope old arm) has.j.on p)) (λ p. width old arm + p) join.table.key
          ∙ (λ i. map (λ p. cell row (same p i)) join.table.key)
        where
          same : (p : ℕ) → partner (arm_scope old arm) has.j.on (width old arm + p) ≡ partner (arm_scope old arm) has.j.on (length from.table.columns + p) - 0
          same p =
              let all : (n : ℕ) → n ≡ n - 0 = λ n. omega arith in
              ap (λ w. partner (arm_scope old arm) has.j.on (w + p)) wide ∙ all (partner (arm_scope old arm) has.j.on (length from.table.columns + p))

      -- the row of JOIN that stands under the key
      pub join_rows_are : (key : List Value) → key ≡ map (λ p. cell row (partner (arm_scope old arm) has.j.on (length from.table.columns + p) - 0)) join.table.key
          → option_to_list (row_under join.rows key) ≡ join_rows_met old arm row
      join_rows_are key is =
          ap option_to_list (row_found m has.j.table join has.found lawful key ∙ ap (row_with old has.j.table) (is ∙ sym met_in_join))
          ∙ sym (append-nil (option_to_list (row_with old has.j.table (join_met old arm row))))
          ∙ sym (ap (flat_map (λ name. option_to_list (row_with old name (join_met old arm row)))) one_name)

    -- the row of FROM that stands under the key
    pub from_rows_are : (key : List Value) → key ≡ map (λ p. cell row (partner (arm_scope old arm) (equalities arm) (0 + p) - length from.table.columns)) from.table.key
        → option_to_list (row_under from.rows key) ≡ from_rows_met old arm row
    from_rows_are key is =
        ap option_to_list (row_found m arm.from from found_from lawful key ∙ ap (row_with old arm.from) (is ∙ sym met_in_from))
      where
        same : (p : ℕ) → partner (arm_scope old arm) (equalities arm) p - width old arm ≡ partner (arm_scope old arm) (equalities arm) (0 + p) - length from.table.columns
        same p = let e : p ≡ 0 + p = omega arith in ap₂ (λ q w. partner (arm_scope old arm) (equalities arm) q - w) e wide

        met_in_from : from_met old arm row ≡ map (λ p. cell row (partner (arm_scope old arm) (equalities arm) (0 + p) - length from.table.columns)) from.table.key
        met_in_from =
            ap (λ t. map (λ p. cell row (partner (arm_scope old arm) (equalities arm) p - width old arm)) t.key) (table_found m arm.from from found_from)
            ∙ (λ i. map (λ p. cell row (same p i)) from.table.key)
