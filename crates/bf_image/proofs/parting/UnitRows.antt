-- The rows of a unit by rows, arm by arm.
use Rattle.std.proofs.Common.{◌≡◌, ℕ, zero, suc, ◌+◌, ◌<◌, List, [], ◌∷◌, ◌++◌, map, length, get_or, take, Some, None, IsTrue, sym, ap, ◌∙◌, subst, arith}
use Rattle.std.specs.List.{AllByRecursion, flat_map}
use Rattle.std.proofs.lemmas.Simd.{map-map}
use Rattle.bf_base.specs.declared.value.Value.{Value}
use Rattle.bf_tree.specs.declared.migration.Target.{Target}
use Rattle.bf_tree.specs.declared.plan.PlacedArm.{PlacedArm}
use Rattle.bf_sql.specs.migrations.Granules.{rows_driven}
use Rattle.bf_sql.specs.migrations.MigrationObjections.{is_by_row}
use Rattle.bf_sql.specs.migrations.Plans.{rows_unit_of}
use Rattle.bf_sql.specs.migrations.Targets.{arm_kind}
use Rattle.bf_image.specs.ArmRows.{CanMake}
use Rattle.bf_image.specs.BoundArms.{IsFound, IsFrozenArm, arm_at}
use Rattle.bf_image.specs.Migrations.{AreBehind, IsLawfulMigration, old_of, target_at}
use Rattle.bf_image.specs.PlannedUnits.{arm_named}
use Rattle.bf_image.specs.declared.arms.FrozenArm.{FrozenArm}
use Rattle.bf_image.specs.declared.migration.Migration.{Migration}
use Rattle.bf_image.proofs.parting.Behind.{behind_more}
use Rattle.bf_image.proofs.parting.Blocks.{one_more_block}
use Rattle.bf_image.proofs.parting.DriverRows.{IsDriven, all_driven, by_row, makes_any}
use Rattle.bf_image.proofs.planning.Driven.{rows_by_numbers}
use Rattle.bf_image.proofs.planning.Units.{arm_at_named}

each_get : {X : Type 0} (P : X → Type 0) (xs : List X) (i : ℕ) (d : X) → AllByRecursion P xs → i < length xs → P (get_or xs i d)
each_get P [] i d all within = absurd (omega arith)
each_get P (x ∷ xs) zero d all within = all.0
each_get P (x ∷ xs) (suc i) d all within = each_get P xs i d all.1 (omega arith)

module _ (m : Migration) (driver : List ℕ) (arms : List (ℕ × ℕ)) (planned : arms ≡ (rows_unit_of (old_of m) m.plan.migrate driver).arms) (i : ℕ) (within : i < length arms) where
  abbrev pub pair : ℕ × ℕ
  pair = get_or arms i (0, 0)

  -- the table drives the arm
  pub driven_here : IsDriven (old_of m) m.plan.migrate driver pair
  driven_here =
      each_get (IsDriven (old_of m) m.plan.migrate driver) arms i (0, 0)
      (subst (AllByRecursion (IsDriven (old_of m) m.plan.migrate driver)) (sym planned) (all_driven (old_of m) m.plan.migrate driver)) within

  -- what is found at its numbers is the arm, bound
  pub bound_here : (bound : FrozenArm) → IsFound m pair.0 (arm_at m pair.0 pair.1) (Some bound) → IsFrozenArm m pair.0 (arm_named m.plan.migrate pair) bound
  bound_here bound found = subst (λ o. IsFound m pair.0 o (Some bound)) (arm_at_named m pair driven_here.named) found

  pub found_here : IsFound m pair.0 (arm_at m pair.0 pair.1) None → ⊥
  found_here missing = subst (λ o. IsFound m pair.0 o None) (arm_at_named m pair driven_here.named) missing

  module _ (lawful : IsLawfulMigration m) (bound : FrozenArm) (found : IsFound m pair.0 (arm_at m pair.0 pair.1) (Some bound)) where
    -- it goes by rows, and nothing stands in the way of its rows
    pub bound_by_row : IsTrue (is_by_row bound.placed.now.kind)
    bound_by_row = ap (λ (p : PlacedArm). is_by_row p.kind) (bound_here bound found).placed ∙ by_row (old_of m) m.plan.migrate lawful.lawful driver pair driven_here

    pub bound_makes_any : (from join : List (List Value)) → CanMake bound.placed.now from join
    bound_makes_any from join = subst (λ p. CanMake p from join) (sym (bound_here bound found).placed) (makes_any (old_of m) m.plan.migrate lawful.lawful driver pair driven_here from join)

  -- the rows of one more arm
  module _ (at : ℕ) where
    abbrev named : ℕ × List Value → Target × List Value
    named p = (target_at m p.0, p.1)

    abbrev by_arm : ℕ × ℕ → List (Target × List Value)
    by_arm = rows_by_numbers (old_of m) m.plan.migrate driver at

    pub more_rows : (first before all : List (ℕ × List Value)) (made : List (List Value)) → all ≡ before ++ map (λ row. (pair.0, row)) made
        → made ≡ rows_driven (old_of m) (arm_named m.plan.migrate pair) (arm_kind (old_of m) (arm_named m.plan.migrate pair)) driver at
        → AreBehind m (flat_map by_arm (take i arms)) first before → AreBehind m (flat_map by_arm (take (i + 1) arms)) first all
    more_rows first before all made joined is so_far =
        subst (λ (rows : List (Target × List Value)). AreBehind m rows first all) (sym (one_more_block by_arm arms i (0, 0) within))
        (behind_more m (map (λ row. (pair.0, row)) made) so_far joined (map-map named (λ row. (pair.0, row)) made ∙ ap (map (λ row. (target_at m pair.0, row))) is))
