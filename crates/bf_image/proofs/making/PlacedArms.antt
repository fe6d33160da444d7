-- An arm with places for names makes the same rows.
use Rattle.std.proofs.Common.{◌≡◌, Bool, cond, List, [], ◌∷◌, ◌++◌, map, filter, flat_map, Option, Some, None, refl, sym, ap, ap₂, ◌∙◌}
use Rattle.std.specs.Prelude.{pos, option_map}
use Rattle.std.specs.List.{list_all, reduce}
use Rattle.std.specs.Result.{result_unwrap_or}
use Rattle.std.proofs.lemmas.List.Folds.{list_all-map}
use Rattle.std.proofs.lemmas.Simd.{map-map}
use Rattle.bf_base.specs.declared.value.Value.{Value}
use Rattle.bf_base.specs.declared.value.Value.TheVariants.{Int}
use Rattle.bf_base.specs.Lists.{same_key}
use Rattle.bf_base.specs.Tables.{cell, cells}
use Rattle.bf_base.specs.Distinct.{distinct}
use Rattle.bf_tree.specs.declared.raw.Ref.{Ref}
use Rattle.bf_tree.specs.Trees.{Expr, expr_over, cond_over}
use Rattle.bf_tree.specs.Evaluation.{sure_value, holds_on}
use Rattle.bf_tree.proofs.Renamed.{value_of-expr_over, holds_on-cond_over}
use Rattle.bf_tree.specs.declared.items.Aggregate.{Aggregate}
use Rattle.bf_tree.specs.declared.items.Aggregate.TheVariants.{Count, Sum, Min, Max}
use Rattle.bf_tree.specs.declared.migration.Item.{Item}
use Rattle.bf_tree.specs.declared.migration.Item.TheVariants as item
use Rattle.bf_tree.specs.declared.migration.Join.{Join}
use Rattle.bf_tree.specs.declared.migration.Arm.{Arm}
use Rattle.bf_tree.specs.declared.plan.ArmKind.{ArmKind}
use Rattle.bf_tree.specs.declared.plan.ArmKind.TheVariants.{ByFrom, ByJoin, ByPair, ByGroup}
use Rattle.bf_sql.specs.Database.{Database}
use Rattle.bf_sql.specs.Bound.{total_over}
use Rattle.bf_sql.specs.Conditions.{condition_of}
use Rattle.bf_sql.specs.Scopes.{Scope, place_of, read_in}
use Rattle.bf_sql.specs.migrations.Targets.{arm_scope, arm_kind}
use Rattle.bf_sql.specs.migrations.Images.{first_row, value_or_nought, item_over, group_value, groups_by, is_equal_on, matches_of_join, satisfying, arm_rows}
use Rattle.bf_tree.specs.Totals.{lesser, greater, or_null, sum_of, values_of, total_of}
use Rattle.bf_sql.specs.migrations.Placed.{is_equal_at, placed_pair, placed_item, placed_arm, placed_over, placed_groups, placed_matches, placed_rows}

map_alike : {X Y : Type 0} (f g : X → Y) → ((x : X) → f x ≡ g x) → (xs : List X) → map f xs ≡ map g xs
map_alike f g one [] = refl
map_alike f g one (x ∷ xs) = ap₂ (λ y ys. y ∷ ys) (one x) (map_alike f g one xs)

filter_alike : {X : Type 0} (p q : X → Bool) → ((x : X) → p x ≡ q x) → (xs : List X) → filter p xs ≡ filter q xs
filter_alike p q one [] = refl
filter_alike p q one (x ∷ xs) = ap₂ (λ b zs. cond b (x ∷ zs) zs) (one x) (filter_alike p q one xs)

module _ (old : Database) (arm : Arm) where
  abbrev scope : Scope
  scope = arm_scope old arm

  sure_alike : (row : List Value) (e : Expr Ref) → sure_value (read_in scope row) e ≡ sure_value (cell row) (expr_over (place_of scope) e)
  sure_alike row e = sym (ap (λ r. result_unwrap_or r (Int (pos 0))) (value_of-expr_over (cell row) (place_of scope) e))

  values_alike : (rows : List (List Value)) (e : Expr Ref) → values_of (read_in scope) rows e ≡ values_of cell rows (expr_over (place_of scope) e)
  values_alike rows e = map_alike (λ row. sure_value (read_in scope row) e) (λ row. sure_value (cell row) (expr_over (place_of scope) e)) (λ row. sure_alike row e) rows

  total_alike : (rows : List (List Value)) (total : Aggregate (Expr Ref)) → total_of (read_in scope) rows total ≡ total_of cell rows (total_over (place_of scope) total)
  total_alike rows Count = refl
  total_alike rows (Sum e) = ap (λ vs. or_null (sum_of vs)) (values_alike rows e)
  total_alike rows (Min e) = ap (λ vs. or_null (reduce lesser vs)) (values_alike rows e)
  total_alike rows (Max e) = ap (λ vs. or_null (reduce greater vs)) (values_alike rows e)

  item_alike : (rows : List (List Value)) (i : Item) → item_over old arm rows i ≡ placed_over rows (placed_item scope i)
  item_alike rows (item.Column ref) = refl
  item_alike rows (item.Named e name) = sure_alike (first_row rows) e
  item_alike rows (item.Total total name) = ap value_or_nought (total_alike rows total)

  items_alike : (rows : List (List Value)) → map (item_over old arm rows) arm.items ≡ map (placed_over rows) (map (placed_item scope) arm.items)
  items_alike rows = map_alike (item_over old arm rows) (λ i. placed_over rows (placed_item scope i)) (item_alike rows) arm.items ∙ sym (map-map (placed_over rows) (placed_item scope) arm.items)

  value_alike : (row : List Value) → group_value old arm row ≡ cells (map (place_of scope) arm.group) row
  value_alike row = sym (map-map (cell row) (place_of scope) arm.group)

  groups_alike : (kind : ArmKind) (rows : List (List Value)) → groups_by old arm kind rows ≡ placed_groups (placed_arm old arm) kind rows
  groups_alike ByFrom rows = refl
  groups_alike ByJoin rows = refl
  groups_alike ByPair rows = refl
  groups_alike ByGroup rows =
      let value = cells (map (place_of scope) arm.group) in
      map_alike (λ g. filter (λ row. same_key g (group_value old arm row)) rows) (λ g. filter (λ row. same_key g (value row)) rows)
      (λ g. filter_alike (λ row. same_key g (group_value old arm row)) (λ row. same_key g (value row)) (λ row. ap (same_key g) (value_alike row)) rows) (distinct same_key (map (group_value old arm) rows))
      ∙ ap (λ vs. map (λ g. filter (λ row. same_key g (value row)) rows) (distinct same_key vs)) (map_alike (group_value old arm) value value_alike rows)

  matches_alike : (o : Option Join) (from join : List (List Value)) → matches_of_join old arm from join o
      ≡ placed_matches (placed_arm old arm) (option_map (λ j. map (placed_pair scope) j.on) o) from join
  matches_alike None from join = refl
  matches_alike (Some j) from join =
      filter_alike (λ row. list_all (is_equal_on scope row) j.on) (λ row. list_all (is_equal_at row) (map (placed_pair scope) j.on))
      (λ row. sym (list_all-map (is_equal_at row) (placed_pair scope) j.on)) (flat_map (λ r. map (λ s. r ++ s) join) from)

  satisfying_alike : (from join : List (List Value)) → satisfying old arm from join ≡ filter (λ row. holds_on (cell row) (cond_over (place_of scope) (condition_of arm.cond))) (placed_matches (placed_arm old arm) (placed_arm old arm).on from join)
  satisfying_alike from join =
      filter_alike (λ row. holds_on (read_in scope row) (condition_of arm.cond)) (λ row. holds_on (cell row) (cond_over (place_of scope) (condition_of arm.cond)))
      (λ row. sym (holds_on-cond_over (cell row) (place_of scope) (condition_of arm.cond))) (matches_of_join old arm from join arm.join)
      ∙ ap (filter (λ row. holds_on (cell row) (cond_over (place_of scope) (condition_of arm.cond)))) (matches_alike arm.join from join)

  pub placed_alike : (from join : List (List Value)) → arm_rows old arm from join ≡ placed_rows (placed_arm old arm) from join
  placed_alike from join =
      map_alike (λ rows. map (item_over old arm rows) arm.items) (λ rows. map (placed_over rows) (map (placed_item scope) arm.items)) items_alike (groups_by old arm (arm_kind old arm) (satisfying old arm from join))
      ∙ ap (map (λ rows. map (placed_over rows) (map (placed_item scope) arm.items))) (groups_alike (arm_kind old arm) (satisfying old arm from join) ∙ ap (placed_groups (placed_arm old arm) (arm_kind old arm)) (satisfying_alike from join))
