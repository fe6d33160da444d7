-- What the parts of an arm make of it is what the arm is in its database.
use Rattle.std.proofs.Common.{◌≡◌, ℕ, Bool, true, false, not, ◌&&◌, ◌||◌, List, [], ◌∷◌, map, Option, Some, None, is_some, unwrap_or, position, nat_eq, nat_lt, refl, ap, ap₂, ◌∙◌, if◌then◌else◌}
use Rattle.std.specs.List.{flat_map, list_all, list_any}
use Rattle.std.specs.Option.{option_eq, option_map}
use Rattle.std.proofs.lemmas.List.{length-map}
use Rattle.bf_base.proofs.Order.{list_any-map}
use Rattle.bf_base.specs.Lists.{has}
use Rattle.bf_tree.specs.declared.migration.Arm.{Arm}
use Rattle.bf_tree.specs.declared.migration.Item.{Item}
use Rattle.bf_tree.specs.declared.migration.Join.{Join}
use Rattle.bf_tree.specs.declared.raw.Ref.{Ref}
use Rattle.bf_tree.specs.declared.plan.ArmKind.{ArmKind}
use Rattle.bf_tree.specs.declared.plan.ArmKind.TheVariants.{ByFrom, ByJoin, ByPair, ByGroup}
use Rattle.bf_sql.specs.Database.{Database}
use Rattle.bf_sql.specs.Scopes.{place_of}
use Rattle.bf_sql.specs.migrations.MigrationObjections.{is_by_group, is_grouped_item, tag_of}
use Rattle.bf_sql.specs.migrations.Placed.{placed_arm, placed_pair}
use Rattle.bf_sql.specs.migrations.Targets.{arm_kind, arm_scope, equalities, from_key, is_total, item_places, join_key, key_by, kind_by, plain_ref}
use Rattle.bf_plan.specs.Arms.{arm_of_kind, arm_of_parts, bound_arm, bound_parts, driver_of, inherits_by, is_grouped, key_item, unit_kind_of}
use Rattle.bf_bind.specs.ArmTables.{arm_tables, is_on, key_places, kind_by_places, placed_on}
use Rattle.bf_plan.specs.Items.{bound_item}
use Rattle.bf_plan.specs.declared.item.BoundItem.{BoundItem}

or-regrouped : (a b c : Bool) → ((a || b) || c) ≡ (a || (b || c))
or-regrouped true b c = refl
or-regrouped false b c = refl

module _ (db : Database) (arm : Arm) where
  places-bound : (items : List Item) → map (λ (i : BoundItem). i.place) (map (bound_item (arm_scope db arm)) items) ≡ map (λ i. option_map (place_of (arm_scope db arm)) (plain_ref i)) items
  places-bound [] = refl
  places-bound (i ∷ is) = ap (λ zs. option_map (place_of (arm_scope db arm)) (plain_ref i) ∷ zs) (places-bound is)

  totals-bound : (items : List Item) → list_all (λ (i : BoundItem). not i.is_total) (map (bound_item (arm_scope db arm)) items) ≡ list_all (λ i. not (is_total i)) items
  totals-bound [] = refl
  totals-bound (i ∷ is) = ap (λ b. not (is_total i) && b) (totals-bound is)

  grouped-bound : (items : List Item) → list_all (is_grouped (map (place_of (arm_scope db arm)) arm.group)) (map (bound_item (arm_scope db arm)) items) ≡ list_all (is_grouped_item db arm) items
  grouped-bound [] = refl
  grouped-bound (i ∷ is) =
      let place = place_of (arm_scope db arm) in
      let here : list_any (λ p. option_eq nat_eq (Some p) (option_map place (plain_ref i))) (map place arm.group) ≡ list_any (λ g. option_eq nat_eq (Some (place g)) (option_map place (plain_ref i))) arm.group =
      list_any-map (λ p. option_eq nat_eq (Some p) (option_map place (plain_ref i))) place arm.group in
      ap₂ (λ b c. (is_total i || b) && c) here (grouped-bound is)

  keys-bound : (kind : ArmKind) → map (key_item (map (bound_item (arm_scope db arm)) arm.items)) (key_places (arm_tables db arm) (map (place_of (arm_scope db arm)) arm.group) kind)
      ≡ map (λ k. position (option_eq nat_eq (Some k)) (item_places db arm)) (key_by db arm kind)
  keys-bound ByFrom = ap (λ ps. map (λ k. position (option_eq nat_eq (Some k)) ps) (key_by db arm ByFrom)) (places-bound arm.items)
  keys-bound ByJoin = ap (λ ps. map (λ k. position (option_eq nat_eq (Some k)) ps) (key_by db arm ByJoin)) (places-bound arm.items)
  keys-bound ByPair = ap (λ ps. map (λ k. position (option_eq nat_eq (Some k)) ps) (key_by db arm ByPair)) (places-bound arm.items)
  keys-bound ByGroup = ap (λ ps. map (λ k. position (option_eq nat_eq (Some k)) ps) (key_by db arm ByGroup)) (places-bound arm.items)

  inherits-bound : (kind : ArmKind) → inherits_by kind arm (bound_parts (arm_scope db arm) arm)
      ≡ (if is_by_group kind then not (is_some arm.join) && list_all (is_grouped_item db arm) arm.items else list_all (λ i. not (is_total i)) arm.items)
  inherits-bound ByFrom = totals-bound arm.items
  inherits-bound ByJoin = totals-bound arm.items
  inherits-bound ByPair = totals-bound arm.items
  inherits-bound ByGroup = ap (λ b. not (is_some arm.join) && b) (grouped-bound arm.items)

  -- ON by its pairs, and by the places that it names
  on-bound : (es : List (Ref × Ref)) (k : ℕ) → is_on (map (placed_pair (arm_scope db arm)) es) k ≡ has nat_eq (flat_map (λ e. place_of (arm_scope db arm) e.0 ∷ place_of (arm_scope db arm) e.1 ∷ []) es) k
  on-bound [] k = refl
  on-bound (e ∷ es) k =
      let rest = on-bound es k in
      or-regrouped (nat_eq k (place_of (arm_scope db arm) e.0)) (nat_eq k (place_of (arm_scope db arm) e.1)) (is_on (map (placed_pair (arm_scope db arm)) es) k)
      ∙ ap (λ b. nat_eq k (place_of (arm_scope db arm) e.0) || (nat_eq k (place_of (arm_scope db arm) e.1) || b)) rest

  all_on-bound : (es : List (Ref × Ref)) (ks : List ℕ) → list_all (is_on (map (placed_pair (arm_scope db arm)) es)) ks ≡ list_all (has nat_eq (flat_map (λ e. place_of (arm_scope db arm) e.0 ∷ place_of (arm_scope db arm) e.1 ∷ []) es)) ks
  all_on-bound es [] = refl
  all_on-bound es (k ∷ ks) = ap₂ (λ b c. b && c) (on-bound es k) (all_on-bound es ks)

  pairs-bound : (join : Option Join) → unwrap_or (option_map (λ j. map (placed_pair (arm_scope db arm)) j.on) join) [] ≡ map (placed_pair (arm_scope db arm)) (unwrap_or (option_map (λ j. j.on) join) [])
  pairs-bound None = refl
  pairs-bound (Some j) = refl

  joins-bound : (join : Option Join) → is_some (option_map (λ j. map (placed_pair (arm_scope db arm)) j.on) join) ≡ is_some join
  joins-bound None = refl
  joins-bound (Some j) = refl

  kind-bound : kind_by_places (arm_tables db arm) (placed_on (arm_scope db arm) arm) (map (place_of (arm_scope db arm)) arm.group) ≡ arm_kind db arm
  kind-bound =
      let count = length-map arm.group (place_of (arm_scope db arm)) in
      let joins = joins-bound arm.join in
      let from = ap (λ ps. list_all (is_on ps) (from_key db arm)) (pairs-bound arm.join) ∙ all_on-bound (equalities arm) (from_key db arm) in
      let join = ap (λ ps. list_all (is_on ps) (join_key db arm)) (pairs-bound arm.join) ∙ all_on-bound (equalities arm) (join_key db arm) in
      λ i. kind_by (nat_lt 0 (count i)) (joins i) (join i) (from i)

  pub arm-bound : arm_of_parts (arm_tables db arm) arm (bound_parts (arm_scope db arm) arm) ≡ bound_arm db arm
  arm-bound =
      ap (λ (kind : ArmKind). arm_of_kind kind (arm_tables db arm) arm (bound_parts (arm_scope db arm) arm)) kind-bound
      ∙ (λ i. record {
        items = map (bound_item (arm_scope db arm)) arm.items;
        key_items = keys-bound (arm_kind db arm) i;
        inherits_key = list_all is_some (keys-bound (arm_kind db arm) i) && inherits-bound (arm_kind db arm) i;
        tag = tag_of arm.items;
        unit_kind = unit_kind_of (arm_kind db arm);
        driver = driver_of (arm_kind db arm) arm;
        placed = placed_arm db arm;
      })
