-- What the catalog alone decides of arms and targets, over two databases that have the same tables under some names.
use lib.Pointwise.{pointwise}
use Rattle.std.proofs.Common.{◌≡◌, ℕ, ◌+◌, Bool, true, not, ◌&&◌, ◌||◌, ◌==◌, if◌then◌else◌, nat_eq, nat_lt, List, [], ◌∷◌, ◌++◌, map, flat_map, length, take, drop, position, Option, Some, None, is_some, refl, sym, ap, ap₂, ◌∙◌}
use Rattle.std.specs.Prelude.{option_map, unwrap_or, filter_map}
use Rattle.std.specs.List.{list_any, list_all, reduce, enumerate_from}
use Rattle.std.specs.Option.{option_eq}
use Rattle.std.specs.Ordering.{int_eq}
use Rattle.std.proofs.lemmas.Bool.{and_parts}
use Rattle.bf_base.specs.declared.table.Admit.TheVariants as admits
use Rattle.bf_base.specs.declared.table.Table.{Table}
use Rattle.bf_base.specs.Distinct.{distinct}
use Rattle.bf_base.specs.Lists.{same_name, has, with_before, when}
use Rattle.bf_base.specs.Tables.{same_kind}
use Rattle.bf_base.specs.declared.value.Value.{Value}
use Rattle.bf_tree.specs.Trees.{column, cond_over}
use Rattle.bf_tree.specs.declared.migration.Arm.{Arm}
use Rattle.bf_tree.specs.declared.migration.Target.{Target}
use Rattle.bf_tree.specs.declared.migration.Migrate.{Migrate}
use Rattle.bf_tree.specs.declared.reply.Refusal.TheVariants as refusal
use Rattle.bf_tree.specs.declared.plan.ArmKind.{ArmKind}
use Rattle.bf_tree.specs.declared.plan.ArmKind.TheVariants.{ByFrom, ByJoin, ByPair, ByGroup}
use Rattle.bf_sql.specs.Conditions.{condition_of}
use Rattle.bf_sql.specs.Database.{Database, Stored, stored_at, table_at, no_table}
use Rattle.bf_sql.specs.Scopes.{Scope, scope_of, place_of, kind_in, kind_objections, twice_objections, ref_objections, cond_objections}
use Rattle.bf_sql.specs.migrations.Extents.{may_fail}
use Rattle.bf_sql.specs.migrations.Images.{arm_rows}
use Rattle.bf_sql.specs.migrations.MigrationObjections.{item_objections, group_objections, source_objections, arm_objections, kind_of_item, item_kinds, is_by_row, is_by_group, inherits_key, tag_of, keeps_apart, failing_objections, target_objections, driver_by, drivers_of}
use Rattle.bf_sql.specs.migrations.Targets.{kind_by, names_of_join, equalities, arm_sources, arm_scope, width, from_key, join_key, on_places, arm_kind, key_by, arm_key, plain_ref, is_total, item_name, key_items, extent_of_item, item_admit, either_admit, first_arm, target_table}
use Rattle.bf_tree.specs.declared.plan.PlacedArm.{PlacedArm}
use Rattle.bf_sql.specs.migrations.Placed.{placed_item, placed_pair, placed_arm, placed_rows}
use Rattle.bf_image.specs.Sources.{table_under}
use Rattle.bf_index.proofs.Bags.{blocks_equal_where}
use Rattle.bf_image.proofs.items.Lists.{all_equal_where, any_equal_where, pairs_equal_where}
use Rattle.bf_image.proofs.making.PlacedArms.{placed_alike}

-- the tables of an arm are under some names
abbrev pub is_inside : List (List ℕ) → Arm → Bool
is_inside names arm = list_all (has same_name names) (arm_sources arm)

is_there : (o : Option Stored) → is_some (option_map (λ (s : Stored). s.table) o) ≡ is_some o
is_there None = refl
is_there (Some s) = refl

-- no item gives a key where there are no items
no_items : (key : List ℕ) → filter_map (λ k. k) (map (λ k. position (option_eq nat_eq (Some k)) []) key) ≡ []
no_items [] = refl
no_items (k ∷ key) = no_items key

module _ (a b : Database) (names : List (List ℕ)) (same : (name : List ℕ) → has same_name names name ≡ true → table_under a name ≡ table_under b name) where
  table_same : (name : List ℕ) → has same_name names name ≡ true → table_at a name ≡ table_at b name
  table_same name there = ap (λ o. unwrap_or o no_table) (same name there)

  there_same : (name : List ℕ) → has same_name names name ≡ true → is_some (stored_at a name) ≡ is_some (stored_at b name)
  there_same name there = sym (is_there (stored_at a name)) ∙ ap is_some (same name there) ∙ is_there (stored_at b name)

  module _ (arm : Arm) (inside : is_inside names arm ≡ true) where
    from_table : table_at a arm.from ≡ table_at b arm.from
    from_table = table_same arm.from (and_parts _ _ inside).0

    pub scopes : arm_scope a arm ≡ arm_scope b arm
    scopes = blocks_equal_where (has same_name names) (λ name. scope_of (table_at a name)) (λ name. scope_of (table_at b name)) (λ name there. ap scope_of (table_same name there)) (arm_sources arm) inside

    pub widths : width a arm ≡ width b arm
    widths = ap (λ (t : Table). length t.columns) from_table

    from_keys : from_key a arm ≡ from_key b arm
    from_keys = ap (λ (t : Table). t.key) from_table

    join_keys : join_key a arm ≡ join_key b arm
    join_keys =
        ap (λ w. flat_map (λ name. map (λ k. w + k) (table_at a name).key) (names_of_join arm)) widths
        ∙ blocks_equal_where (has same_name names) (λ name. map (λ k. width b arm + k) (table_at a name).key) (λ name. map (λ k. width b arm + k) (table_at b name).key)
        (λ name there. ap (λ (t : Table). map (λ k. width b arm + k) t.key) (table_same name there)) (names_of_join arm) (and_parts (has same_name names arm.from) _ inside).1

    pub places : on_places a arm ≡ on_places b arm
    places i = flat_map (λ e. place_of (scopes i) e.0 ∷ place_of (scopes i) e.1 ∷ []) (equalities arm)

    pub kinds : arm_kind a arm ≡ arm_kind b arm
    kinds i = kind_by (nat_lt 0 (length arm.group)) (is_some arm.join) (list_all (has nat_eq (places i)) (join_keys i)) (list_all (has nat_eq (places i)) (from_keys i))

    keys_by : (kind : ArmKind) → key_by a arm kind ≡ key_by b arm kind
    keys_by ByFrom = from_keys
    keys_by ByJoin = join_keys
    keys_by ByPair = ap₂ (λ ks ls. ks ++ ls) from_keys join_keys
    keys_by ByGroup = ap (λ scope. map (place_of scope) arm.group) scopes

    arm_keys : arm_key a arm ≡ arm_key b arm
    arm_keys = ap (key_by a arm) kinds ∙ keys_by (arm_kind b arm)

    key_items_same : key_items a arm ≡ key_items b arm
    key_items_same i = map (λ k. position (option_eq nat_eq (Some k)) (map (λ x. option_map (place_of (scopes i)) (plain_ref x)) arm.items)) (arm_keys i)

    abbrev placed_with : Scope → ArmKind → PlacedArm
    placed_with scope kind = record {
      kind = kind;
      items = map (placed_item scope) arm.items;
      on = option_map (λ j. map (placed_pair scope) j.on) arm.join;
      cond = cond_over (place_of scope) (condition_of arm.cond);
      group = map (place_of scope) arm.group;
    }

    pub placed_same : placed_arm a arm ≡ placed_arm b arm
    placed_same = ap₂ placed_with scopes kinds

    -- an arm makes the same rows of the same old rows
    pub rows_same : (from join : List (List Value)) → arm_rows a arm from join ≡ arm_rows b arm from join
    rows_same from join = placed_alike a arm from join ∙ ap (λ p. placed_rows p from join) placed_same ∙ sym (placed_alike b arm from join)

    arm_objected : (t : Target) → arm_objections a t arm ≡ arm_objections b t arm
    arm_objected t =
        let sources = blocks_equal_where (has same_name names) (source_objections a) (source_objections b) (λ name there. ap (λ some. when (not some) (refusal.SourceUnknown name)) (there_same name there)) (arm_sources arm) inside in
        λ i.
        sources i
        ++ twice_objections (names_of_join arm) arm.from
        ++ flat_map (item_objections (scopes i)) arm.items
        ++ flat_map (λ pair.
        let left = nat_lt (place_of (scopes i) pair.0) (widths i) in
        let right = nat_lt (place_of (scopes i) pair.1) (widths i) in
        ref_objections (scopes i) pair.0 ++ ref_objections (scopes i) pair.1
        ++ when ((left && right) || not (left || right)) (refusal.KeyNotInherited t.name)
        ++ kind_objections (scopes i) (column pair.0) (kind_in (scopes i) (column pair.1))) (equalities arm)
        ++ cond_objections (scopes i) (condition_of arm.cond)
        ++ group_objections (scopes i) arm.group

    item_kinds_same : item_kinds a arm ≡ item_kinds b arm
    item_kinds_same = ap (λ scope. map (kind_of_item scope) arm.items) scopes

    inherits_same : inherits_key a arm ≡ inherits_key b arm
    inherits_same i =
        list_all is_some (key_items_same i)
        && (if is_by_group (kinds i) then not (is_some arm.join) && list_all (λ x. is_total x || list_any (λ g. option_eq nat_eq (Some (place_of (scopes i) g)) (option_map (place_of (scopes i)) (plain_ref x))) arm.group) arm.items
        else list_all (λ x. not (is_total x)) arm.items)

    failing_same : (t : Target) → failing_objections a t arm ≡ failing_objections b t arm
    failing_same t = ap (λ scope. flat_map (λ p. when (may_fail (extent_of_item scope p.1)) (refusal.MayFail t.name p.0)) (enumerate_from 1 arm.items)) scopes

  abbrev all_inside : List Arm → Type 0
  all_inside arms = list_all (is_inside names) arms ≡ true

  apart_same : (arms : List Arm) → all_inside arms → keeps_apart a arms ≡ keeps_apart b arms
  apart_same arms all =
      let by_row = all_equal_where (is_inside names) (λ arm. is_by_row (arm_kind a arm) && is_some (tag_of arm.items)) (λ arm. is_by_row (arm_kind b arm) && is_some (tag_of arm.items)) (λ arm inside. ap (λ k. is_by_row k && is_some (tag_of arm.items)) (kinds arm inside)) arms all in
      let keys = pairs_equal_where (is_inside names) (pointwise (option_eq nat_eq)) (key_items a) (key_items b) key_items_same [] arms refl all in
      λ i. by_row i && list_all (λ p. not (has (option_eq int_eq) (map (λ x. tag_of x.items) p.0) (tag_of p.1.items))) (with_before arms) && keys i

  clash_same : (arms : List Arm) → all_inside arms
      → list_any (λ arm. not (pointwise same_kind (item_kinds a (first_arm arms)) (item_kinds a arm))) arms ≡ list_any (λ arm. not (pointwise same_kind (item_kinds b (first_arm arms)) (item_kinds b arm))) arms
  clash_same [] all = refl
  clash_same (arm ∷ arms) all =
      any_equal_where (is_inside names) (λ x. not (pointwise same_kind (item_kinds a arm) (item_kinds a x))) (λ x. not (pointwise same_kind (item_kinds b arm) (item_kinds b x)))
      (λ x inside. ap₂ (λ ks ls. not (pointwise same_kind ks ls)) (item_kinds_same arm (and_parts _ _ all).0) (item_kinds_same x inside)) (arm ∷ arms) all

  -- a target has the same against it
  pub target_objected : (t : Target) → all_inside t.arms → target_objections a t ≡ target_objections b t
  target_objected t all =
      let arms = blocks_equal_where (is_inside names) (arm_objections a t) (arm_objections b t) (λ arm inside. arm_objected arm inside t) t.arms all in
      let clash = clash_same t.arms all in
      let failing = blocks_equal_where (is_inside names) (failing_objections a t) (failing_objections b t) (λ arm inside. failing_same arm inside t) t.arms all in
      let inherits = all_equal_where (is_inside names) (inherits_key a) (inherits_key b) inherits_same t.arms all in
      let apart = apart_same t.arms all in
      λ i.
      arms i
      ++ when (list_any (λ arm. not (length arm.items == length (first_arm t.arms).items)) t.arms) refusal.WrongCount
      ++ when (clash i) refusal.TypeMismatch
      ++ flat_map (λ p. twice_objections p.0 p.1) (with_before (map item_name (first_arm t.arms).items))
      ++ failing i
      ++ when (not (inherits i && (nat_lt (length t.arms) 2 || apart i))) (refusal.KeyNotInherited t.name)

  target_key_same : (arms : List Arm) → all_inside arms
      → filter_map (λ k. k) (if nat_lt 1 (length arms) then Some 0 ∷ key_items a (first_arm arms) else key_items a (first_arm arms)) ≡ filter_map (λ k. k) (if nat_lt 1 (length arms) then Some 0 ∷ key_items b (first_arm arms) else key_items b (first_arm arms))
  target_key_same [] all = no_items (arm_key a (first_arm [])) ∙ sym (no_items (arm_key b (first_arm [])))
  target_key_same (arm ∷ arms) all = ap (λ keys. filter_map (λ k. k) (if nat_lt 1 (length (arm ∷ arms)) then Some 0 ∷ keys else keys)) (key_items_same arm (and_parts _ _ all).0)

  -- and it becomes the same table
  pub target_table_same : (t : Target) → all_inside t.arms → target_table a t ≡ target_table b t
  target_table_same t all =
      let columns : (n : ℕ) → flat_map (λ arm. take 1 (drop n (map (item_admit (arm_scope a arm)) arm.items))) t.arms ≡ flat_map (λ arm. take 1 (drop n (map (item_admit (arm_scope b arm)) arm.items))) t.arms = λ n.
      blocks_equal_where (is_inside names) (λ arm. take 1 (drop n (map (item_admit (arm_scope a arm)) arm.items))) (λ arm. take 1 (drop n (map (item_admit (arm_scope b arm)) arm.items)))
      (λ arm inside. ap (λ scope. take 1 (drop n (map (item_admit scope) arm.items))) (scopes arm inside)) t.arms all in
      let key = target_key_same t.arms all in
      λ i. record {
        name = t.name;
        columns = map (λ p. record { name = item_name p.1; admits = unwrap_or (reduce either_admit (columns p.0 i)) admits.Int }) (enumerate_from 0 (first_arm t.arms).items);
        key = key i;
      }

  -- the tables whose rows drive a migration are the same
  pub drivers_same : (m : Migrate) → list_all (λ t. list_all (is_inside names) t.arms) m.targets ≡ true → drivers_of a m ≡ drivers_of b m
  drivers_same m all =
      ap (distinct same_name) (blocks_equal_where (λ t. list_all (is_inside names) t.arms) (λ t. flat_map (λ arm. driver_by (arm_kind a arm) arm) t.arms) (λ t. flat_map (λ arm. driver_by (arm_kind b arm) arm) t.arms)
      (λ t inside. blocks_equal_where (is_inside names) (λ arm. driver_by (arm_kind a arm) arm) (λ arm. driver_by (arm_kind b arm) arm) (λ arm its. ap (λ k. driver_by k arm) (kinds arm its)) t.arms inside) m.targets all)

  pub targets_objected : (m : Migrate) → list_all (λ t. list_all (is_inside names) t.arms) m.targets ≡ true → flat_map (target_objections a) m.targets ≡ flat_map (target_objections b) m.targets
  targets_objected m all = blocks_equal_where (λ t. list_all (is_inside names) t.arms) (target_objections a) (target_objections b) target_objected m.targets all
