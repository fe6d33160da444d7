-- What a migration makes, over two databases that have the same tables and rows under some names.
use Rattle.std.proofs.Common.{◌≡◌, ℕ, ◌+◌, ◌-◌, Bool, true, false, not, if◌then◌else◌, nat_lt, nat_le, List, [], ◌∷◌, ◌++◌, map, filter, flat_map, find, length, slice_range, Option, Some, None, refl, sym, ap, ap₂, ◌∙◌}
use Rattle.std.specs.Prelude.{option_map, unwrap_or, slice_get}
use Rattle.std.specs.List.{list_any, list_all, range_with_len, enumerate_from, Contains}
use Rattle.std.proofs.lemmas.Bool.{and_parts, and_from}
use Rattle.bf_base.specs.declared.granule.Granule.{Granule}
use Rattle.bf_base.specs.declared.granule.Place.{Place}
use Rattle.bf_base.specs.declared.granule.Place.TheVariants.{Row, Group}
use Rattle.bf_base.specs.declared.value.Value.{Value}
use Rattle.bf_base.specs.Distinct.{distinct}
use Rattle.bf_base.specs.Lists.{same_name, same_key, has, in_order}
use Rattle.bf_base.specs.Tables.{cell, key_of}
use Rattle.bf_base.specs.Values.{key_cmp}
use Rattle.bf_tree.specs.declared.migration.Arm.{Arm}
use Rattle.bf_tree.specs.declared.migration.Join.{Join}
use Rattle.bf_tree.specs.declared.migration.Migrate.{Migrate}
use Rattle.bf_tree.specs.declared.migration.Target.{Target}
use Rattle.bf_tree.specs.declared.plan.ArmKind.{ArmKind}
use Rattle.bf_tree.specs.declared.plan.ArmKind.TheVariants.{ByFrom, ByJoin, ByPair, ByGroup}
use Rattle.bf_sql.specs.Database.{Database, Stored, stored_at, table_rows}
use Rattle.bf_sql.specs.Scopes.{read_in}
use Rattle.bf_sql.specs.migrations.Granules.{UnitForm, rows_unit, values_unit, arms_of, units_of, anchor_values, from_with, join_with, rows_driven, places_in, granule, granules_of, part_at, part_of, owner_of}
use Rattle.bf_sql.specs.migrations.Images.{arm_rows, image_of, rows_of_join}
use Rattle.bf_sql.specs.migrations.MigrationObjections.{sources_of, driver_by, drivers_of, is_by_row}
use Rattle.bf_sql.specs.migrations.Targets.{arm_kind, arm_scope, arm_sources, names_of_join, on_places, width}
use Rattle.bf_image.specs.Sources.{table_under}
use Rattle.bf_index.proofs.Bags.{blocks_equal_where}
use Rattle.bf_image.proofs.items.Lists.{all_so, all_append, all_kept, all_of_blocks, all_of_map, all_in_blocks, all_with_numbers, all_distinct, all_of_contained, each_block_within, some_of_those, filter_equal_where, looked_up_where}
use Rattle.bf_image.proofs.items.Names.{name-equal, name-itself, name-symmetric}
use Rattle.bf_image.proofs.keeping.SameTables.{is_inside, scopes, widths, places, kinds, rows_same, target_table_same, drivers_same}
use Rattle.bf_index.proofs.Values.{distinct-has}

-- the tables of each arm of a target are under their names
pub arms_inside_own : (arms : List Arm) → list_all (is_inside (flat_map arm_sources arms)) arms ≡ true
arms_inside_own arms = each_block_within same_name name-itself arm_sources arms

-- and those of each arm of a migration are sources
pub arms_inside_sources : (m : Migrate) → list_all (λ t. list_all (is_inside (sources_of m)) t.arms) m.targets ≡ true
arms_inside_sources m =
    let named : List (List ℕ) = flat_map (λ t. flat_map arm_sources t.arms) m.targets in
    all_so (λ t. list_all (has same_name named) (flat_map arm_sources t.arms)) (λ t. list_all (is_inside (sources_of m)) t.arms)
    (λ t inside. all_in_blocks (has same_name (sources_of m)) arm_sources t.arms
    (all_so (has same_name named) (has same_name (sources_of m)) (λ name there. distinct-has same_name name-symmetric name-equal name-itself named name ∙ there) (flat_map arm_sources t.arms) inside))
    m.targets (each_block_within same_name name-itself (λ t. flat_map arm_sources t.arms) m.targets)

pub target_inside : (m : Migrate) (t : Target) → Contains m.targets t → list_all (is_inside (sources_of m)) t.arms ≡ true
target_inside m t among = all_of_contained (λ t. list_all (is_inside (sources_of m)) t.arms) m.targets t (arms_inside_sources m) among

module _ (a b : Database) (names : List (List ℕ)) (same : (name : List ℕ) → has same_name names name ≡ true → stored_at a name ≡ stored_at b name) where
  pub tables_same : (name : List ℕ) → has same_name names name ≡ true → table_under a name ≡ table_under b name
  tables_same name there = ap (option_map (λ (s : Stored). s.table)) (same name there)

  rows_under : (name : List ℕ) → has same_name names name ≡ true → table_rows a name ≡ table_rows b name
  rows_under name there = ap (λ (o : Option Stored). unwrap_or (option_map (λ s. s.rows) o) []) (same name there)

  module _ (arm : Arm) (inside : is_inside names arm ≡ true) where
    from_rows : table_rows a arm.from ≡ table_rows b arm.from
    from_rows = rows_under arm.from (and_parts _ _ inside).0

    join_rows : rows_of_join a arm.join ≡ rows_of_join b arm.join
    join_rows = of arm.join (and_parts (has same_name names arm.from) _ inside).1
      where
        of : (o : Option Join) → list_all (has same_name names) (unwrap_or (option_map (λ j. j.table ∷ []) o) []) ≡ true → rows_of_join a o ≡ rows_of_join b o
        of None there = refl
        of (Some j) there = rows_under j.table (and_parts _ _ there).0

    same_scope : arm_scope a arm ≡ arm_scope b arm
    same_scope = scopes a b names tables_same arm inside

    same_width : width a arm ≡ width b arm
    same_width = widths a b names tables_same arm inside

    same_places : on_places a arm ≡ on_places b arm
    same_places = places a b names tables_same arm inside

    arm_rows_same : (r s j k : List (List Value)) → r ≡ s → j ≡ k → arm_rows a arm r j ≡ arm_rows b arm s k
    arm_rows_same r s j k e f = ap₂ (arm_rows a arm) e f ∙ rows_same a b names tables_same arm inside s k

    pub arm_image : arm_rows a arm (table_rows a arm.from) (rows_of_join a arm.join) ≡ arm_rows b arm (table_rows b arm.from) (rows_of_join b arm.join)
    arm_image = arm_rows_same _ _ _ _ from_rows join_rows

    anchors_same : (kind : ArmKind) → anchor_values a arm kind ≡ anchor_values b arm kind
    anchors_same ByFrom = refl
    anchors_same ByJoin = refl
    anchors_same ByGroup = λ i. map (λ row. map (read_in (same_scope i) row) arm.group) (from_rows i)
    anchors_same ByPair = λ i.
        map (λ row. map (cell row) (filter (λ p. nat_lt p (same_width i)) (same_places i))) (from_rows i)
        ++ map (λ row. map (λ p. cell row (p - same_width i)) (filter (λ p. nat_le (same_width i) p) (same_places i))) (join_rows i)

    from_with_same : (kind : ArmKind) (value : List Value) → from_with a arm kind value ≡ from_with b arm kind value
    from_with_same ByFrom value = refl
    from_with_same ByJoin value = refl
    from_with_same ByGroup value = λ i. filter (λ row. same_key value (map (read_in (same_scope i) row) arm.group)) (from_rows i)
    from_with_same ByPair value = λ i. filter (λ row. same_key value (map (cell row) (filter (λ p. nat_lt p (same_width i)) (same_places i)))) (from_rows i)

    join_with_same : (value : List Value) → join_with a arm value ≡ join_with b arm value
    join_with_same value i = filter (λ row. same_key value (map (λ p. cell row (p - same_width i)) (filter (λ p. nat_le (same_width i) p) (same_places i)))) (join_rows i)

    one_row : (name : List ℕ) (at : ℕ) → has same_name names name ≡ true → slice_range (table_rows a name) at (at + 1) ≡ slice_range (table_rows b name) at (at + 1)
    one_row name at there = ap (λ rows. slice_range rows at (at + 1)) (rows_under name there)

    driven_same : (kind : ArmKind) (driver : List ℕ) (at : ℕ) → rows_driven a arm kind driver at ≡ rows_driven b arm kind driver at
    driven_same ByFrom driver at = of (same_name arm.from driver) refl
      where
        of : (c : Bool) → same_name arm.from driver ≡ c → (if c then arm_rows a arm (slice_range (table_rows a driver) at (at + 1)) (rows_of_join a arm.join) else []) ≡ (if c then arm_rows b arm (slice_range (table_rows b driver) at (at + 1)) (rows_of_join b arm.join) else [])
        of true is = arm_rows_same _ _ _ _ (one_row driver at (ap (has same_name names) (sym (name-equal arm.from driver is)) ∙ (and_parts _ _ inside).0)) join_rows
        of false is = refl
    driven_same ByJoin driver at = of (list_any (same_name driver) (names_of_join arm)) refl
      where
        of : (c : Bool) → list_any (same_name driver) (names_of_join arm) ≡ c → (if c then arm_rows a arm (table_rows a arm.from) (slice_range (table_rows a driver) at (at + 1)) else []) ≡ (if c then arm_rows b arm (table_rows b arm.from) (slice_range (table_rows b driver) at (at + 1)) else [])
        of true is =
            let there = some_of_those (has same_name names) (same_name driver) (has same_name names driver) (λ name h e. ap (has same_name names) (name-equal driver name e) ∙ h) (names_of_join arm) (and_parts (has same_name names arm.from) _ inside).1 is in
            arm_rows_same _ _ _ _ from_rows (one_row driver at there)
        of false is = refl
    driven_same ByPair driver at = refl
    driven_same ByGroup driver at = refl

    valued_same : (kind : ArmKind) (value : List Value) → arm_rows a arm (from_with a arm kind value) (join_with a arm value) ≡ arm_rows b arm (from_with b arm kind value) (join_with b arm value)
    valued_same kind value = arm_rows_same _ _ _ _ (from_with_same kind value) (join_with_same value)

    drivers_inside : (kind : ArmKind) → list_all (has same_name names) (driver_by kind arm) ≡ true
    drivers_inside ByFrom = and_from _ _ (and_parts _ _ inside).0 refl
    drivers_inside ByJoin = (and_parts (has same_name names arm.from) _ inside).1
    drivers_inside ByPair = refl
    drivers_inside ByGroup = refl

    same_kind : arm_kind a arm ≡ arm_kind b arm
    same_kind = kinds a b names tables_same arm inside

  pub images_same : (arms : List Arm) → list_all (is_inside names) arms ≡ true
      → flat_map (λ arm. arm_rows a arm (table_rows a arm.from) (rows_of_join a arm.join)) arms ≡ flat_map (λ arm. arm_rows b arm (table_rows b arm.from) (rows_of_join b arm.join)) arms
  images_same arms all = blocks_equal_where (is_inside names) (λ arm. arm_rows a arm (table_rows a arm.from) (rows_of_join a arm.join)) (λ arm. arm_rows b arm (table_rows b arm.from) (rows_of_join b arm.join)) arm_image arms all

  module _ (m : Migrate) (all : list_all (λ t. list_all (is_inside names) t.arms) m.targets ≡ true) where
    arms_inside : list_all (λ p. is_inside names p.1) (arms_of m) ≡ true
    arms_inside =
        all_of_blocks (λ p. is_inside names p.1) (λ t. map (λ arm. (t, arm)) t.arms) m.targets
        (all_so (λ t. list_all (is_inside names) t.arms) (λ t. list_all (λ p. is_inside names p.1) (map (λ arm. (t, arm)) t.arms)) (λ t its. all_of_map (λ p. is_inside names p.1) (λ arm. (t, arm)) t.arms its) m.targets all)

    abbrev by_value : Database → Target × Arm → Bool
    by_value db p = not (is_by_row (arm_kind db p.1))

    abbrev unit_inside : UnitForm → Bool
    unit_inside (rows_unit driver) = has same_name names driver
    unit_inside (values_unit t arm) = is_inside names arm

    units_same : units_of a m ≡ units_of b m
    units_same =
        ap₂ (λ drivers arms. map rows_unit drivers ++ map (λ p. values_unit p.0 p.1) arms) (drivers_same a b names tables_same m all)
        (filter_equal_where (λ p. is_inside names p.1) (by_value a) (by_value b) (λ p inside. ap (λ kind. not (is_by_row kind)) (same_kind p.1 inside)) (arms_of m) arms_inside)

    all_drivers_inside : list_all (has same_name names) (drivers_of a m) ≡ true
    all_drivers_inside =
        all_distinct same_name (has same_name names) (flat_map (λ t. flat_map (λ arm. driver_by (arm_kind a arm) arm) t.arms) m.targets)
        (all_of_blocks (has same_name names) (λ t. flat_map (λ arm. driver_by (arm_kind a arm) arm) t.arms) m.targets
        (all_so (λ t. list_all (is_inside names) t.arms) (λ t. list_all (has same_name names) (flat_map (λ arm. driver_by (arm_kind a arm) arm) t.arms))
        (λ t its. all_of_blocks (has same_name names) (λ arm. driver_by (arm_kind a arm) arm) t.arms (all_so (is_inside names) (λ arm. list_all (has same_name names) (driver_by (arm_kind a arm) arm)) (λ arm inside. drivers_inside arm inside (arm_kind a arm)) t.arms its))
        m.targets all))

    units_inside : list_all unit_inside (units_of a m) ≡ true
    units_inside =
        all_append unit_inside (map rows_unit (drivers_of a m)) (map (λ p. values_unit p.0 p.1) (filter (by_value a) (arms_of m)))
        (all_of_map unit_inside rows_unit (drivers_of a m) all_drivers_inside)
        (all_of_map unit_inside (λ p. values_unit p.0 p.1) (filter (by_value a) (arms_of m)) (all_kept (λ p. is_inside names p.1) (by_value a) (arms_of m) arms_inside))

    places_same : (unit : UnitForm) → unit_inside unit ≡ true → places_in a unit ≡ places_in b unit
    places_same (rows_unit driver) there = ap (λ rows. map Row (range_with_len 0 (length rows))) (rows_under driver there)
    places_same (values_unit t arm) inside =
        ap (λ values. map Group (in_order key_cmp (λ v. v) (distinct same_key values))) (ap (anchor_values a arm) (same_kind arm inside) ∙ anchors_same arm inside (arm_kind b arm))

    pub granules_same : granules_of a m ≡ granules_of b m
    granules_same =
        blocks_equal_where (λ u. unit_inside u.1) (λ u. map (granule u.0) (places_in a u.1)) (λ u. map (granule u.0) (places_in b u.1)) (λ u there. ap (map (granule u.0)) (places_same u.1 there))
        (enumerate_from 0 (units_of a m)) (all_with_numbers unit_inside 0 (units_of a m) units_inside)
        ∙ ap (λ units. flat_map (λ u. map (granule u.0) (places_in b u.1)) (enumerate_from 0 units)) units_same

    part_at_same : (unit : UnitForm) → unit_inside unit ≡ true → (place : Place) → part_at a m unit place ≡ part_at b m unit place
    part_at_same (rows_unit driver) there (Row at) =
        blocks_equal_where (λ p. is_inside names p.1) (λ p. map (λ row. (p.0, row)) (rows_driven a p.1 (arm_kind a p.1) driver at)) (λ p. map (λ row. (p.0, row)) (rows_driven b p.1 (arm_kind b p.1) driver at))
        (λ p inside. ap (map (λ row. (p.0, row))) (ap (λ kind. rows_driven a p.1 kind driver at) (same_kind p.1 inside) ∙ driven_same p.1 inside (arm_kind b p.1) driver at)) (arms_of m) arms_inside
    part_at_same (rows_unit driver) there (Group value) = refl
    part_at_same (values_unit t arm) inside (Row at) = refl
    part_at_same (values_unit t arm) inside (Group value) =
        ap (map (λ row. (t, row))) (ap (λ kind. arm_rows a arm (from_with a arm kind value) (join_with a arm value)) (same_kind arm inside) ∙ valued_same arm inside (arm_kind b arm) value)

    pub part_same : (g : Granule) → part_of a m g ≡ part_of b m g
    part_same g =
        ap (λ part. unwrap_or part []) (looked_up_where unit_inside (λ unit. part_at a m unit g.place) (λ unit. part_at b m unit g.place) (λ unit there. part_at_same unit there g.place) (units_of a m) units_inside g.unit)
        ∙ ap (λ units. unwrap_or (option_map (λ unit. part_at b m unit g.place) (slice_get units g.unit)) []) units_same

    pub owner_same : (t : Target) (key : List Value) → list_all (is_inside names) t.arms ≡ true → owner_of a m t key ≡ owner_of b m t key
    owner_same t key its =
        let table = target_table_same a b names tables_same t its in
        λ i. find (λ g. list_any (λ row. same_key key (key_of (table i) row)) (map (λ p. p.1) (filter (λ p. same_name p.0.name t.name) (part_same g i)))) (granules_same i)

pub image_same : (old new : Database) (t : Target) → ((name : List ℕ) → has same_name (flat_map arm_sources t.arms) name ≡ true → stored_at old name ≡ stored_at new name) → image_of old t ≡ image_of new t
image_same old new t same = images_same old new (flat_map arm_sources t.arms) same t.arms (arms_inside_own t.arms)
