-- What is planned, over two databases that have the same tables under some names.
use Rattle.std.proofs.Common.{◌≡◌, ℕ, Bool, true, not, List, [], ◌∷◌, ◌++◌, map, filter, refl, ap, ap₂, ◌∙◌}
use Rattle.std.specs.List.{list_all, enumerate_from}
use Rattle.bf_base.specs.Lists.{same_name, has}
use Rattle.bf_tree.specs.declared.migration.Arm.{Arm}
use Rattle.bf_tree.specs.declared.migration.Migrate.{Migrate}
use Rattle.bf_tree.specs.declared.migration.Target.{Target}
use Rattle.bf_tree.specs.declared.plan.ArmKind.{ArmKind}
use Rattle.bf_tree.specs.declared.plan.Unit.{Unit as Planned}
use Rattle.bf_tree.specs.declared.plan.UnitKind.TheVariants as unit_kind
use Rattle.bf_sql.specs.Database.{Database}
use Rattle.bf_sql.specs.migrations.MigrationObjections.{driver_by, drivers_of, is_by_row, sources_of}
use Rattle.bf_sql.specs.migrations.Placed.{placed_arm}
use Rattle.bf_sql.specs.migrations.Plans.{kind_by_values, numbered_arms, plan_made, planned_units, rows_unit_of, values_unit_of}
use Rattle.bf_sql.specs.migrations.Targets.{arm_kind, target_table}
use Rattle.bf_image.specs.Sources.{table_under}
use Rattle.bf_image.proofs.items.Lists.{all_kept, all_of_blocks, all_of_map, all_so, all_with_numbers, filter_equal_where, map_equal_where}
use Rattle.bf_image.proofs.keeping.SameTables.{drivers_same, is_inside, kinds, placed_same, target_table_same}

map_equal : {X Y : Type 0} (f g : X → Y) → ((x : X) → f x ≡ g x) → (xs : List X) → map f xs ≡ map g xs
map_equal f g one [] = refl
map_equal f g one (x ∷ xs) = ap₂ (λ y ys. y ∷ ys) (one x) (map_equal f g one xs)

module _ (a b : Database) (names : List (List ℕ)) (same : (name : List ℕ) → has same_name names name ≡ true → table_under a name ≡ table_under b name) where
  abbrev all_inside : Target → Bool
  all_inside t = list_all (is_inside names) t.arms

  module _ (m : Migrate) (all : list_all all_inside m.targets ≡ true) where
    abbrev numbered_inside : (ℕ × ℕ) × Arm → Bool
    numbered_inside q = is_inside names q.1

    arms_inside : list_all numbered_inside (numbered_arms m) ≡ true
    arms_inside =
        all_of_blocks numbered_inside (λ t. map (λ a. ((t.0, a.0), a.1)) (enumerate_from 0 t.1.arms)) (enumerate_from 0 m.targets)
        (all_so (λ t. all_inside t.1) (λ t. list_all numbered_inside (map (λ a. ((t.0, a.0), a.1)) (enumerate_from 0 t.1.arms)))
        (λ t its. all_of_map numbered_inside (λ a. ((t.0, a.0), a.1)) (enumerate_from 0 t.1.arms) (all_with_numbers (is_inside names) 0 t.1.arms its))
        (enumerate_from 0 m.targets) (all_with_numbers all_inside 0 m.targets all))

    kind_same : (q : (ℕ × ℕ) × Arm) → numbered_inside q ≡ true → arm_kind a q.1 ≡ arm_kind b q.1
    kind_same q inside = kinds a b names same q.1 inside

    abbrev rows_unit_with : List ℕ → List ((ℕ × ℕ) × Arm) → Planned
    rows_unit_with driver arms = record { kind = unit_kind.Rows; driver = driver; arms = map (λ p. p.0) arms }

    rows_units : (driver : List ℕ) → rows_unit_of a m driver ≡ rows_unit_of b m driver
    rows_units driver =
        ap (rows_unit_with driver)
        (filter_equal_where numbered_inside (λ p. has same_name (driver_by (arm_kind a p.1) p.1) driver) (λ p. has same_name (driver_by (arm_kind b p.1) p.1) driver)
        (λ q inside. ap (λ kind. has same_name (driver_by kind q.1) driver) (kind_same q inside)) (numbered_arms m) arms_inside)

    abbrev goes_by_values : Database → (ℕ × ℕ) × Arm → Bool
    goes_by_values db q = not (is_by_row (arm_kind db q.1))

    abbrev values_unit_with : (ℕ × ℕ) × Arm → ArmKind → Planned
    values_unit_with q kind = record { kind = kind_by_values kind; driver = q.1.from; arms = q.0 ∷ [] }

    values_units : map (values_unit_of a m) (filter (goes_by_values a) (numbered_arms m)) ≡ map (values_unit_of b m) (filter (goes_by_values b) (numbered_arms m))
    values_units =
        map_equal_where numbered_inside (values_unit_of a m) (values_unit_of b m) (λ q inside. ap (values_unit_with q) (kind_same q inside)) (filter (goes_by_values a) (numbered_arms m))
        (all_kept numbered_inside (goes_by_values a) (numbered_arms m) arms_inside)
        ∙ ap (map (values_unit_of b m))
        (filter_equal_where numbered_inside (goes_by_values a) (goes_by_values b) (λ q inside. ap (λ kind. not (is_by_row kind)) (kind_same q inside)) (numbered_arms m) arms_inside)

    units_same : planned_units a m ≡ planned_units b m
    units_same =
        ap₂ (λ us vs. us ++ vs)
        (map_equal (rows_unit_of a m) (rows_unit_of b m) rows_units (drivers_of a m) ∙ ap (map (rows_unit_of b m)) (drivers_same a b names same m all)) values_units

    -- what is made, and in which units
    pub plan_same : plan_made a m ≡ plan_made b m
    plan_same =
        let tables = map_equal_where all_inside (target_table a) (target_table b) (target_table_same a b names same) m.targets all in
        let arms =
        map_equal_where all_inside (λ t. map (placed_arm a) t.arms) (λ t. map (placed_arm b) t.arms)
        (λ t inside. map_equal_where (is_inside names) (placed_arm a) (placed_arm b) (placed_same a b names same) t.arms inside) m.targets all in
        λ i. record { migrate = m; tables = tables i; arms = arms i; units = units_same i; sources = sources_of m }
