-- A plan reads the tables of its sources alone.
use Rattle.std.proofs.Common.{◌≡◌, ℕ, Bool, true, not, List, [], ◌∷◌, ◌++◌, map, filter, ap, ap₂, ◌∙◌}
use Rattle.std.specs.List.{enumerate_from, list_all}
use Rattle.bf_base.specs.Lists.{has, same_name}
use Rattle.bf_tree.specs.declared.migration.Arm.{Arm}
use Rattle.bf_tree.specs.declared.migration.Migrate.{Migrate}
use Rattle.bf_tree.specs.declared.migration.Target.{Target}
use Rattle.bf_tree.specs.declared.plan.ArmKind.{ArmKind}
use Rattle.bf_tree.specs.declared.plan.Unit.{Unit as Planned}
use Rattle.bf_tree.specs.declared.plan.UnitKind.TheVariants as unit_kind
use Rattle.bf_sql.specs.Database.{Database}
use Rattle.bf_sql.specs.migrations.MigrationObjections.{driver_by, drivers_of, is_by_row, sources_of}
use Rattle.bf_sql.specs.migrations.Placed.{placed_arm}
use Rattle.bf_sql.specs.migrations.Plans.{kind_by_values, numbered_arms, plan_made, planned_units, rows_unit_of, values_unit_of}
use Rattle.bf_sql.specs.migrations.Targets.{arm_kind, target_table}
use Rattle.bf_image.specs.Sources.{table_under}
use Rattle.bf_image.proofs.items.Lists.{all_kept, all_of_blocks, all_of_map, all_so, all_with_numbers, filter_equal_where, map_equal_where}
use Rattle.bf_image.proofs.keeping.SameTables.{drivers_same, is_inside, kinds, placed_same, target_table_same}
use Rattle.bf_image.proofs.keeping.Sources.{arms_inside_sources}

abbrev Numbered : Type 0
Numbered = (ℕ × ℕ) × Arm

module _ (a b : Database) (m : Migrate) (same : (name : List ℕ) → has same_name (sources_of m) name ≡ true → table_under a name ≡ table_under b name) where
  abbrev inside : Arm → Bool
  inside = is_inside (sources_of m)

  all_inside : list_all (λ (t : Target). list_all inside t.arms) m.targets ≡ true
  all_inside = arms_inside_sources m

  tables_planned : map (target_table a) m.targets ≡ map (target_table b) m.targets
  tables_planned = map_equal_where (λ (t : Target). list_all inside t.arms) (target_table a) (target_table b) (λ t its. target_table_same a b (sources_of m) same t its) m.targets all_inside

  arms_planned : map (λ (t : Target). map (placed_arm a) t.arms) m.targets ≡ map (λ (t : Target). map (placed_arm b) t.arms) m.targets
  arms_planned =
      map_equal_where (λ (t : Target). list_all inside t.arms) (λ (t : Target). map (placed_arm a) t.arms) (λ (t : Target). map (placed_arm b) t.arms)
      (λ t its. map_equal_where inside (placed_arm a) (placed_arm b) (λ arm here. placed_same a b (sources_of m) same arm here) t.arms its) m.targets all_inside

  numbered_inside : list_all (λ (p : Numbered). inside p.1) (numbered_arms m) ≡ true
  numbered_inside =
      all_of_blocks (λ (p : Numbered). inside p.1) (λ (t : ℕ × Target). map (λ (arm : ℕ × Arm). ((t.0, arm.0), arm.1)) (enumerate_from 0 t.1.arms)) (enumerate_from 0 m.targets)
      (all_so (λ (t : ℕ × Target). list_all inside t.1.arms) (λ (t : ℕ × Target). list_all (λ (p : Numbered). inside p.1) (map (λ (arm : ℕ × Arm). ((t.0, arm.0), arm.1)) (enumerate_from 0 t.1.arms)))
      (λ t its. all_of_map (λ (p : Numbered). inside p.1) (λ (arm : ℕ × Arm). ((t.0, arm.0), arm.1)) (enumerate_from 0 t.1.arms) (all_with_numbers inside 0 t.1.arms its))
      (enumerate_from 0 m.targets) (all_with_numbers (λ (t : Target). list_all inside t.arms) 0 m.targets all_inside))

  same_kind : (p : Numbered) → inside p.1 ≡ true → arm_kind a p.1 ≡ arm_kind b p.1
  same_kind p its = kinds a b (sources_of m) same p.1 its

  rows_planned : (driver : List ℕ) → rows_unit_of a m driver ≡ rows_unit_of b m driver
  rows_planned driver =
      ap (λ (ps : List Numbered). let unit : Planned = record { kind = unit_kind.Rows; driver = driver; arms = map (λ (p : Numbered). p.0) ps } in unit)
      (filter_equal_where (λ (p : Numbered). inside p.1) (λ (p : Numbered). has same_name (driver_by (arm_kind a p.1) p.1) driver) (λ (p : Numbered). has same_name (driver_by (arm_kind b p.1) p.1) driver)
      (λ p its. ap (λ (kind : ArmKind). has same_name (driver_by kind p.1) driver) (same_kind p its)) (numbered_arms m) numbered_inside)

  abbrev by_values : Database → Numbered → Bool
  by_values db p = not (is_by_row (arm_kind db p.1))

  values_planned : map (values_unit_of a m) (filter (by_values a) (numbered_arms m)) ≡ map (values_unit_of b m) (filter (by_values b) (numbered_arms m))
  values_planned =
      map_equal_where (λ (p : Numbered). inside p.1) (values_unit_of a m) (values_unit_of b m)
      (λ p its. ap (λ (kind : ArmKind). let unit : Planned = record { kind = kind_by_values kind; driver = p.1.from; arms = p.0 ∷ [] } in unit) (same_kind p its))
      (filter (by_values a) (numbered_arms m)) (all_kept (λ (p : Numbered). inside p.1) (by_values a) (numbered_arms m) numbered_inside)
      ∙ ap (map (values_unit_of b m))
      (filter_equal_where (λ (p : Numbered). inside p.1) (by_values a) (by_values b) (λ p its. ap (λ (kind : ArmKind). not (is_by_row kind)) (same_kind p its)) (numbered_arms m) numbered_inside)

  units_planned : planned_units a m ≡ planned_units b m
  units_planned =
      ap₂ (λ (rows values : List Planned). rows ++ values)
      (ap (map (rows_unit_of a m)) (drivers_same a b (sources_of m) same m all_inside) ∙ (λ i. map (λ driver. rows_planned driver i) (drivers_of b m))) values_planned

  pub plan_same : plan_made a m ≡ plan_made b m
  plan_same = λ i. record { migrate = m; tables = tables_planned i; arms = arms_planned i; units = units_planned i; sources = sources_of m }
