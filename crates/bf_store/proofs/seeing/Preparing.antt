-- A statement is prepared in the catalog of the live tables as it is in that of what is seen.
use Rattle.std.proofs.Common.{◌≡◌, ℕ, Bool, true, false, not, List, [], ◌∷◌, ◌++◌, map, filter, flat_map, Option, Some, None, option_map, refl, sym, ap, ◌∙◌}
use Rattle.std.specs.Option.{option_to_list}
use Rattle.std.proofs.lemmas.List.{append-nil}
use Rattle.bf_base.specs.Lists.{same_name, has}
use Rattle.bf_tree.specs.declared.bound.Action.{Action}
use Rattle.bf_tree.specs.declared.bound.Action.TheVariants as action
use Rattle.bf_tree.specs.declared.bound.Bound.{Bound}
use Rattle.bf_tree.specs.declared.migration.Arm.{Arm}
use Rattle.bf_tree.specs.declared.migration.Migrate.{Migrate}
use Rattle.bf_tree.specs.declared.plan.Unit.{Unit as PlannedUnit}
use Rattle.bf_tree.specs.declared.plan.UnitKind.TheVariants as unit_kind
use Rattle.bf_tree.specs.declared.statement.Statement.{Statement}
use Rattle.bf_tree.specs.declared.statement.Statement.TheVariants as statement
use Rattle.bf_sql.specs.Bound.{bound_of, is_planned, unless_objected, without_rows}
use Rattle.bf_sql.specs.Database.{Database, Stored, stored_at}
use Rattle.bf_sql.specs.migrations.Lazy.{Migration, LazyState, seen, view_of}
use Rattle.bf_sql.specs.migrations.MigrationObjections.{driver_by, drivers_of, is_by_row, sources_of}
use Rattle.bf_sql.specs.migrations.Need.{needed, needed_by}
use Rattle.bf_sql.specs.migrations.Plans.{kind_by_values, numbered_arms, plan_made, planned_units, prepared_of}
use Rattle.bf_sql.specs.migrations.Targets.{arm_kind, arm_sources}
use Rattle.bf_image.specs.Sources.{HaveSameTables}
use Rattle.bf_image.proofs.items.Lists.{has_own}
use Rattle.bf_image.proofs.items.Names.{name-itself}
use Rattle.bf_image.proofs.keeping.Frozen.{arms_alike, objections_alike, tables_alike}
use Rattle.bf_image.proofs.keeping.SameTables.{drivers_same, kinds}
use Rattle.bf_image.proofs.keeping.Sources.{arms_inside_sources}
use Rattle.bf_live.proofs.statements.Bare.{same_bound}
use Rattle.bf_store.specs.Calls.{cover_of}
use Rattle.bf_store.specs.States.{IsLazy, need_of}
use Rattle.bf_store.proofs.seeing.Viewing.{same_catalog_seen, seen_there}

-- a MIGRATE has the same plan in two databases with the same tables
module _ (a b : Database) (same : HaveSameTables a b) (m : Migrate) where
  kinds_alike : (arm : Arm) → arm_kind a arm ≡ arm_kind b arm
  kinds_alike arm = kinds a b (arm_sources arm) (λ name there. same name) arm (has_own same_name name-itself (arm_sources arm))

  drivers_alike : drivers_of a m ≡ drivers_of b m
  drivers_alike = drivers_same a b (sources_of m) (λ name there. same name) m (arms_inside_sources m)

  units_alike : planned_units a m ≡ planned_units b m
  units_alike i =
      let rows : List ℕ → PlannedUnit = λ driver. record { kind = unit_kind.Rows; driver = driver; arms = map (λ p. p.0) (filter (λ p. has same_name (driver_by (kinds_alike p.1 i) p.1) driver) (numbered_arms m)) } in
      let values : (ℕ × ℕ) × Arm → PlannedUnit = λ p. record { kind = kind_by_values (kinds_alike p.1 i); driver = p.1.from; arms = p.0 ∷ [] } in
      map rows (drivers_alike i) ++ map values (filter (λ p. not (is_by_row (kinds_alike p.1 i))) (numbered_arms m))

  plans_alike : plan_made a m ≡ plan_made b m
  plans_alike i = record {
    migrate = m;
    tables = map (λ t. tables_alike a b same t i) m.targets;
    arms = map (λ t. map (λ arm. arms_alike a b same arm i) t.arms) m.targets;
    units = units_alike i;
    sources = sources_of m;
  }

-- what is not planned is prepared as it is bound
prepared-bound : (db : Database) (in_block : Bool) (s : Statement) → is_planned in_block s ≡ false
    → prepared_of db in_block s ≡ bound_of db in_block s
prepared-bound db true (statement.Migrate m) e = refl
prepared-bound db false (statement.Migrate m) e = absurd cc
prepared-bound db in_block other e = refl

module _ (lazy : LazyState) (is : IsLazy lazy) where
  -- what is seen has the tables that are live
  pub same_tables_seen : HaveSameTables (view_of lazy) lazy.live
  same_tables_seen name = ap (option_map (λ (s : Stored). s.table)) (seen_there lazy is name) ∙ same_table (stored_at lazy.live name)
    where
      same_table : (o : Option Stored)
          → option_map (λ (s : Stored). s.table) (option_map (seen lazy.last) o) ≡ option_map (λ (s : Stored). s.table) o
      same_table None = refl
      same_table (Some s) = refl

  bound_as_seen : (in_block : Bool) (s : Statement) → is_planned in_block s ≡ false
      → bound_of (view_of lazy) in_block s ≡ bound_of lazy.live in_block s
  bound_as_seen in_block s planned =
      sym (same_bound (view_of lazy) in_block s planned)
      ∙ ap (λ catalog. bound_of (without_rows catalog) in_block s) (same_catalog_seen lazy is)
      ∙ same_bound lazy.live in_block s planned

  unplanned : (in_block : Bool) (s : Statement) → is_planned in_block s ≡ false
      → prepared_of (view_of lazy) in_block s ≡ prepared_of lazy.live in_block s
  unplanned in_block s planned = prepared-bound (view_of lazy) in_block s planned ∙ bound_as_seen in_block s planned ∙ sym (prepared-bound lazy.live in_block s planned)

  -- PREPARED: as it is seen, so it is on the live tables
  pub prepared_as_seen : (in_block : Bool) (s : Statement) → prepared_of (view_of lazy) in_block s ≡ prepared_of lazy.live in_block s
  prepared_as_seen true s = unplanned true s refl
  prepared_as_seen false (statement.Migrate m) =
      let bound : Action → Bound = λ act. record { catalog = lazy.live.number; schema_change = true; action = act } in
      let objected = objections_alike (view_of lazy) lazy.live same_tables_seen m in
      let plans = plans_alike (view_of lazy) lazy.live same_tables_seen m in
      λ i. option_map bound (unless_objected (objected i) (Some (action.Migrate (plans i))))
  prepared_as_seen false other = unplanned false other refl

  -- so its need on what is seen is its cover
  pub cover_is_need : (last : Migration) (in_block : Bool) (s : Statement) (bound : Bound) → lazy.last ≡ Some last → prepared_of lazy.live in_block s ≡ Some bound
      → needed_by last.old last.migrate (view_of lazy) in_block s ≡ cover_of lazy.last bound
  cover_is_need last in_block s bound there prepared =
      ap (λ o. flat_map (needed last.old last.migrate) (option_to_list o)) (prepared_as_seen in_block s ∙ prepared)
      ∙ append-nil (needed last.old last.migrate bound)
      ∙ ap (λ o. need_of o bound.action) (sym there)
