-- What a statement is prepared to do is read off the catalog alone.
use Rattle.std.proofs.Common.{◌≡◌, ℕ, Bool, true, false, List, ◌++◌, map, flat_map, find, Option, Some, None, is_some, refl, sym, ap, ap₂, ◌∙◌, map-id}
use Rattle.std.specs.Prelude.{option_map, unwrap_or}
use Rattle.std.specs.List.{list_any}
use Rattle.std.proofs.lemmas.Simd.{map-map}
use Rattle.bf_base.specs.declared.table.Table.{Table}
use Rattle.bf_base.specs.Lists.{same_name, when}
use Rattle.bf_base.proofs.Parts.{find-map}
use Rattle.bf_tree.specs.declared.catalog.Catalog.{Catalog}
use Rattle.bf_tree.specs.declared.catalog.IndexRule.{IndexRule}
use Rattle.bf_tree.specs.declared.bound.Action.TheVariants as action
use Rattle.bf_tree.specs.declared.migration.Migrate.{Migrate}
use Rattle.bf_tree.specs.declared.reply.Refusal.{Refusal}
use Rattle.bf_tree.specs.declared.reply.Refusal.TheVariants as refusal
use Rattle.bf_tree.specs.declared.statement.Statement.{Statement}
use Rattle.bf_tree.specs.declared.statement.Statement.TheVariants.{CreateTable, CreateIndex, Insert, Select, Update, Delete, Begin, Commit, Rollback, Migrate as migrate}
use Rattle.bf_sql.specs.Bound.{catalog_of, changes_schema, cond_in, items_over, place_in, set_in, table_without_rows, unless_objected, without_rows}
use Rattle.bf_sql.specs.Conditions.{condition_of, fixed_key}
use Rattle.bf_sql.specs.Database.{Database, Stored, no_table, stored_at, table_at}
use Rattle.bf_sql.specs.Objections.{column_names, items_objections, names_objections, new_index_objections, objections, rule_names, rules_objections, sets_objections, table_objections, tuple_objections}
use Rattle.bf_sql.specs.Meaning.{index_of}
use Rattle.bf_sql.specs.Scopes.{cond_objections, scope_of}
use Rattle.bf_sql.specs.migrations.Plans.{plan_made, plan_of, planned_unless, prepared_action, prepared_of}
use Rattle.bf_sql.specs.migrations.MigrationObjections.{sources_of}
use Rattle.bf_image.specs.Sources.{HaveSameSources, HaveSameTables, table_under}
use Rattle.bf_image.proofs.keeping.Frozen.{objections_alike}
use Rattle.bf_image.proofs.keeping.SamePlan.{plan_same}
use Rattle.bf_image.proofs.keeping.Sources.{arms_inside_sources, tables_same}

-- the catalog of a database of a catalog is that catalog
pub bare_catalog : (db : Database) → catalog_of (without_rows (catalog_of db)) ≡ catalog_of db
bare_catalog db = ap (λ (tables : List Table). record { number = db.number; tables = tables; indexes = db.indexes }) (map-map (λ (s : Stored). s.table) table_without_rows (map (λ (s : Stored). s.table) db.tables) ∙ map-id (map (λ (s : Stored). s.table) db.tables))

pub plan_by_sources : (old new : Database) (m : Migrate) → HaveSameSources m old new → plan_made old m ≡ plan_made new m
plan_by_sources old new m same = plan_same old new (sources_of m) (tables_same old new (sources_of m) same) m (arms_inside_sources m)

module _ (old new : Database) (same : HaveSameTables old new) where
  made_alike : (m : Migrate) → plan_made old m ≡ plan_made new m
  made_alike m = plan_same old new (sources_of m) (λ name there. same name) m (arms_inside_sources m)

  pub plan_alike : (m : Migrate) → plan_of old m ≡ plan_of new m
  plan_alike m = ap₂ planned_unless (objections_alike old new same m) (made_alike m)

  table_alike : (name : List ℕ) → table_at old name ≡ table_at new name
  table_alike name = ap (λ o. unwrap_or o no_table) (same name)

  on_table : (name : List ℕ) (f : Table → List Refusal) → table_objections (stored_at old name) name f ≡ table_objections (stored_at new name) name f
  on_table name f = of (stored_at old name) (stored_at new name) (same name)
    where
      of : (a b : Option Stored) → option_map (λ (s : Stored). s.table) a ≡ option_map (λ (s : Stored). s.table) b → table_objections a name f ≡ table_objections b name f
      of None None e = refl
      of None (Some t) e = absurd cc
      of (Some s) None e = absurd cc
      of (Some s) (Some t) e = let table : s.table ≡ t.table = cc in ap f table

  there_alike : (name : List ℕ) → is_some (stored_at old name) ≡ is_some (stored_at new name)
  there_alike name = sym (is_there (stored_at old name)) ∙ ap is_some (same name) ∙ is_there (stored_at new name)
    where
      is_there : (o : Option Stored) → is_some (option_map (λ (s : Stored). s.table) o) ≡ is_some o
      is_there None = refl
      is_there (Some s) = refl

module _ (old new : Database) (alike : catalog_of old ≡ catalog_of new) where
  tables_alike : HaveSameTables old new
  tables_alike name = sym (under old) ∙ ap (λ (c : Catalog). find (λ (t : Table). same_name t.name name) c.tables) alike ∙ under new
    where
      under : (db : Database) → find (λ (t : Table). same_name t.name name) (catalog_of db).tables ≡ table_under db name
      under db = find-map (λ (t : Table). same_name t.name name) (λ (s : Stored). s.table) db.tables

  indexes_alike : old.indexes ≡ new.indexes
  indexes_alike = ap (λ (c : Catalog). c.indexes) alike

  objected_alike : (in_block : Bool) (s : Statement) → objections old in_block s ≡ objections new in_block s
  objected_alike true (CreateTable name rules key) = refl
  objected_alike true (CreateIndex name table columns) = refl
  objected_alike true (migrate m) = refl
  objected_alike true Begin = refl
  objected_alike true Commit = refl
  objected_alike true Rollback = refl
  objected_alike false (CreateTable name rules key) =
      ap (λ there. when there (refusal.TableExists name) ++ rules_objections rules ++ names_objections (rule_names rules) key) (there_alike old new tables_alike name)
  objected_alike false (CreateIndex name table columns) =
      on_table old new tables_alike table (λ t. new_index_objections old name t columns)
      ∙ ap (λ (is : List IndexRule). table_objections (stored_at new table) table (λ t. names_objections (column_names t) columns ++ when (list_any (λ i. same_name name i.name) is) (refusal.IndexExists name))) indexes_alike
  objected_alike false (migrate m) = objections_alike old new tables_alike m
  objected_alike false Begin = refl
  objected_alike false Commit = refl
  objected_alike false Rollback = refl
  objected_alike true (Insert table tuples) = on_table old new tables_alike table (λ t. flat_map (tuple_objections t) tuples)
  objected_alike false (Insert table tuples) = on_table old new tables_alike table (λ t. flat_map (tuple_objections t) tuples)
  objected_alike true (Select list table cond) = on_table old new tables_alike table (λ t. items_objections (scope_of t) list ++ cond_objections (scope_of t) (condition_of cond))
  objected_alike false (Select list table cond) = on_table old new tables_alike table (λ t. items_objections (scope_of t) list ++ cond_objections (scope_of t) (condition_of cond))
  objected_alike true (Update table sets cond) = on_table old new tables_alike table (λ t. sets_objections t sets ++ cond_objections (scope_of t) (condition_of cond))
  objected_alike false (Update table sets cond) = on_table old new tables_alike table (λ t. sets_objections t sets ++ cond_objections (scope_of t) (condition_of cond))
  objected_alike true (Delete table cond) = on_table old new tables_alike table (λ t. cond_objections (scope_of t) (condition_of cond))
  objected_alike false (Delete table cond) = on_table old new tables_alike table (λ t. cond_objections (scope_of t) (condition_of cond))

  action_alike : (s : Statement) → prepared_action old s ≡ prepared_action new s
  action_alike (migrate m) = ap (λ plan. Some (action.Migrate plan)) (made_alike old new tables_alike m)
  action_alike (CreateTable name rules key) = refl
  action_alike (CreateIndex name table columns) = ap (λ t. Some (action.CreateIndex (index_of name t columns))) (table_alike old new tables_alike table)
  action_alike (Insert table tuples) = ap (λ t. Some (action.Insert t tuples)) (table_alike old new tables_alike table)
  action_alike (Select list table cond) = ap (λ t. Some (action.Select t (items_over (place_in t) list) (cond_in t cond) (fixed_key t (cond_in t cond)))) (table_alike old new tables_alike table)
  action_alike (Update table sets cond) = ap (λ t. Some (action.Update t (map (set_in t) sets) (cond_in t cond) (fixed_key t (cond_in t cond)))) (table_alike old new tables_alike table)
  action_alike (Delete table cond) = ap (λ t. Some (action.Delete t (cond_in t cond) (fixed_key t (cond_in t cond)))) (table_alike old new tables_alike table)
  action_alike Begin = refl
  action_alike Commit = refl
  action_alike Rollback = refl

  pub prepared_alike : (in_block : Bool) (s : Statement) → prepared_of old in_block s ≡ prepared_of new in_block s
  prepared_alike in_block s =
      let number = ap (λ (c : Catalog). c.number) alike in
      let objected = objected_alike in_block s in
      let acts = action_alike s in
      λ i. option_map (λ act. record { catalog = number i; schema_change = changes_schema in_block s; action = act }) (unless_objected (objected i) (acts i))
