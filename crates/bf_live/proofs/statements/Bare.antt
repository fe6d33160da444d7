-- What the catalog of a database says of it: binding reads no rows.
use Rattle.std.proofs.Common.{◌≡◌, ℕ, Bool, true, false, ◌&&◌, cond, List, [], ◌∷◌, ◌++◌, map, find, Option, Some, None, option_map, unwrap_or, is_some, refl, sym, ap, ap₂, ◌∙◌}
use Rattle.std.specs.List.{list_all}
use Rattle.std.proofs.lemmas.Bool.{and_from}
use Rattle.std.proofs.lemmas.List.Folds.{list_all-map}
use Rattle.std.proofs.lemmas.Simd.{map-map}
use Rattle.bf_base.specs.declared.table.Table.{Table}
use Rattle.bf_base.specs.Lists.{name_cmp, rises, same_name, when}
use Rattle.bf_sql.specs.Bound.{table_without_rows, is_planned, action_of, without_rows, bound_of, changes_schema, items_over, unless_objected, catalog_of}
use Rattle.bf_tree.specs.Trees.{cond_over, expr_over}
use Rattle.bf_tree.specs.declared.bound.Action.{Action}
use Rattle.bf_tree.specs.declared.bound.Action.TheVariants as action
use Rattle.bf_tree.specs.declared.bound.Bound.{Bound}
use Rattle.bf_tree.specs.declared.catalog.IndexRule.{IndexRule}
use Rattle.bf_tree.specs.declared.reply.Refusal.{Refusal}
use Rattle.bf_tree.specs.declared.reply.Refusal.TheVariants as refusal
use Rattle.bf_tree.specs.declared.statement.Statement.{Statement}
use Rattle.bf_tree.specs.declared.statement.Statement.TheVariants.{CreateTable, CreateIndex, Insert, Select, Update, Delete, Begin, Commit, Rollback, Migrate}
use Rattle.bf_sql.specs.Conditions.{condition_of, fixed_key}
use Rattle.bf_sql.specs.Database.{Database, Stored, IsDatabase, is_on_table, is_within, no_table, stored_at, table_at}
use Rattle.bf_sql.specs.Meaning.{index_of}
use Rattle.bf_sql.specs.Objections.{items_objections, names_objections, new_index_objections, objections, rule_names, rules_objections, sets_objections, table_objections}
use Rattle.bf_sql.specs.Scopes.{cond_objections, place_of, scope_of, unqualified}
use Rattle.bf_live.proofs.keeps.Items.{list_all_if, list_any_alike}

abbrev table_in : Stored → Table
table_in s = s.table

abbrev table_or_none : Option Stored → Table
table_or_none o = unwrap_or (option_map table_in o) no_table

abbrev emptied : Stored → Stored
emptied s = table_without_rows s.table

-- a search that goes on alike finds alike
pub either_found : {X Y : Type 0} (f : X → Y) (found : Bool) (x : X) (behind : Option X) (behind_that : Option Y)
    → behind_that ≡ option_map f behind
    → cond found (Some (f x)) behind_that ≡ option_map f (cond found (Some x) behind)
either_found f true x behind behind_that same = refl
either_found f false x behind behind_that same = same

found_bare : (name : List ℕ) (tables : List Stored)
    → find (λ s. same_name s.table.name name) (map table_without_rows (map table_in tables))
    ≡ option_map emptied (find (λ s. same_name s.table.name name) tables)
found_bare name [] = refl
found_bare name (s ∷ tables) = either_found emptied (same_name s.table.name name) s _ _ (found_bare name tables)

module _ (db : Database) where
  abbrev the_bare : Database
  the_bare = without_rows (catalog_of db)

  stored_bare : (name : List ℕ) → stored_at the_bare name ≡ option_map emptied (stored_at db name)
  stored_bare name = found_bare name db.tables

  there_alike : (name : List ℕ) → is_some (stored_at the_bare name) ≡ is_some (stored_at db name)
  there_alike name = ap is_some (stored_bare name) ∙ alike (stored_at db name)
    where
      alike : (o : Option Stored) → is_some (option_map emptied o) ≡ is_some o
      alike None = refl
      alike (Some s) = refl

  same_table_at : (name : List ℕ) → table_at the_bare name ≡ table_at db name
  same_table_at name = ap (λ (o : Option Stored). table_or_none o) (stored_bare name) ∙ alike (stored_at db name)
    where
      alike : (o : Option Stored) → table_or_none (option_map emptied o) ≡ table_or_none o
      alike None = refl
      alike (Some s) = refl

  same_on_table : (name : List ℕ) (on_table : Table → List Refusal)
      → table_objections (stored_at the_bare name) name on_table ≡ table_objections (stored_at db name) name on_table
  same_on_table name on_table =
      ap (λ (o : Option Stored). table_objections o name on_table) (stored_bare name) ∙ alike (stored_at db name)
    where
      alike : (o : Option Stored) → table_objections (option_map emptied o) name on_table ≡ table_objections o name on_table
      alike None = refl
      alike (Some s) = refl

  -- the catalog alone objects
  pub same_objections : (in_block : Bool) (s : Statement) → is_planned in_block s ≡ false → objections the_bare in_block s ≡ objections db in_block s
  same_objections false (CreateTable name rules key) bound =
      ap (λ (taken : Bool). when taken (refusal.TableExists name) ++ rules_objections rules ++ names_objections (rule_names rules) key)
      (there_alike name)
  same_objections false (CreateIndex name table columns) bound = same_on_table table (λ t. new_index_objections db name t columns)
  same_objections false (Migrate migrate) bound = absurd cc
  same_objections in_block (Insert table tuples) bound = same_on_table table _
  same_objections in_block (Select list table c) bound =
      same_on_table table (λ t. items_objections (scope_of t) list ++ cond_objections (scope_of t) (condition_of c))
  same_objections in_block (Update table sets c) bound =
      same_on_table table (λ t. sets_objections t sets ++ cond_objections (scope_of t) (condition_of c))
  same_objections in_block (Delete table c) bound = same_on_table table (λ t. cond_objections (scope_of t) (condition_of c))
  same_objections in_block other bound = refl

  -- and what a statement is to do is the same
  pub same_action : (s : Statement) → action_of the_bare s ≡ action_of db s
  same_action (CreateTable name rules key) = refl
  same_action (CreateIndex name table columns) =
      ap (λ (t : Table). Some (action.CreateIndex (index_of name t columns))) (same_table_at table)
  same_action (Insert table tuples) = ap (λ (t : Table). Some (action.Insert t tuples)) (same_table_at table)
  same_action (Select list table c) =
      ap (λ (t : Table).
      let place = place_of (scope_of t) in
      let on = cond_over place (condition_of c) in
      Some (action.Select t (items_over place list) on (fixed_key t on))) (same_table_at table)
  same_action (Update table sets c) =
      ap (λ (t : Table).
      let place = place_of (scope_of t) in
      let on = cond_over place (condition_of c) in
      Some (action.Update t (map (λ set. (place (unqualified set.0), expr_over place set.1)) sets) on (fixed_key t on))) (same_table_at table)
  same_action (Delete table c) =
      ap (λ (t : Table).
      let on = cond_over (place_of (scope_of t)) (condition_of c) in
      Some (action.Delete t on (fixed_key t on))) (same_table_at table)
  same_action Begin = refl
  same_action Commit = refl
  same_action Rollback = refl
  same_action (Migrate migrate) = refl

  -- so a statement is bound in the catalog as it is in the database
  pub same_bound : (in_block : Bool) (s : Statement) → is_planned in_block s ≡ false → bound_of the_bare in_block s ≡ bound_of db in_block s
  same_bound in_block s planned =
      let bound : Action → Bound = λ act. record { catalog = db.number; schema_change = changes_schema in_block s; action = act } in
      ap₂ (λ (rs : List Refusal) (o : Option Action). option_map bound (unless_objected rs o)) (same_objections in_block s planned) (same_action s)

  -- the catalog's tables are those of the database
  tables_bare : (tables : List Stored) → map table_in (map table_without_rows (map table_in tables)) ≡ map table_in tables
  tables_bare [] = refl
  tables_bare (s ∷ tables) = ap (λ (ts : List Table). s.table ∷ ts) (tables_bare tables)

  all_alike : (test : Table → Bool) → list_all (λ s. test s.table) the_bare.tables ≡ list_all (λ s. test s.table) db.tables
  all_alike test =
      sym (list_all-map test table_in the_bare.tables) ∙ ap (list_all test) (tables_bare db.tables)
      ∙ list_all-map test table_in db.tables

  each_empty : (test : Stored → Bool) → ((t : Table) → test (table_without_rows t) ≡ true) → (tables : List Table)
      → list_all test (map table_without_rows tables) ≡ true
  each_empty test passes [] = refl
  each_empty test passes (t ∷ tables) = and_from _ _ (passes t) (each_empty test passes tables)

  still_on_table : (index : IndexRule) → is_on_table the_bare index ≡ is_on_table db index
  still_on_table index =
      let fits : Table → Bool = λ t. same_name t.name index.table && is_within t index.columns in
      list_any_alike table_in fits the_bare.tables db.tables (tables_bare db.tables)

  -- a database without its rows is a database
  pub bare_is_database : IsDatabase db → IsDatabase the_bare
  bare_is_database is =
      let called : Table → List ℕ = λ t. t.name in
      let same = tables_bare db.tables in
      let names = sym (map-map called table_in the_bare.tables) ∙ ap (map called) same ∙ map-map called table_in db.tables in
      record {
        tables_by_name = ap (rises name_cmp) names ∙ is.tables_by_name;
        indexes_by_name = is.indexes_by_name;
        rows_by_key = each_empty _ (λ t. refl) (map table_in db.tables);
        rows_admitted = each_empty _ (λ t. refl) (map table_in db.tables);
        keys_within = all_alike (λ t. is_within t t.key) ∙ is.keys_within;
        indexes_on_tables =
            list_all_if (is_on_table db) (is_on_table the_bare) (λ index on. still_on_table index ∙ on) db.indexes is.indexes_on_tables;
      }
