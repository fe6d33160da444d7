-- CREATE TABLE and CREATE INDEX: what they ask of the database, and what they make of it.
use Rattle.std.proofs.Common.{◌≡◌, ℕ, ◌≤◌, Bool, true, false, List, [], ◌∷◌, ◌++◌, is_some, None, sym, ap, subst, ◌∙◌, length}
use Rattle.std.proofs.lemmas.Bool.{and_from, le-leb}
use Rattle.std.proofs.lemmas.List.{length-map}
use Rattle.std.proofs.lemmas.List.Folds.{list_all-map}
use Rattle.bf_base.specs.declared.table.Table.{Table}
use Rattle.bf_base.specs.Lists.{when}
use Rattle.bf_base.proofs.Names.{name_cmp_total}
use Rattle.bf_base.proofs.Order.{list_all-with_placed, none_from_test}
use Rattle.bf_tree.specs.Limits.{HasNarrowTables, declared_columns, is_narrow}
use Rattle.bf_tree.specs.declared.bound.Action.TheVariants as action
use Rattle.bf_tree.specs.declared.catalog.IndexRule.{IndexRule}
use Rattle.bf_tree.specs.declared.reply.Refusal.{Refusal}
use Rattle.bf_tree.specs.declared.reply.Refusal.TheVariants as refusal
use Rattle.bf_tree.specs.declared.reply.Reply.TheVariants as reply
use Rattle.bf_tree.specs.declared.statement.ColumnRule.{ColumnRule}
use Rattle.bf_tree.specs.declared.statement.Statement.{Statement}
use Rattle.bf_tree.specs.declared.statement.Statement.TheVariants.{CreateTable, CreateIndex, Insert, Select, Update, Delete, Begin, Commit, Rollback, Migrate}
use Rattle.bf_sql.specs.Database.{Database, Stored, IsDatabase, stored_at, stored_in_order, table_at, with_tables}
use Rattle.bf_sql.specs.Meaning.{effect, executed, index_of, next_number, created_table, unless_refused, with_index}
use Rattle.bf_sql.specs.Objections.{names_objections, objections, rule_names, rules_objections}
use Rattle.bf_live.specs.Meanings.{IsBoundAs}
use Rattle.bf_live.proofs.querying.Effects.{nothing_before, not_when}
use Rattle.bf_sql.specs.Bound.{catalog_of}
use Rattle.bf_live.proofs.keeps.New.{keeps_create_table, keeps_create_index}

abbrev pub with_new_table : Table → Database → Database
with_new_table table db = next_number (with_tables (stored_in_order table [] ∷ []) db)

-- the table of a CREATE TABLE that nothing stands in the way of
pub record Creates (db : Database) (s : Statement) (table : Table) : Type 0 where
  pub fresh : stored_at db table.name ≡ None
  pub database : IsDatabase (with_new_table table db)
  pub means : (commit : ℕ) → executed commit db false s ≡ (reply.Created, with_new_table table db)
  pub narrow : length (declared_columns s) ≤ 16 → is_narrow table ≡ true

-- the rule of a CREATE INDEX that nothing stands in the way of
pub record CreatesIndex (db : Database) (s : Statement) (index : IndexRule) : Type 0 where
  pub database : IsDatabase (next_number (with_index index db))
  pub means : (commit : ℕ) → executed commit db false s ≡ (reply.Created, next_number (with_index index db))

module _ (db : Database) where
  -- where the catalog does not object to it, a statement that looks at no rows has its effect
  unobjected : (commit : ℕ) (s : Statement) → objections db false s ≡ []
      → unless_refused (objections db false s ++ []) db (λ _. effect commit db s) ≡ effect commit db s
  unobjected commit s none = ap (λ (rs : List Refusal). unless_refused (rs ++ []) db (λ _. effect commit db s)) none

  new_table : (name : List ℕ) (rules : List ColumnRule) (key : List (List ℕ)) → IsDatabase db
      → objections db false (CreateTable name rules key) ≡ []
      → Creates db (CreateTable name rules key) (created_table name rules key)
  new_table name rules key is none =
      let taken = when (is_some (stored_at db name)) (refusal.TableExists name) in
      let parts = nothing_before (taken ++ rules_objections rules) (names_objections (rule_names rules) key) none in
      let unnamed = (nothing_before taken (rules_objections rules) parts.0).0 in
      let new = not_when (is_some (stored_at db name)) (refusal.TableExists name) unnamed in
      record {
        fresh = none_from_test (stored_at db name) new;
        database = keeps_create_table db name rules key is none;
        means = λ commit. unobjected commit (CreateTable name rules key) none;
        narrow = λ few. le-leb _ _ (subst (λ n. n ≤ 16) (sym (length-map rules _)) few);
      }

  pub creates : (s : Statement) (table : Table) → IsBoundAs db false s (action.CreateTable table) → Creates db s table
  creates (CreateTable name rules key) table bound =
      let is = bound.action in
      let same : created_table name rules key ≡ table = cc in
      subst (Creates db (CreateTable name rules key)) same (new_table name rules key bound.database bound.admitted)
  creates (CreateIndex name on columns) table bound = let is = bound.action in absurd cc
  creates (Insert name tuples) table bound = let is = bound.action in absurd cc
  creates (Select list name c) table bound = let is = bound.action in absurd cc
  creates (Update name sets c) table bound = let is = bound.action in absurd cc
  creates (Delete name c) table bound = let is = bound.action in absurd cc
  creates Begin table bound = let is = bound.action in absurd cc
  creates Commit table bound = let is = bound.action in absurd cc
  creates Rollback table bound = let is = bound.action in absurd cc
  creates (Migrate migrate) table bound = let is = bound.action in absurd cc

  new_index : (name on : List ℕ) (columns : List (List ℕ)) → IsDatabase db
      → objections db false (CreateIndex name on columns) ≡ []
      → CreatesIndex db (CreateIndex name on columns) (index_of name (table_at db on) columns)
  new_index name on columns is none = record {
    database = keeps_create_index db name on columns is none;
    means = λ commit. unobjected commit (CreateIndex name on columns) none;
  }

  pub creates_index : (s : Statement) (index : IndexRule) → IsBoundAs db false s (action.CreateIndex index)
      → CreatesIndex db s index
  creates_index (CreateIndex name on columns) index bound =
      let is = bound.action in
      let same : index_of name (table_at db on) columns ≡ index = cc in
      subst (CreatesIndex db (CreateIndex name on columns)) same (new_index name on columns bound.database bound.admitted)
  creates_index (CreateTable name rules key) index bound = let is = bound.action in absurd cc
  creates_index (Insert name tuples) index bound = let is = bound.action in absurd cc
  creates_index (Select list name c) index bound = let is = bound.action in absurd cc
  creates_index (Update name sets c) index bound = let is = bound.action in absurd cc
  creates_index (Delete name c) index bound = let is = bound.action in absurd cc
  creates_index Begin index bound = let is = bound.action in absurd cc
  creates_index Commit index bound = let is = bound.action in absurd cc
  creates_index Rollback index bound = let is = bound.action in absurd cc
  creates_index (Migrate migrate) index bound = let is = bound.action in absurd cc

  -- a new table with few columns leaves the tables narrow
  pub narrow_with_new : (table : Table) → is_narrow table ≡ true → HasNarrowTables (catalog_of db)
      → HasNarrowTables (catalog_of (with_new_table table db))
  narrow_with_new table here all =
      let test : Stored → Bool = λ s. is_narrow s.table in
      let tables = (with_new_table table db).tables in
      list_all-map is_narrow (λ (s : Stored). s.table) tables
      ∙ list_all-with_placed name_cmp_total (λ (s : Stored). s.table.name) test [] (stored_in_order table [] ∷ db.tables)
      ∙ and_from _ _ here (sym (list_all-map is_narrow (λ (s : Stored). s.table) db.tables) ∙ all)
