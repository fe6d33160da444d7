-- What a statement is bound to in a catalog: its table, and places in a row for refs.
use Rattle.std.specs.Prelude.{ℕ, Bool, true, false, not, List, [], ◌∷◌, map, Option, Some, None, option_map}
use Rattle.bf_base.specs.declared.table.Table.{Table}
use Rattle.bf_tree.specs.Trees.{Expr, Cond, expr_over, cond_over}
use Rattle.bf_tree.specs.declared.raw.Ref.{Ref}
use Rattle.bf_tree.specs.declared.items.Aggregate.{Aggregate}
use Rattle.bf_tree.specs.declared.items.Aggregate.TheVariants.{Count, Sum, Min, Max}
use Rattle.bf_tree.specs.declared.items.Items.{Items}
use Rattle.bf_tree.specs.declared.items.Items.TheVariants.{All, Exprs, Aggregates}
use Rattle.bf_tree.specs.declared.bound.Action.{Action}
use Rattle.bf_tree.specs.declared.bound.Action.TheVariants as action
use Rattle.bf_tree.specs.declared.bound.Bound.{Bound}
use Rattle.bf_tree.specs.declared.catalog.Catalog.{Catalog}
use Rattle.bf_tree.specs.declared.statement.Statement.{Statement}
use Rattle.bf_tree.specs.declared.statement.Statement.TheVariants.{CreateTable, CreateIndex, Insert, Select, Update, Delete, Begin, Commit, Rollback, Migrate}
use Rattle.bf_tree.specs.declared.reply.Refusal.{Refusal}
use Rattle.bf_sql.specs.Database.{Database, Stored, table_at}
use Rattle.bf_sql.specs.Conditions.{condition_of, fixed_key}
use Rattle.bf_sql.specs.Scopes.{scope_of, place_of, unqualified}
use Rattle.bf_sql.specs.Objections.{objections}
use Rattle.bf_sql.specs.Meaning.{created_table, index_of}

-- a table without rows
abbrev pub table_without_rows : Table → Stored
table_without_rows table = record { table = table; rows = [] }

-- the database of a catalog, without rows
abbrev pub without_rows : Catalog → Database
without_rows catalog = record { number = catalog.number; tables = map table_without_rows catalog.tables; indexes = catalog.indexes }

-- the catalog of a database
abbrev pub catalog_of : Database → Catalog
catalog_of db = record { number = db.number; tables = map (λ s. s.table) db.tables; indexes = db.indexes }

-- a MIGRATE outside a block is planned, and not bound
abbrev pub is_planned : Bool → Statement → Bool
is_planned false (Migrate migrate) = true
is_planned in_block s = false

module _ {R S : Type 0} (to : R → S) where
  -- the same total, and the same items, over other columns
  abbrev pub total_over : Aggregate (Expr R) → Aggregate (Expr S)
  total_over Count = Count
  total_over (Sum e) = Sum (expr_over to e)
  total_over (Min e) = Min (expr_over to e)
  total_over (Max e) = Max (expr_over to e)

  abbrev pub items_over : Items (Expr R) → Items (Expr S)
  items_over All = All
  items_over (Exprs exprs) = Exprs (map (expr_over to) exprs)
  items_over (Aggregates totals) = Aggregates (map total_over totals)

module _ (table : Table) where
  -- the place of a column in a row of a table
  abbrev pub place_in : Ref → ℕ
  place_in = place_of (scope_of table)

  abbrev pub cond_in : Option (Cond Ref) → Cond ℕ
  cond_in cond = cond_over place_in (condition_of cond)

  abbrev pub set_in : List ℕ × Expr Ref → ℕ × Expr ℕ
  set_in set = (place_in (unqualified set.0), expr_over place_in set.1)

-- a statement that nothing stands in the way of; a MIGRATE is planned, and not bound
abbrev pub action_of : Database → Statement → Option Action
action_of db (CreateTable name rules key) = Some (action.CreateTable (created_table name rules key))
action_of db (CreateIndex name table columns) = Some (action.CreateIndex (index_of name (table_at db table) columns))
action_of db (Insert table tuples) = Some (action.Insert (table_at db table) tuples)
action_of db (Select list table cond) =
    let bound = cond_in (table_at db table) cond in
    Some (action.Select (table_at db table) (items_over (place_in (table_at db table)) list) bound (fixed_key (table_at db table) bound))
action_of db (Update table sets cond) =
    let bound = cond_in (table_at db table) cond in
    Some (action.Update (table_at db table) (map (set_in (table_at db table)) sets) bound (fixed_key (table_at db table) bound))
action_of db (Delete table cond) =
    let bound = cond_in (table_at db table) cond in
    Some (action.Delete (table_at db table) bound (fixed_key (table_at db table) bound))
action_of db Begin = Some action.Begin
action_of db Commit = Some action.Commit
action_of db Rollback = Some action.Rollback
action_of db (Migrate migrate) = None

abbrev pub unless_objected : List Refusal → Option Action → Option Action
unless_objected [] bound = bound
unless_objected (r ∷ rs) bound = Some (action.Refused r)

-- a CREATE or a MIGRATE outside a block
abbrev pub changes_schema : Bool → Statement → Bool
changes_schema in_block (CreateTable name rules key) = not in_block
changes_schema in_block (CreateIndex name table columns) = not in_block
changes_schema in_block (Insert table tuples) = false
changes_schema in_block (Select list table cond) = false
changes_schema in_block (Update table sets cond) = false
changes_schema in_block (Delete table cond) = false
changes_schema in_block Begin = false
changes_schema in_block Commit = false
changes_schema in_block Rollback = false
changes_schema in_block (Migrate migrate) = not in_block

-- a statement as it is bound, with what it is to do where nothing stands in its way
abbrev pub bound_as : Database → Bool → Statement → Option Action → Option Bound
bound_as db in_block s act =
    option_map (λ act. record { catalog = db.number; schema_change = changes_schema in_block s; action = act }) (unless_objected (objections db in_block s) act)

-- BOUND: the first objection of the catalog, or else the action. A statement is bound in `without_rows` of a catalog, since
-- nothing here reads rows; none is the bound of a MIGRATE outside a block that the catalog does not refuse
abbrev pub bound_of : Database → Bool → Statement → Option Bound
bound_of db in_block s = bound_as db in_block s (action_of db s)
