-- The meaning of a statement: its reply, and the database after it.
use Rattle.std.specs.Prelude.{ℕ, ◌+◌, Bool, not, List, [], ◌∷◌, ◌++◌, map, filter, length, if◌then◌else◌}
use Rattle.bf_base.specs.declared.table.Admit.{Admit}
use Rattle.bf_base.specs.declared.table.Admit.TheVariants as admits
use Rattle.bf_base.specs.declared.table.Table.{Table}
use Rattle.bf_base.specs.Values.{key_cmp}
use Rattle.bf_base.specs.Lists.{name_cmp, placed, with_placed}
use Rattle.bf_base.specs.Tables.{key_of}
use Rattle.bf_tree.specs.Evaluation.{holds_on}
use Rattle.bf_tree.specs.declared.catalog.IndexRule.{IndexRule}
use Rattle.bf_tree.specs.declared.statement.ColumnForm.{ColumnForm}
use Rattle.bf_tree.specs.declared.statement.ColumnForm.TheVariants as form
use Rattle.bf_tree.specs.declared.statement.ColumnRule.{ColumnRule}
use Rattle.bf_tree.specs.declared.statement.Statement.{Statement}
use Rattle.bf_tree.specs.declared.statement.Statement.TheVariants.{CreateTable, CreateIndex, Insert, Select, Update, Delete, Begin, Commit, Rollback, Migrate}
use Rattle.bf_tree.specs.declared.reply.Refusal.{Refusal}
use Rattle.bf_tree.specs.declared.reply.Reply.{Reply}
use Rattle.bf_tree.specs.declared.reply.Reply.TheVariants as reply
use Rattle.bf_sql.specs.Database.{Database, table_at, table_rows, stored_in_order, with_rows, with_tables}
use Rattle.bf_sql.specs.Conditions.{condition_of}
use Rattle.bf_sql.specs.Scopes.{scope_of, place_of, read_in, unqualified}
use Rattle.bf_sql.specs.Objections.{objections}
use Rattle.bf_sql.specs.Queries.{selected, answer_of, changed}
use Rattle.bf_sql.specs.RowObjections.{row_objections}
use Rattle.bf_sql.specs.migrations.Images.{flipped}

abbrev pub admit_of : ColumnForm → Admit
admit_of form.Int = admits.Int
admit_of (form.Checked name low high) = admits.Checked low high
admit_of (form.Varchar most) = admits.Varchar most

-- the places of a table's columns by their names
abbrev pub named_places : Table → List (List ℕ) → List ℕ
named_places table names = map (λ name. place_of (scope_of table) (unqualified name)) names

abbrev pub keyless_table : List ℕ → List ColumnRule → Table
keyless_table name rules = record { name = name; columns = map (λ rule. record { name = rule.name; admits = admit_of rule.form }) rules; key = [] }

-- the table that CREATE TABLE makes
abbrev pub created_table : List ℕ → List ColumnRule → List (List ℕ) → Table
created_table name rules key =
    let table = keyless_table name rules in
    record table { key = named_places table key }

-- the index that CREATE INDEX makes
abbrev pub index_of : List ℕ → Table → List (List ℕ) → IndexRule
index_of name table columns = record { name = name; table = table.name; columns = named_places table columns }

abbrev pub with_index : IndexRule → Database → Database
with_index index db = record db { indexes = placed name_cmp (λ i. i.name) db.indexes index }

abbrev pub next_number : Database → Database
next_number db = record db { number = db.number + 1 }

-- the reply to a statement that nothing stands in the way of, and the database after it. `commit` is the number of the
-- commit that it may end
abbrev pub effect : ℕ → Database → Statement → Reply × Database
effect commit db (CreateTable name rules key) = (reply.Created, next_number (with_tables (stored_in_order (created_table name rules key) [] ∷ []) db))
effect commit db (CreateIndex name table columns) = (reply.Created, next_number (with_index (index_of name (table_at db table) columns) db))
effect commit db (Insert table tuples) =
    (reply.Inserted (length tuples), with_rows db table (with_placed key_cmp (key_of (table_at db table)) (table_rows db table) tuples))
effect commit db (Select list table cond) =
    let read = read_in (scope_of (table_at db table)) in
    (reply.Rows (answer_of read list (selected read (condition_of cond) (table_rows db table))), db)
effect commit db (Update table sets cond) =
    let scope = scope_of (table_at db table) in
    let change = changed (read_in scope) (λ name. place_of scope (unqualified name)) sets in (
      reply.Updated (length (selected (read_in scope) (condition_of cond) (table_rows db table))),
      with_rows db table (map (λ row. if holds_on (read_in scope row) (condition_of cond) then change row else row) (table_rows db table)),
    )
effect commit db (Delete table cond) =
    let read = read_in (scope_of (table_at db table)) in (
      reply.Deleted (length (selected read (condition_of cond) (table_rows db table))),
      with_rows db table (filter (λ row. not (holds_on (read row) (condition_of cond))) (table_rows db table)),
    )
effect commit db Begin = (reply.Begun, db)
effect commit db Commit = (reply.Committed commit, db)
effect commit db Rollback = (reply.RolledBack, db)
effect commit db (Migrate migrate) = (reply.Migrated (length migrate.targets), flipped db migrate)

abbrev pub unless_refused : List Refusal → Database → (Unit {0} → Reply × Database) → Reply × Database
unless_refused [] db act = act tt
unless_refused (r ∷ rs) db act = (reply.Refused r, db)

-- MEANING: a statement, in a block or outside, is refused with the first objection, and changes nothing then
abbrev pub executed : ℕ → Database → Bool → Statement → Reply × Database
executed commit db in_block s = unless_refused (objections db in_block s ++ row_objections db s) db (λ _. effect commit db s)
