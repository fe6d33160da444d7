-- What the catalog has against a statement, in the order of reading. The first objection is told.
use Rattle.std.specs.Prelude.{ℕ, Bool, true, false, not, ◌&&◌, List, [], ◌∷◌, ◌++◌, map, flat_map, length, zip, Option, Some, None, is_some, nat_le, int_lt, ◌==◌, slice_index_or}
use Rattle.std.specs.List.{list_any}
use Rattle.bf_base.specs.declared.value.Value.{Value}
use Rattle.bf_base.specs.declared.table.Column.{Column}
use Rattle.bf_base.specs.declared.table.Table.{Table}
use Rattle.bf_base.specs.Limits.{longest_text}
use Rattle.bf_base.specs.Lists.{same_name, has, with_before, when}
use Rattle.bf_base.specs.Tables.{kind_of, kind_admitted, same_kind}
use Rattle.bf_tree.specs.declared.raw.Ref.{Ref}
use Rattle.bf_tree.specs.Trees.{Expr}
use Rattle.bf_tree.specs.declared.items.Items.{Items}
use Rattle.bf_tree.specs.declared.items.Items.TheVariants.{All, Exprs, Aggregates}
use Rattle.bf_tree.specs.declared.statement.ColumnForm.{ColumnForm}
use Rattle.bf_tree.specs.declared.statement.ColumnForm.TheVariants as form
use Rattle.bf_tree.specs.declared.statement.ColumnRule.{ColumnRule}
use Rattle.bf_tree.specs.declared.statement.Statement.{Statement}
use Rattle.bf_tree.specs.declared.statement.Statement.TheVariants.{CreateTable, CreateIndex, Insert, Select, Update, Delete, Begin, Commit, Rollback, Migrate}
use Rattle.bf_tree.specs.declared.reply.Refusal.{Refusal}
use Rattle.bf_tree.specs.declared.reply.Refusal.TheVariants as refusal
use Rattle.bf_sql.specs.Database.{Database, Stored, stored_at}
use Rattle.bf_sql.specs.Conditions.{condition_of}
use Rattle.bf_sql.specs.Scopes.{Scope, scope_of, admitted_by, unqualified, twice_objections, kind_objections, expr_objections, cond_objections, total_objections}
use Rattle.bf_sql.specs.migrations.MigrationObjections.{migrate_objections}

-- the objections to a statement on the table of a name, where there is one
abbrev pub table_objections : Option Stored → List ℕ → (Table → List Refusal) → List Refusal
table_objections None name on_table = refusal.NoTable name ∷ []
table_objections (Some s) name on_table = on_table s.table

abbrev pub rule_names : List ColumnRule → List (List ℕ)
rule_names rules = map (λ rule. rule.name) rules

abbrev pub column_names : Table → List (List ℕ)
column_names table = map (λ c. c.name) table.columns

-- names of columns that are there, each once
abbrev pub names_objections : List (List ℕ) → List (List ℕ) → List Refusal
names_objections columns names = flat_map (λ p. when (not (has same_name columns p.1)) (refusal.NoColumn p.1) ++ twice_objections p.0 p.1) (with_before names)

abbrev pub form_objections : List ℕ → ColumnForm → List Refusal
form_objections name form.Int = []
form_objections name (form.Checked checked low high) = when (not (same_name name checked)) (refusal.NoColumn checked) ++ when (int_lt high low) refusal.OutOfRange
form_objections name (form.Varchar most) = when (not (nat_le 1 most && nat_le most longest_text)) refusal.TooLong

-- columns: names that stood before, and forms
abbrev pub rules_objections : List ColumnRule → List Refusal
rules_objections rules = flat_map (λ p. twice_objections (rule_names p.0) p.1.name ++ form_objections p.1.name p.1.form) (with_before rules)

abbrev pub literal_objections : Column → Value → List Refusal
literal_objections column value = when (not (same_kind (kind_of value) (kind_admitted column.admits))) refusal.TypeMismatch

-- a tuple with a value for each column, of its kind
abbrev pub tuple_objections : Table → List Value → List Refusal
tuple_objections table tuple =
    when (not (length tuple == length table.columns)) refusal.WrongCount
    ++ flat_map (λ p. literal_objections p.0 p.1) (zip table.columns tuple)

abbrev pub items_objections : Scope → Items (Expr Ref) → List Refusal
items_objections scope All = []
items_objections scope (Exprs exprs) = flat_map (expr_objections scope) exprs
items_objections scope (Aggregates totals) = flat_map (total_objections scope) totals

abbrev pub key_names : Table → List (List ℕ)
key_names table = map (λ place. slice_index_or (column_names table) place []) table.key

-- a SET, behind those before: no column, a key column, a column set before, its expression, its kind
abbrev pub set_objections : Table → List (List ℕ) → List ℕ → Expr Ref → List Refusal
set_objections table before name e =
    when (not (has same_name (column_names table) name)) (refusal.NoColumn name)
    ++ when (has same_name (key_names table) name) (refusal.KeyColumn name)
    ++ twice_objections before name
    ++ expr_objections (scope_of table) e
    ++ kind_objections (scope_of table) e (kind_admitted (admitted_by (scope_of table) (unqualified name)))

abbrev pub sets_objections : Table → List (List ℕ × Expr Ref) → List Refusal
sets_objections table sets = flat_map (λ p. set_objections table (map (λ s. s.0) p.0) p.1.0 p.1.1) (with_before sets)

abbrev pub new_table_objections : Database → List ℕ → List ColumnRule → List (List ℕ) → List Refusal
new_table_objections db name rules key = when (is_some (stored_at db name)) (refusal.TableExists name) ++ rules_objections rules ++ names_objections (rule_names rules) key

abbrev pub new_index_objections : Database → List ℕ → Table → List (List ℕ) → List Refusal
new_index_objections db name table columns = names_objections (column_names table) columns ++ when (list_any (λ i. same_name name i.name) db.indexes) (refusal.IndexExists name)

-- what stands in the way of a statement, in a block or outside, before any row is looked at
abbrev pub objections : Database → Bool → Statement → List Refusal
objections db true (CreateTable name rules key) = refusal.MustBeAlone ∷ []
objections db true (CreateIndex name table columns) = refusal.MustBeAlone ∷ []
objections db true (Migrate migrate) = refusal.MustBeAlone ∷ []
objections db true Begin = refusal.InTransaction ∷ []
objections db true Commit = []
objections db true Rollback = []
objections db false (CreateTable name rules key) = new_table_objections db name rules key
objections db false (CreateIndex name table columns) = table_objections (stored_at db table) table (λ t. new_index_objections db name t columns)
objections db false (Migrate migrate) = migrate_objections db migrate
objections db false Begin = []
objections db false Commit = refusal.NoTransaction ∷ []
objections db false Rollback = refusal.NoTransaction ∷ []
objections db in_block (Insert table tuples) = table_objections (stored_at db table) table (λ t. flat_map (tuple_objections t) tuples)
objections db in_block (Select list table cond) =
    table_objections (stored_at db table) table (λ t. items_objections (scope_of t) list ++ cond_objections (scope_of t) (condition_of cond))
objections db in_block (Update table sets cond) =
    table_objections (stored_at db table) table (λ t. sets_objections t sets ++ cond_objections (scope_of t) (condition_of cond))
objections db in_block (Delete table cond) = table_objections (stored_at db table) table (λ t. cond_objections (scope_of t) (condition_of cond))
