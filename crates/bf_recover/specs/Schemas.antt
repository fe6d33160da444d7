-- SCHEMA: which tables and index rules of records are legal in a database, and the database with one of them.
use Rattle.std.specs.Prelude.{◌+◌, ◌&&◌, Bool, true, false, List, [], ◌∷◌}
use Rattle.bf_base.specs.declared.table.Table.{Table}
use Rattle.bf_record.specs.declared.schema.SchemaChange.{SchemaChange}
use Rattle.bf_record.specs.declared.schema.SchemaChange.TheVariants as schema
use Rattle.bf_sql.specs.Database.{Database, stored_in_order, table_at, with_tables}
use Rattle.bf_sql.specs.Meaning.{next_number, with_index}
use Rattle.bf_sql.specs.Objections.{objections}
use Rattle.bf_sql.specs.migrations.Lazy.{LazyState}
use Rattle.bf_tree.specs.declared.bound.Action.{Action}
use Rattle.bf_tree.specs.declared.bound.Action.TheVariants.{Refused}
use Rattle.bf_tree.specs.declared.catalog.IndexRule.{IndexRule}
use Rattle.bf_recover.specs.Spoken.{create_index_of, create_table_of, is_spoken_index, is_spoken_table}

abbrev pub is_empty : {X : Type 0} → List X → Bool
is_empty [] = true
is_empty (x ∷ xs) = false

-- a table that stands for a CREATE TABLE against which nothing speaks
abbrev pub is_legal_table : Database → Table → Bool
is_legal_table db t = is_spoken_table t && is_empty (objections db false (create_table_of t))

-- an index rule that stands for a CREATE INDEX against which nothing speaks
abbrev pub is_legal_index : Database → IndexRule → Bool
is_legal_index db i =
    let table = table_at db i.table in
    is_spoken_index table i && is_empty (objections db false (create_index_of table i))

abbrev pub is_legal_schema : Database → SchemaChange → Bool
is_legal_schema db (schema.Table t) = is_legal_table db t
is_legal_schema db (schema.Index i) = is_legal_index db i

-- the database with a table without rows, or with an index rule
abbrev pub with_schema : SchemaChange → Database → Database
with_schema (schema.Table t) db = next_number (with_tables (stored_in_order t [] ∷ []) db)
with_schema (schema.Index i) db = next_number (with_index i db)

-- by one record the live tables have a table more, or an index rule more
abbrev pub created_lazily : LazyState → SchemaChange → LazyState
created_lazily lazy change = record lazy { live = with_schema change lazy.live; records = lazy.records + 1 }

-- a statement is bound to its refusal
abbrev pub is_refused : Action → Bool
is_refused (Refused r) = true
is_refused other = false
