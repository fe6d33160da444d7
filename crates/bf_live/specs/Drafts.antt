-- What a schema change makes of the tables and of the index rules, built up beside the live tables.
use Rattle.std.specs.Prelude.{◌≡◌, ℕ, ◌+◌, List, [], ◌++◌, map, filter, find, fold, not, Option, IsTrue, if◌then◌else◌}
use Rattle.std.specs.List.{All}
use Rattle.bf_base.specs.declared.table.Table.{Table}
use Rattle.bf_base.specs.Lists.{has, name_cmp, rises, same_name, with_placed}
use Rattle.bf_heap.specs.Heaps.{Entry}
use Rattle.bf_tree.specs.Catalogs.{Catalog}
use Rattle.bf_tree.specs.declared.catalog.IndexRule.{IndexRule}
use Rattle.bf_sql.specs.Bound.{catalog_of}
use Rattle.bf_sql.specs.Database.{Database, IsDatabase}
use Rattle.bf_live.specs.Live.{IsUnderOwnKeys, NamedRows, TableRows, exchanged, stored}

-- the tables so far, each with its rows, and the index rules so far
pub record Drafted : Type 0 where
  pub tables : List TableRows
  pub indexes : List IndexRule

abbrev pub name_of_rows : TableRows → List ℕ
name_of_rows t = t.0.name

-- the table of a name
abbrev pub drafted_at : List TableRows → List ℕ → Option TableRows
drafted_at tables name = find (λ t. same_name t.0.name name) tables

-- the index rule of a name
abbrev pub rule_named : List IndexRule → List ℕ → Option IndexRule
rule_named rules name = find (λ rule. same_name name rule.name) rules

-- tables in the order of their names, with further ones in their places
abbrev pub with_more : List TableRows → List TableRows → List TableRows
with_more tables more = with_placed name_cmp name_of_rows tables more

-- tables in the order of their names, none of which two have
abbrev pub AreNamedApart : List TableRows → Type 0
AreNamedApart tables = IsTrue (rises name_cmp (map name_of_rows tables))

-- the tables that stay, still without their rows
abbrev pub staying : List (List ℕ) → List Table → List TableRows
staying gone tables = map (λ t. (t, [])) (filter (λ t. not (has same_name gone t.name)) tables)

-- their index rules
abbrev pub staying_rules : List (List ℕ) → List IndexRule → List IndexRule
staying_rules gone rules = filter (λ rule. not (has same_name gone rule.table)) rules

-- and their rows
abbrev pub staying_rows : List (List ℕ) → List NamedRows → List NamedRows
staying_rows gone rows = filter (λ r. not (has same_name gone r.0)) rows

-- the rows of the table of a name, or others that stand under that name
abbrev pub rows_over : List ℕ → List Entry → NamedRows → List Entry
rows_over name rows other = if same_name other.0 name then other.1 else rows

-- tables, each with the rows that stand under its name, if there are any
abbrev pub with_rows_of : List NamedRows → List TableRows → List TableRows
with_rows_of rows tables = map (λ (t : TableRows). (t.0, fold (rows_over t.0.name) t.1 rows)) tables

-- the tables after an exchange: new ones with their rows, and those that stay, still without theirs
abbrev pub tables_after : Catalog → List (List ℕ) → List TableRows → List TableRows
tables_after catalog gone new = with_more [] (new ++ staying gone catalog.tables)

-- an exchange that is built up: the number of schema changes after it, and what is drafted of it
pub record Prepared : Type 0 where
  pub number : ℕ
  pub drafted : Drafted

-- what an exchange makes of a catalog, in which tables leave with their index rules, and new ones come
pub record IsExchangeOf (catalog : Catalog) (gone : List (List ℕ)) (new : List TableRows) (exchange : Prepared) : Type 0 where
  pub number : exchange.number ≡ catalog.number + 1
  pub tables : exchange.drafted.tables ≡ tables_after catalog gone new
  pub indexes : exchange.drafted.indexes ≡ staying_rules gone catalog.indexes

-- an exchange was built up for the catalog of a database, and leaves it a database
pub record CanExchange (db : Database) (gone : List (List ℕ)) (exchange : Prepared) : Type 0 where
  pub new : List TableRows
  pub prepared : IsExchangeOf (catalog_of db) gone new exchange
  pub database : IsDatabase (exchanged db gone (map stored new))
  pub under_own_keys : All IsUnderOwnKeys new
