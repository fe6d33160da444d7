-- The tables and the index rules of a catalog by their names, and the catalog with one more.
use Rattle.std.specs.Prelude.{ℕ, ◌+◌, List, [], find, map, Option, IsTrue}
use Rattle.bf_base.specs.declared.table.Table.{Table}
use Rattle.bf_base.specs.Lists.{name_cmp, placed, rises, same_name}
use Rattle.bf_tree.specs.Catalogs.{Catalog}
use Rattle.bf_tree.specs.declared.catalog.IndexRule.{IndexRule}

-- tables in the order of their names, each once
abbrev pub AreByName : List Table → Type 0
AreByName tables = IsTrue (rises name_cmp (map (λ table. table.name) tables))

-- index rules in the order of their names, each once
abbrev pub AreIndexesByName : List IndexRule → Type 0
AreIndexesByName indexes = IsTrue (rises name_cmp (map (λ index. index.name) indexes))

-- the table of a name
abbrev pub table_named : Catalog → List ℕ → Option Table
table_named catalog name = find (λ table. same_name table.name name) catalog.tables

-- the index rule of a name
abbrev pub index_named : Catalog → List ℕ → Option IndexRule
index_named catalog name = find (λ index. same_name name index.name) catalog.indexes

abbrev pub empty_catalog : Catalog
empty_catalog = record { number = 0; tables = []; indexes = [] }

-- the catalog after a schema change: a new table or a new index rule, in the order of the names
abbrev pub with_new_table : Table → Catalog → Catalog
with_new_table table catalog = record catalog { number = catalog.number + 1; tables = placed name_cmp (λ t. t.name) catalog.tables table }

abbrev pub with_new_index : IndexRule → Catalog → Catalog
with_new_index index catalog = record catalog { number = catalog.number + 1; indexes = placed name_cmp (λ i. i.name) catalog.indexes index }
