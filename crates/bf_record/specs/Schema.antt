-- How tables and index rules are spelled as bytes, and which have a spelling.
use Rattle.std.specs.Prelude.{ℕ, List, [], ◌∷◌, ◌++◌}
use Rattle.bf_base.specs.declared.table.Admit.{Admit}
use Rattle.bf_base.specs.declared.table.Admit.TheVariants as admits
use Rattle.bf_base.specs.declared.table.Column.{Column}
use Rattle.bf_base.specs.declared.table.Table.{Table}
use Rattle.bf_tree.specs.declared.catalog.IndexRule.{IndexRule}
use Rattle.bf_record.specs.declared.schema.SchemaChange.{SchemaChange}
use Rattle.bf_record.specs.declared.schema.SchemaChange.TheVariants as schema
use Rattle.bf_wire.specs.Spellings.{IsByte, byte_spelling, IsInt, int_spelling, IsName, name_spelling, IsListed, list_spelling}

abbrev pub IsAdmit : Admit → Type 0
IsAdmit admits.Int = Unit {0}
IsAdmit (admits.Checked low high) = IsInt low × IsInt high
IsAdmit (admits.Varchar most) = IsByte most

abbrev pub admit_spelling : Admit → List ℕ
admit_spelling admits.Int = 1 ∷ []
admit_spelling (admits.Checked low high) = 2 ∷ int_spelling low ++ int_spelling high
admit_spelling (admits.Varchar most) = 3 ∷ byte_spelling most

abbrev pub IsColumn : Column → Type 0
IsColumn c = IsName c.name × IsAdmit c.admits

abbrev pub column_spelling : Column → List ℕ
column_spelling c = name_spelling c.name ++ admit_spelling c.admits

abbrev pub AreColumns : List Column → Type 0
AreColumns columns = IsListed IsColumn columns

abbrev pub columns_spelling : List Column → List ℕ
columns_spelling columns = list_spelling column_spelling columns

-- the places of columns, counted from 0
abbrev pub ArePlacesOfColumns : List ℕ → Type 0
ArePlacesOfColumns places = IsListed IsByte places

abbrev pub places_spelling : List ℕ → List ℕ
places_spelling places = list_spelling byte_spelling places

pub record IsTable (t : Table) : Type 0 where
  pub name : IsName t.name
  pub columns : AreColumns t.columns
  pub key : ArePlacesOfColumns t.key

abbrev pub table_spelling : Table → List ℕ
table_spelling t = name_spelling t.name ++ columns_spelling t.columns ++ places_spelling t.key

pub record IsIndex (i : IndexRule) : Type 0 where
  pub name : IsName i.name
  pub table : IsName i.table
  pub columns : ArePlacesOfColumns i.columns

abbrev pub index_spelling : IndexRule → List ℕ
index_spelling i = name_spelling i.name ++ name_spelling i.table ++ places_spelling i.columns

abbrev pub IsSchemaChange : SchemaChange → Type 0
IsSchemaChange (schema.Table t) = IsTable t
IsSchemaChange (schema.Index i) = IsIndex i

abbrev pub schema_spelling : SchemaChange → List ℕ
schema_spelling (schema.Table t) = 1 ∷ table_spelling t
schema_spelling (schema.Index i) = 2 ∷ index_spelling i
