-- How what the log records is spelled as bytes, and what has a spelling.
use Rattle.std.specs.Prelude.{ℕ, List, ◌∷◌, ◌++◌}
use Rattle.bf_base.specs.declared.granule.Place.{Place}
use Rattle.bf_base.specs.declared.granule.Place.TheVariants as place
use Rattle.bf_record.specs.declared.change.Change.{Change}
use Rattle.bf_record.specs.declared.change.Change.TheVariants.{Commit, Schema, Flip, Move}
use Rattle.bf_record.specs.declared.writes.RowChange.{RowChange}
use Rattle.bf_record.specs.declared.writes.RowChange.TheVariants.{Removed, Put}
use Rattle.bf_record.specs.declared.writes.TableWrite.{TableWrite}
use Rattle.bf_wire.specs.Spellings.{IsByte, byte_spelling, IsWord, word_spelling, IsName, name_spelling, AreValues, values_spelling, IsListed, list_spelling}
use Rattle.bf_record.specs.Migrations.{IsMigrate, migrate_spelling}
use Rattle.bf_record.specs.Schema.{IsSchemaChange, schema_spelling}

abbrev pub IsPlace : Place → Type 0
IsPlace (place.Row position) = IsWord position
IsPlace (place.Group value) = AreValues value

abbrev pub place_spelling : Place → List ℕ
place_spelling (place.Row position) = 1 ∷ word_spelling position
place_spelling (place.Group value) = 2 ∷ values_spelling value

abbrev pub IsRowChange : RowChange → Type 0
IsRowChange (Removed key) = AreValues key
IsRowChange (Put row) = AreValues row

abbrev pub row_change_spelling : RowChange → List ℕ
row_change_spelling (Removed key) = 0 ∷ values_spelling key
row_change_spelling (Put row) = 1 ∷ values_spelling row

abbrev pub IsWrite : TableWrite → Type 0
IsWrite w = IsName w.table × IsRowChange w.change

abbrev pub write_spelling : TableWrite → List ℕ
write_spelling w = name_spelling w.table ++ row_change_spelling w.change

-- a change that the types of the code hold, whose lists are shorter than 2 ^ 32 and whose expressions and conditions have few nodes
abbrev pub HasRecord : Change → Type 0
HasRecord (Commit writes) = IsListed IsWrite writes
HasRecord (Schema change) = IsSchemaChange change
HasRecord (Flip migrate) = IsMigrate migrate
HasRecord (Move migration unit places) = IsWord migration × IsByte unit × IsListed IsPlace places

abbrev pub record_bytes : Change → List ℕ
record_bytes (Commit writes) = 1 ∷ list_spelling write_spelling writes
record_bytes (Schema change) = 2 ∷ schema_spelling change
record_bytes (Flip migrate) = 3 ∷ migrate_spelling migrate
record_bytes (Move migration unit places) = 4 ∷ word_spelling migration ++ byte_spelling unit ++ list_spelling place_spelling places
