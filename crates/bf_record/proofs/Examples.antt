-- Worked spellings.
use Rattle.std.proofs.Common.{◌≡◌, pos, [], ◌∷◌, refl}
use Rattle.bf_base.specs.declared.table.Admit.TheVariants as admits
use Rattle.bf_base.specs.declared.table.Column.{Column}
use Rattle.bf_base.specs.declared.table.Table.{Table}
use Rattle.bf_base.specs.declared.value.Value.TheVariants.{Int}
use Rattle.bf_wire.specs.Spellings.{word_spelling, int_spelling}
use Rattle.bf_record.specs.declared.change.Change.TheVariants.{Commit, Schema}
use Rattle.bf_record.specs.declared.schema.SchemaChange.TheVariants as schema
use Rattle.bf_record.specs.declared.writes.RowChange.TheVariants.{Put}
use Rattle.bf_record.specs.declared.writes.TableWrite.{TableWrite}
use Rattle.bf_record.specs.Changes.{record_bytes}

-- a column id INT
abbrev id : Column
id = record { name = 105 ∷ 100 ∷ []; admits = admits.Int }

-- a table t of that column, which is its key
abbrev t : Table
t = record { name = 116 ∷ []; columns = id ∷ []; key = 0 ∷ [] }

create_table : record_bytes (Schema (schema.Table t)) ≡ 2 ∷ 1 ∷ 1 ∷ 116 ∷ 1 ∷ 0 ∷ 0 ∷ 0 ∷ 2 ∷ 105 ∷ 100 ∷ 1 ∷ 1 ∷ 0 ∷ 0 ∷ 0 ∷ 0 ∷ []
unfolding word_spelling
create_table = refl

-- the row (3) of a table t
abbrev three : TableWrite
three = record { table = 116 ∷ []; change = Put (Int (pos 3) ∷ []) }

insert : record_bytes (Commit (three ∷ [])) ≡ 1 ∷ 1 ∷ 0 ∷ 0 ∷ 0 ∷ 1 ∷ 116 ∷ 1 ∷ 1 ∷ 0 ∷ 0 ∷ 0 ∷ 1 ∷ 3 ∷ 0 ∷ 0 ∷ 0 ∷ 0 ∷ 0 ∷ 0 ∷ 0 ∷ []
unfolding word_spelling int_spelling
insert = refl
