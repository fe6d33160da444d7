-- Rows that are set aside: taken out of their tables, which stay without rows until they are put back.
use Rattle.std.specs.Prelude.{◌≡◌, ℕ, List, [], ◌∷◌, map, IsTrue, false, if◌then◌else◌}
use Rattle.bf_base.specs.declared.value.Value.{Value}
use Rattle.bf_base.specs.Lists.{has, same_name}
use Rattle.bf_sql.specs.Database.{Database, IsDatabase, Stored, table_rows, with_rows}
use Rattle.bf_live.specs.Live.{exchanged}

-- the database without the rows of the tables of some names
abbrev pub set_aside : List (List ℕ) → Database → Database
set_aside names db = record db { tables = map (λ (s : Stored). if has same_name names s.table.name then record s { rows = [] } else s) db.tables }

-- rows that are taken out and put back leave the database as it was
abbrev pub RowsComeBack : Type 0
RowsComeBack = (db : Database) (name : List ℕ) → IsDatabase db → with_rows (with_rows db name []) name (table_rows db name) ≡ db

-- where rows are set aside they are set aside of one table more
abbrev pub OneMoreIsTaken : Type 0
OneMoreIsTaken = (db : Database) (names : List (List ℕ)) (name : List ℕ) → with_rows (set_aside names db) name [] ≡ set_aside (name ∷ names) db

-- or of one fewer, in whatever order
abbrev pub OneMoreIsBack : Type 0
OneMoreIsBack = (db : Database) (names : List (List ℕ)) (name : List ℕ) → IsDatabase db → has same_name names name ≡ false
    → with_rows (set_aside (name ∷ names) db) name (table_rows db name) ≡ set_aside names db

-- an exchange does not read the rows of tables that leave
abbrev pub RowsLeaveUnread : Type 0
RowsLeaveUnread = (db : Database) (name : List ℕ) (rows : List (List Value)) (gone : List (List ℕ)) (new : List Stored) → IsTrue (has same_name gone name)
    → exchanged (with_rows db name rows) gone new ≡ exchanged db gone new
