-- Rows sorted into the tables of their numbers.
use Rattle.std.specs.Prelude.{ℕ, ◌==◌, List, [], ◌∷◌, ◌++◌, fold, if◌then◌else◌, map}
use Rattle.std.specs.List.{enumerate_from}
use Rattle.bf_base.specs.declared.table.Table.{Table}
use Rattle.bf_base.specs.declared.value.Value.{Value}
use Rattle.bf_eager.specs.Flips.{Made}
use Rattle.bf_eager.specs.Gathering.{Numbered}

-- a table with its rows
abbrev pub Sorted : Type 0
Sorted = Table × List (List Value)

abbrev pub rows_made : List Made → List Sorted
rows_made made = map (λ (m : Made). (m.0, m.1.items)) made

abbrev pub table_alone : Table → Sorted
table_alone table = (table, [])

-- tables with a row of a number behind the others of the table of that number, if it is there
abbrev pub with_row : List Sorted → Numbered → List Sorted
with_row tables row = map (λ (t : ℕ × Sorted). (t.1.0, if t.0 == row.0 then t.1.1 ++ row.1 ∷ [] else t.1.1)) (enumerate_from 0 tables)

abbrev pub with_rows : List Sorted → List Numbered → List Sorted
with_rows tables rows = fold with_row tables rows
