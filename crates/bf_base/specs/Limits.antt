-- The limits of the language on what stands in texts and tables.
use Rattle.std.specs.Prelude.{ℕ, ℤ, pos, neg_ℤ, ◌-ℤ◌, ◌^◌, Bool, ◌&&◌, int_le}

-- the most bytes of a text value
abbrev pub longest_text : ℕ
longest_text = 255

-- the most bytes of a name
abbrev pub longest_name : ℕ
longest_name = 63

-- the most bytes of a script
abbrev pub longest_script : ℕ
longest_script = 2 ^ 24

-- the most columns of a table
abbrev pub most_columns : ℕ
most_columns = 16

-- the most rows of a table that a MIGRATE reads
abbrev pub most_rows : ℕ
most_rows = 2 ^ 20

-- the most tables of a MIGRATE whose rows move one by one
abbrev pub most_drivers : ℕ
most_drivers = 4

-- the end of the INTs: they go from its negative to the number below it
abbrev pub int_end : ℕ
int_end = 2 ^ 63

-- what an INT can be
abbrev pub least_int : ℤ
least_int = neg_ℤ (pos int_end)

abbrev pub greatest_int : ℤ
greatest_int = pos int_end -ℤ pos 1

abbrev pub is_int : ℤ → Bool
is_int n = int_le least_int n && int_le n greatest_int
