-- When a value lies within an extent.
use Rattle.std.specs.Prelude.{ℕ, Bool, true, false, ◌&&◌, List, length, map, int_le, nat_le, slice_index_or, IsTrue}
use Rattle.std.specs.Int.{int_min, int_max}
use Rattle.bf_base.specs.declared.value.Value.{Value}
use Rattle.bf_base.specs.declared.value.Value.TheVariants.{Int, Text}
use Rattle.bf_base.specs.declared.table.Admit.{Admit}
use Rattle.bf_base.specs.declared.table.Admit.TheVariants as admits
use Rattle.bf_base.specs.declared.table.Column.{Column}
use Rattle.bf_base.specs.Tables.{fit_of}
use Rattle.bf_tree.specs.Trees.{Expr}
use Rattle.bf_tree.specs.declared.items.Aggregate.{Aggregate}
use Rattle.bf_tree.specs.declared.items.Aggregate.TheVariants.{Count, Sum, Min, Max}
use Rattle.bf_tree.specs.declared.reply.Cell.{Cell}
use Rattle.bf_tree.specs.declared.reply.Cell.TheVariants as cells
use Rattle.bf_sql.specs.Database.{is_fit, is_admitted, no_table}
use Rattle.bf_sql.specs.migrations.Extents.{Extent, numbers, texts, beyond, extent_of, extent_of_total}

-- a number from the least to the greatest, or a text of at most so many bytes; of what is beyond nothing is said
abbrev pub is_within : Extent → Value → Bool
is_within (numbers low high) (Int n) = int_le low n && int_le n high
is_within (numbers low high) (Text t) = false
is_within (texts most) (Int n) = false
is_within (texts most) (Text t) = nat_le (length t) most
is_within beyond v = true

abbrev pub IsWithin : Extent → Value → Type 0
IsWithin e v = IsTrue (is_within e v)

-- a total is NULL or a value within an extent
abbrev pub cell_within : Extent → Cell → Bool
cell_within e cells.Null = true
cell_within e (cells.Value v) = is_within e v

-- a value that a column admits
abbrev pub is_held : Admit → Value → Bool
is_held admit v = is_fit (fit_of admit v)

abbrev pub IsHeld : Admit → Value → Type 0
IsHeld admit v = IsTrue (is_held admit v)

-- what the column at a place admits; a place without a column counts as INT, as its value in a row counts as 0
abbrev pub admitted_at : List Column → ℕ → Admit
admitted_at columns place = slice_index_or (map (λ c. c.admits) columns) place admits.Int

-- a row has a value for each column, which its column admits
abbrev pub IsRowOf : List Column → List Value → Type 0
IsRowOf columns row = IsTrue (is_admitted (record no_table { columns = columns }) row)

-- from the lesser of two least numbers to the greater of two greatest
abbrev pub spanned : Extent → Extent → Extent
spanned (numbers a b) (numbers c d) = numbers (int_min a c) (int_max b d)
spanned e f = beyond

-- how far a total goes over any number of rows up to the most. The extent of a SUM has the ends of sums of exactly the most
-- rows, and fewer rows may sum to less than its least or more than its greatest: so its span takes in the values of one row
abbrev pub span_of_total : {R : Type 0} → (R → Admit) → Aggregate (Expr R) → Extent
span_of_total admitted Count = extent_of_total admitted Count
span_of_total admitted (Sum e) = spanned (extent_of admitted e) (extent_of_total admitted (Sum e))
span_of_total admitted (Min e) = extent_of admitted e
span_of_total admitted (Max e) = extent_of admitted e
