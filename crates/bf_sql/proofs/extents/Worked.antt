-- Worked extents.
use Rattle.std.proofs.Common.{◌≡◌, ℕ, pos, neg_ℤ, true, false, List, [], ◌∷◌, codes, Err, refl}
use Rattle.bf_base.specs.declared.value.Value.{Value}
use Rattle.bf_base.specs.declared.value.Value.TheVariants.{Int, Text}
use Rattle.bf_base.specs.declared.table.Admit.{Admit}
use Rattle.bf_base.specs.declared.table.Admit.TheVariants as admits
use Rattle.bf_base.specs.declared.table.Column.{Column}
use Rattle.bf_base.specs.Tables.{cell}
use Rattle.bf_base.specs.Limits.{least_int, greatest_int}
use Rattle.bf_tree.specs.declared.evaluation.Fail.TheVariants.{OutOfRange}
use Rattle.bf_tree.specs.declared.items.Aggregate.TheVariants.{Count, Sum, Min, Max}
use Rattle.bf_tree.specs.Trees.{Expr, literal, column, negated, plus, minus, times, joined}
use Rattle.bf_tree.specs.Evaluation.{value_of}
use Rattle.bf_tree.specs.Totals.{total_of}
use Rattle.bf_sql.specs.migrations.Extents.{numbers, texts, beyond, extent_of, extent_of_total}
use Rattle.bf_sql.specs.migrations.Within.{admitted_at, cell_within, span_of_total, IsRowOf}

abbrev column_of : List ℕ → Admit → Column
column_of name admit = record { name = name; admits = admit }

-- n INT, a INT CHECK (a BETWEEN 0 AND 10), b INT CHECK (b BETWEEN -3 AND 4), t VARCHAR(200), u VARCHAR(55), v VARCHAR(56),
-- c INT CHECK (c BETWEEN 0 AND 8796093022207), d INT CHECK (d BETWEEN 0 AND 8796093022208), e INT CHECK (e BETWEEN 5 AND 7)
abbrev columns : List Column
columns =
    column_of (codes "n") admits.Int
    ∷ column_of (codes "a") (admits.Checked (pos 0) (pos 10))
    ∷ column_of (codes "b") (admits.Checked (neg_ℤ (pos 3)) (pos 4))
    ∷ column_of (codes "t") (admits.Varchar 200)
    ∷ column_of (codes "u") (admits.Varchar 55)
    ∷ column_of (codes "v") (admits.Varchar 56)
    ∷ column_of (codes "c") (admits.Checked (pos 0) (pos 8796093022207))
    ∷ column_of (codes "d") (admits.Checked (pos 0) (pos 8796093022208))
    ∷ column_of (codes "e") (admits.Checked (pos 5) (pos 7))
    ∷ []

abbrev admitted : ℕ → Admit
admitted = admitted_at columns

abbrev n : Expr ℕ
n = column 0

abbrev a : Expr ℕ
a = column 1

abbrev b : Expr ℕ
b = column 2

abbrev one : Expr ℕ
one = literal (Int (pos 1))

-- n + 0 is each INT, n + 1 leaves them at the greatest, n - 1 at the least, and -n too
unchanged : extent_of admitted (plus n (literal (Int (pos 0)))) ≡ numbers least_int greatest_int
unchanged = refl

above : extent_of admitted (plus n one) ≡ beyond
above = refl

under : extent_of admitted (minus n one) ≡ beyond
under = refl

opposite : extent_of admitted (negated n) ≡ beyond
opposite = refl

-- and so they do on such rows
fails_above : value_of (cell (Int greatest_int ∷ [])) (plus n one) ≡ Err OutOfRange
fails_above = refl

fails_opposite : value_of (cell (Int least_int ∷ [])) (negated n) ≡ Err OutOfRange
fails_opposite = refl

-- a node is judged by the ends of its parts alone: n - n, which is 0 on each row, counts as beyond
itself : extent_of admitted (minus n n) ≡ beyond
itself = refl

-- the checks' ends: a + b from -3 to 14, a - b from -4 to 13, -a from -10 to 0
sum : extent_of admitted (plus a b) ≡ numbers (neg_ℤ (pos 3)) (pos 14)
sum = refl

difference : extent_of admitted (minus a b) ≡ numbers (neg_ℤ (pos 4)) (pos 13)
difference = refl

negation : extent_of admitted (negated a) ≡ numbers (neg_ℤ (pos 10)) (pos 0)
negation = refl

-- a * b is least at 10 * -3 and greatest at 10 * 4; b * b is least at -3 * 4 and greatest at 4 * 4
product : extent_of admitted (times a b) ≡ numbers (neg_ℤ (pos 30)) (pos 40)
product = refl

square : extent_of admitted (times b b) ≡ numbers (neg_ℤ (pos 12)) (pos 16)
square = refl

-- the products of negative ends are greatest
crossed : extent_of admitted (times (negated a) (negated a)) ≡ numbers (pos 0) (pos 100)
crossed = refl

-- an inner node that leaves the INTs is not mended by an outer one
inner : extent_of admitted (times (plus n one) (literal (Int (pos 0)))) ≡ beyond
inner = refl

-- a text of 255 bytes, and one of 256
full : extent_of admitted (joined (column 3) (column 4)) ≡ texts 255
full = refl

overfull : extent_of admitted (joined (column 3) (column 5)) ≡ beyond
overfull = refl

with_literal : extent_of admitted (joined (column 4) (literal (Text (codes "abc")))) ≡ texts 58
with_literal = refl

-- what no binding lets come: an operation on a text, and a concatenation of numbers
of_text : extent_of admitted (plus a (column 3)) ≡ beyond
of_text = refl

of_numbers : extent_of admitted (joined a a) ≡ beyond
of_numbers = refl

-- 2^20 times 8796093022207 is an INT, and 2^20 times one more is none
fitting_sum : extent_of_total admitted (Sum (column 6)) ≡ numbers (pos 0) (pos 9223372036853727232)
fitting_sum = refl

exceeding_sum : extent_of_total admitted (Sum (column 7)) ≡ beyond
exceeding_sum = refl

count : extent_of_total admitted Count ≡ numbers (pos 0) (pos 1048576)
count = refl

least : extent_of_total admitted (Min b) ≡ numbers (neg_ℤ (pos 3)) (pos 4)
least = refl

greatest : extent_of_total admitted (Max (plus n one)) ≡ beyond
greatest = refl

-- SUM(e) of one row is 5 at least, and its extent, of the most rows, begins further on: its span holds both
sum_of_most : extent_of_total admitted (Sum (column 8)) ≡ numbers (pos 5242880) (pos 7340032)
sum_of_most = refl

sum_of_any : span_of_total admitted (Sum (column 8)) ≡ numbers (pos 5) (pos 7340032)
sum_of_any = refl

abbrev row : List Value
row = Int (pos 0) ∷ Int (pos 0) ∷ Int (pos 0) ∷ Text [] ∷ Text [] ∷ Text [] ∷ Int (pos 0) ∷ Int (pos 0) ∷ Int (pos 6) ∷ []

is_row : IsRowOf columns row
is_row = refl

of_one_row : cell_within (span_of_total admitted (Sum (column 8))) (total_of cell (row ∷ []) (Sum (column 8))) ≡ true
of_one_row = refl

not_of_the_most : cell_within (extent_of_total admitted (Sum (column 8))) (total_of cell (row ∷ []) (Sum (column 8))) ≡ false
not_of_the_most = refl
