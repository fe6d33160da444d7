-- How far an expression's value can go, whatever admitted row it is computed on.
use Rattle.std.specs.Prelude.{ℕ, ◌+◌, max, ℤ, pos, ◌+ℤ◌, ◌-ℤ◌, ◌*ℤ◌, neg_ℤ, Bool, true, false, ◌&&◌, length, nat_le, if◌then◌else◌}
use Rattle.std.specs.Int.{int_min, int_max}
use Rattle.bf_base.specs.declared.value.Value.TheVariants.{Int, Text}
use Rattle.bf_base.specs.declared.table.Admit.{Admit}
use Rattle.bf_base.specs.declared.table.Admit.TheVariants as admits
use Rattle.bf_base.specs.Limits.{longest_text, most_rows, is_int, least_int, greatest_int}
use Rattle.bf_tree.specs.Trees.{Expr, literal, column, negated, plus, minus, times, joined}
use Rattle.bf_tree.specs.declared.items.Aggregate.{Aggregate}
use Rattle.bf_tree.specs.declared.items.Aggregate.TheVariants.{Count, Sum, Min, Max}

-- numbers between two ends, texts of at most so many bytes, or more than a value can be; what an operation makes of the wrong kind
-- counts as that too
pub data Extent : Type 0 where
  numbers : ℤ → ℤ → Extent
  texts : ℕ → Extent
  beyond : Extent

abbrev pub extent_between : ℤ → ℤ → Extent
extent_between low high = if is_int low && is_int high then numbers low high else beyond

abbrev pub extent_of_admit : Admit → Extent
extent_of_admit admits.Int = numbers least_int greatest_int
extent_of_admit (admits.Checked low high) = numbers low high
extent_of_admit (admits.Varchar most) = texts most

abbrev pub extent_negated : Extent → Extent
extent_negated (numbers low high) = extent_between (neg_ℤ high) (neg_ℤ low)
extent_negated e = beyond

abbrev pub extent_plus : Extent → Extent → Extent
extent_plus (numbers a b) (numbers c d) = extent_between (a +ℤ c) (b +ℤ d)
extent_plus e f = beyond

abbrev pub extent_minus : Extent → Extent → Extent
extent_minus (numbers a b) (numbers c d) = extent_between (a -ℤ d) (b -ℤ c)
extent_minus e f = beyond

abbrev pub least_of : ℤ → ℤ → ℤ → ℤ → ℤ
least_of a b c d = int_min (int_min a b) (int_min c d)

abbrev pub greatest_of : ℤ → ℤ → ℤ → ℤ → ℤ
greatest_of a b c d = int_max (int_max a b) (int_max c d)

abbrev pub extent_times : Extent → Extent → Extent
extent_times (numbers a b) (numbers c d) =
    extent_between (least_of (a *ℤ c) (a *ℤ d) (b *ℤ c) (b *ℤ d)) (greatest_of (a *ℤ c) (a *ℤ d) (b *ℤ c) (b *ℤ d))
extent_times e f = beyond

abbrev pub extent_up_to : ℕ → Extent
extent_up_to most = if nat_le most longest_text then texts most else beyond

abbrev pub extent_joined : Extent → Extent → Extent
extent_joined (texts m) (texts n) = extent_up_to (m + n)
extent_joined e f = beyond

abbrev pub extent_summed : Extent → Extent
extent_summed (numbers low high) = extent_between (pos most_rows *ℤ low) (pos most_rows *ℤ high)
extent_summed e = beyond

-- `admitted` tells what a column admits
module _ {R : Type 0} (admitted : R → Admit) where
  abbrev pub extent_of : Expr R → Extent
  extent_of (literal (Int n)) = extent_between n n
  extent_of (literal (Text t)) = extent_up_to (length t)
  extent_of (column r) = extent_of_admit (admitted r)
  extent_of (negated a) = extent_negated (extent_of a)
  extent_of (plus a b) = extent_plus (extent_of a) (extent_of b)
  extent_of (minus a b) = extent_minus (extent_of a) (extent_of b)
  extent_of (times a b) = extent_times (extent_of a) (extent_of b)
  extent_of (joined a b) = extent_joined (extent_of a) (extent_of b)

  -- COUNT can't fail; SUM may fail where 2^20 times an end is no INT: the extent is that of exactly so many rows, by which alone a sum
  -- is judged
  abbrev pub extent_of_total : Aggregate (Expr R) → Extent
  extent_of_total Count = numbers (pos 0) (pos most_rows)
  extent_of_total (Sum e) = extent_summed (extent_of e)
  extent_of_total (Min e) = extent_of e
  extent_of_total (Max e) = extent_of e

abbrev pub may_fail : Extent → Bool
may_fail (numbers low high) = false
may_fail (texts most) = false
may_fail beyond = true

-- the column that such values stand in: INT without a check, or a VARCHAR of at least 1
abbrev pub admit_of_extent : Extent → Admit
admit_of_extent (numbers low high) = admits.Int
admit_of_extent (texts most) = admits.Varchar (max 1 most)
admit_of_extent beyond = admits.Int
