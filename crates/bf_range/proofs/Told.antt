-- What the analysis tells of an expression holds on each row of the columns.
use Rattle.std.proofs.Common.{◌≡◌, ℕ, ℤ, Bool, true, false, not, List, Option, Some, None, Result, Ok, Err, IfSome, IsOk, IsOkAnd, refl, sym, subst, ◌∙◌}
use Rattle.std.proofs.lemmas.Bool.{false≢true}
use Rattle.bf_base.specs.declared.value.Value.{Value}
use Rattle.bf_base.specs.declared.table.Column.{Column}
use Rattle.bf_base.specs.Tables.{cell}
use Rattle.bf_tree.specs.declared.evaluation.Fail.{Fail}
use Rattle.bf_tree.specs.Trees.{Expr}
use Rattle.bf_tree.specs.Evaluation.{value_of}
use Rattle.bf_sql.specs.migrations.Extents.{Extent, numbers, texts, beyond, extent_of, may_fail}
use Rattle.bf_range.specs.Seen.{ends_of, most_bytes_of}
use Rattle.bf_sql.specs.migrations.Within.{admitted_at, IsRowOf, IsWithin}
use Rattle.bf_sql.proofs.extents.Rows.{row_held}
use Rattle.bf_sql.proofs.extents.Within.{value_within}

answered : (e : Extent) (r : Result Value Fail) → IsOkAnd r (IsWithin e) → IsOk r
answered e (Ok v) h = refl
answered e (Err f) h = absurd h

by_ends : (e : Extent) (r : Result Value Fail) (ends : ℤ × ℤ) → Some ends ≡ ends_of e → (may_fail e ≡ false → IsOkAnd r (IsWithin e)) → IsOkAnd r (IsWithin (numbers ends.0 ends.1))
by_ends (numbers a b) r ends at h =
    let same : (a, b) ≡ ends = cc in
    subst (λ (p : ℤ × ℤ). IsOkAnd r (IsWithin (numbers p.0 p.1))) same (h refl)
by_ends (texts m) r ends at h = cc
by_ends beyond r ends at h = cc

by_most : (e : Extent) (r : Result Value Fail) (most : ℕ) → Some most ≡ most_bytes_of e → (may_fail e ≡ false → IsOkAnd r (IsWithin e)) → IsOkAnd r (IsWithin (texts most))
by_most (numbers a b) r most at h = cc
by_most (texts m) r most at h =
    let same : m ≡ most = cc in
    subst (λ (k : ℕ). IsOkAnd r (IsWithin (texts k))) same (h refl)
by_most beyond r most at h = cc

module _ (columns : List Column) (e : Expr ℕ) where
  abbrev extent : Extent
  extent = extent_of (admitted_at columns) e

  row_within : (row : List Value) → IsRowOf columns row → may_fail extent ≡ false → IsOkAnd (value_of (cell row) e) (IsWithin extent)
  row_within row is safe = value_within (admitted_at columns) (cell row) (row_held columns row is) e safe

  pub within_ends : (ends : Option (ℤ × ℤ)) → ends ≡ ends_of extent
      → IfSome ends (λ ends. (row : List Value) → IsRowOf columns row → IsOkAnd (value_of (cell row) e) (IsWithin (numbers ends.0 ends.1)))
  within_ends None at = tt
  within_ends (Some ends) at = λ row is. by_ends extent (value_of (cell row) e) ends at (row_within row is)

  pub within_most : (most : Option ℕ) → most ≡ most_bytes_of extent
      → IfSome most (λ most. (row : List Value) → IsRowOf columns row → IsOkAnd (value_of (cell row) e) (IsWithin (texts most)))
  within_most None at = tt
  within_most (Some most) at = λ row is. by_most extent (value_of (cell row) e) most at (row_within row is)

  pub never_fails : (safe : Bool) → safe ≡ not (may_fail extent) → safe ≡ true → (row : List Value) → IsRowOf columns row → IsOk (value_of (cell row) e)
  never_fails safe at sure row is =
      let certain : may_fail extent ≡ false = of (may_fail extent) (sym at ∙ sure) in
      answered extent (value_of (cell row) e) (row_within row is certain)
    where
      of : (b : Bool) → not b ≡ true → b ≡ false
      of false e = refl
      of true e = absurd (false≢true e)
