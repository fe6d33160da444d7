-- What is read of a row is what its columns admit.
use Rattle.std.proofs.Common.{◌≡◌, ℕ, zero, suc, Bool, true, false, ◌==◌, if◌then◌else◌, List, [], ◌∷◌, length, zip, refl, arith}
use Rattle.std.specs.List.{list_all}
use Rattle.std.proofs.lemmas.Bool.{and_parts, false≢true}
use Rattle.std.proofs.lemmas.Bool.Decides.{nat_tests}
use Rattle.bf_base.specs.declared.value.Value.{Value}
use Rattle.bf_base.specs.declared.table.Column.{Column}
use Rattle.bf_base.specs.Tables.{fit_of, cell}
use Rattle.bf_sql.specs.Database.{is_fit}
use Rattle.bf_sql.specs.migrations.Within.{admitted_at, is_held, IsRowOf}

abbrev all_fit : List Column → List Value → Bool
all_fit columns row = list_all (λ p. is_fit (fit_of p.0.admits p.1)) (zip columns row)

held_at : (columns : List Column) (row : List Value) (place : ℕ) → length row ≡ length columns → all_fit columns row ≡ true → is_held (admitted_at columns place) (cell row place) ≡ true
held_at [] [] place long fit = refl
held_at [] (v ∷ row) place long fit = absurd (omega arith)
held_at (c ∷ columns) [] place long fit = absurd (omega arith)
held_at (c ∷ columns) (v ∷ row) zero long fit = (and_parts (is_held c.admits v) (all_fit columns row) fit).0
held_at (c ∷ columns) (v ∷ row) (suc place) long fit = held_at columns row place (omega arith) (and_parts (is_held c.admits v) (all_fit columns row) fit).1

pub row_held : (columns : List Column) (row : List Value) → IsRowOf columns row → (place : ℕ) → is_held (admitted_at columns place) (cell row place) ≡ true
row_held columns row is place = of (length row == length columns) refl is
  where
    of : (b : Bool) → (length row == length columns) ≡ b → (if b then all_fit columns row else false) ≡ true → is_held (admitted_at columns place) (cell row place) ≡ true
    of true long fit = held_at columns row place (grind (arith, nat_tests)) fit
    of false long fit = absurd (false≢true fit)
