-- A shelf on which a file was put.
use Rattle.std.proofs.Common.{◌≡◌, ℕ, List, Option, None, Result, Ok, Err, OnOk, IfErr, sym, subst, ap, ◌∙◌}
use Rattle.bf_disk.specs.MemoryShelves.{Places, taken_at}
use Rattle.bf_disk.specs.Tape.{Tape}

-- no disk is taken then that was not taken before
pub untaken_with : {T E : Type 0} (result : Result T (Tape × E)) (disk : Tape) (old new : Places) → OnOk result (taken_at new ≡ taken_at old) → IfErr result (λ back. (back.0 ≡ disk) × (new ≡ old))
    → ((path : List ℕ) → taken_at old path ≡ None) → (path : List ℕ) → taken_at new path ≡ None
untaken_with (Ok done) disk old new same back untaken path = ap (λ (table : List ℕ → Option ℕ). table path) same ∙ untaken path
untaken_with (Err given) disk old new same back untaken path = subst (λ (shelf : Places). taken_at shelf path ≡ None) (sym back.1) (untaken path)
