-- What a shelf counts of the faults of a disk that it lent.
use Rattle.std.proofs.Common.{◌≡◌, ℕ, ◌+◌, ◌≤◌, min, Option, Some, None, unwrap_or, refl, arith}
use Rattle.std.specs.Prelude.{IsSome}
use Rattle.std.proofs.lemmas.Bool.{false≢true}
use Rattle.std.proofs.lemmas.Bool.Decides.{nat_tests}
use Rattle.bf_io.specs.Causes.{Rose, last_count}
use Rattle.bf_disk.specs.Shelves.{rises_since, with_rises}

pub rises_of : (count : ℕ) (lent : Option ℕ) (now : ℕ) → IsSome lent → with_rises count lent now ≡ min (count + rises_since (unwrap_or lent 0) now) last_count
rises_of count (Some lent) now is = refl
rises_of count None now is = absurd (false≢true is)

pub rises_are_told : (count lent before now : ℕ) → lent ≤ before → Rose before now → Rose count (with_rises count (Some lent) now)
rises_are_told count lent before now le rose = grind (arith, nat_tests)

pub never_falls : (count now : ℕ) (lent : Option ℕ) → count ≤ last_count → count ≤ with_rises count lent now
never_falls count now None le = omega arith
never_falls count now (Some lent) le = grind (arith, nat_tests)
