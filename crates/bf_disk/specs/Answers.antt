-- What an answer of a disk says of its count of faults and of its images.
use Rattle.std.specs.Prelude.{◌≡◌, ℕ, ◌≤◌, Result, Ok, Err, ⊤}
use Rattle.bf_io.specs.Causes.{Rose}
use Rattle.bf_disk.specs.declared.error.DiskError.{DiskError}
use Rattle.bf_disk.specs.declared.error.DiskError.TheVariants.{Fault, Memory}

-- the count of faults rises where the answer is `Fault`, and stays at any other answer
abbrev pub CountsFault : {T : Type 0} → Result T DiskError → ℕ → ℕ → Type 0
CountsFault (Ok value) before now = now ≡ before
CountsFault (Err Fault) before now = Rose before now × (before ≤ now)
CountsFault (Err Memory) before now = now ≡ before

-- what holds where the call reached the file, well or not
abbrev pub IfTried : {T : Type 0} → Result T DiskError → Type 0 → Type 0
IfTried (Ok value) P = P
IfTried (Err Fault) P = P
IfTried (Err Memory) P = ⊤

-- what holds where the call failed at the file
abbrev pub OnFault : {T : Type 0} → Result T DiskError → Type 0 → Type 0
OnFault (Ok value) P = ⊤
OnFault (Err Fault) P = P
OnFault (Err Memory) P = ⊤
