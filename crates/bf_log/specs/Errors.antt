-- What an error of the disk is to a log, and which errors are faults.
use Rattle.std.specs.Prelude.{◌≡◌, ℕ, ◌≤◌, Bool, true, false, Result, Ok, Err}
use Rattle.bf_io.specs.Causes.{Rose}
use Rattle.bf_disk.specs.declared.error.DiskError.{DiskError}
use Rattle.bf_disk.specs.declared.error.DiskError.TheVariants.{Fault, Memory}
use Rattle.bf_log.specs.declared.error.CreateError.{CreateError}
use Rattle.bf_log.specs.declared.error.CreateError.TheVariants.{NotEmpty, DiskFault as CreateFault, Memory as CreateMemory}
use Rattle.bf_log.specs.declared.error.OpenError.{OpenError}
use Rattle.bf_log.specs.declared.error.OpenError.TheVariants.{NotALog, DiskFault as OpenFault, Memory as OpenMemory}
use Rattle.bf_log.specs.declared.error.AppendError.{AppendError}
use Rattle.bf_log.specs.declared.error.AppendError.TheVariants.{Halted, TooLarge, LogFull, DiskFault as AppendFault, Memory as AppendMemory}

abbrev pub create_error : DiskError → CreateError
create_error Fault = CreateFault
create_error Memory = CreateMemory

abbrev pub open_error : DiskError → OpenError
open_error Fault = OpenFault
open_error Memory = OpenMemory

abbrev pub is_create_fault : CreateError → Bool
is_create_fault (NotEmpty len) = false
is_create_fault CreateFault = true
is_create_fault CreateMemory = false

abbrev pub is_open_fault : OpenError → Bool
is_open_fault (NotALog at) = false
is_open_fault OpenFault = true
is_open_fault OpenMemory = false

abbrev pub is_append_fault : AppendError → Bool
is_append_fault (Halted faults) = false
is_append_fault (TooLarge size) = false
is_append_fault (LogFull end need) = false
is_append_fault AppendFault = true
is_append_fault AppendMemory = false

abbrev pub RisesIf : Bool → ℕ → ℕ → Type 0
RisesIf true before now = Rose before now × (before ≤ now)
RisesIf false before now = now ≡ before

-- a disk's count of faults rises where the error is a fault, and stays at any other answer
abbrev pub CountsFaults : {T E : Type 0} → (E → Bool) → Result T E → ℕ → ℕ → Type 0
CountsFaults is_fault (Ok value) before now = now ≡ before
CountsFaults is_fault (Err error) before now = RisesIf (is_fault error) before now
