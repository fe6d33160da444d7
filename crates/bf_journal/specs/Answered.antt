-- What the answer of an appending call says of the log, of the state that stands on it and of the next one.
use Rattle.std.specs.Prelude.{◌⊎◌, ℕ, List, Option, Result, Ok, Err}
use Rattle.bf_disk.specs.declared.disk.Disk.{Ghosts}
use Rattle.bf_log.specs.declared.error.AppendError.{AppendError}
use Rattle.bf_log.specs.declared.error.AppendError.TheVariants.{Halted, TooLarge, LogFull, DiskFault, Memory}
use Rattle.bf_log.specs.declared.log.Log.{Log}
use Rattle.bf_journal.specs.Leaving.{Fails, Stores, StoresNothing}
use Rattle.bf_journal.specs.States.{StandsOn}

module _ {L : Type 0} (first : L) (Steps : L → List ℕ → L → Type 0) {D : Type 0} {g : Ghosts D} where
  -- What an appending call has left that answered an error: after a fault of the device either state may be left, and
  -- the other errors store nothing, but that want of memory may have come out of the device too.
  abbrev pub IsLeftBy : L → L → Log D g → Log D g → AppendError → Type 0
  IsLeftBy state next old new DiskFault = Fails first Steps state next old new
  IsLeftBy state next old new Memory = StoresNothing first Steps old new ⊎ Fails first Steps state next old new
  IsLeftBy state next old new (Halted faults) = StoresNothing first Steps old new
  IsLeftBy state next old new (TooLarge size) = StoresNothing first Steps old new
  IsLeftBy state next old new (LogFull end need) = StoresNothing first Steps old new

  -- After Ok the change is stored, and the next state stands on the log; after an error the state stands there still.
  abbrev pub IsAnsweredBy : L → L → Log D g → Log D g → Result ℕ AppendError → Type 0
  IsAnsweredBy state next old new (Ok number) = Stores first Steps state next old new × StandsOn first Steps next new
  IsAnsweredBy state next old new (Err error) = IsLeftBy state next old new error × StandsOn first Steps state new
