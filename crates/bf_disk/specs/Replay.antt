-- Which of the calls of a tape a crash cannot undo, and what stands in the place of a byte that is pending.
use Rattle.std.specs.Prelude.{◌≡◌, ℕ, ◌+◌, ◌%◌, ◌<◌, ◌≤◌, Bool, true, false, not, ◌&&◌, Option, None, Some, unwrap_or, List, length, take, map, slice_get}
use Rattle.bf_disk.specs.Tape.{file_after_all, certain_after_all}
use Rattle.bf_disk.specs.declared.call.Act.{Act}
use Rattle.bf_disk.specs.declared.call.Act.TheVariants.{Look, Write, Cut, Sync}
use Rattle.bf_disk.specs.declared.call.Call.{Call}

abbrev pub is_sync : Act → Bool
is_sync Look = false
is_sync (Write at bytes) = false
is_sync (Cut len) = false
is_sync Sync = true

-- whether the call is a sync that succeeded
abbrev pub is_synced : Call → Bool
is_synced call = is_sync call.act && not call.failed

-- Of the first n calls these k are all up to the last sync that succeeded: after them each byte is certain,
-- and no later one is such a sync.
pub record UpToLastSync (calls : List Call) (n k : ℕ) : Type 0 where
  pub within : k ≤ n
  pub certain : (start : List ℕ) → certain_after_all start (map Some start) (take k calls) ≡ map Some (file_after_all start (take k calls))
  pub none_later : (i : ℕ) (call : Call) → k ≤ i → i < n → slice_get calls i ≡ Some call → is_synced call ≡ false

-- what stands in the place of a byte behind so many pending ones
abbrev pub settled_byte : Option ℕ → List ℕ → ℕ → ℕ
settled_byte (Some byte) torn before = byte
settled_byte None torn before = unwrap_or (slice_get torn (before % length torn)) 0

-- how many pending ones there are with it
abbrev pub pending_after : Option ℕ → ℕ → ℕ
pending_after (Some byte) before = before
pending_after None before = before + 1
