-- Counts of faults and of calls.
use Rattle.std.specs.Prelude.{ℕ, ◌+◌, ◌-◌, ◌^◌, ◌≤◌, min, Bool, List, ◌==◌}
use Rattle.std.specs.List.{list_any}

-- the last value of a count
abbrev pub last_count : ℕ
last_count = 2 ^ 64 - 1

-- a count that is one higher, or stands still at its last value
abbrev pub risen : ℕ → ℕ
risen count = min (count + 1) last_count

-- the count rose, or stands at its last value
abbrev pub Rose : ℕ → ℕ → Type 0
Rose before now = risen before ≤ now

-- whether the call after so many calls is one of those that fail
abbrev pub next_fails : List ℕ → ℕ → Bool
next_fails failing calls = list_any (λ number. number == risen calls) failing
