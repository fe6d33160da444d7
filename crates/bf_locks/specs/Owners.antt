-- The holders of one name: owners, rising, and their modes.
use Rattle.std.specs.Prelude.{ℕ, List, Option}
use Rattle.std.specs.Option.{option_map_or}
use Rattle.std.specs.List.Sorted.{IsStrictlySortedBy}
use Rattle.std.specs.Ordering.{nat_cmp}
use Rattle.std.specs.Map.{lookup, keys_of}
use Rattle.std.specs.BTreeMap.{is_at}
use Rattle.bf_locks.specs.declared.mode.Mode.{Mode}
use Rattle.bf_locks.specs.Modes.{join_of}

-- the mode of an owner, if it is one of them
abbrev pub mode_of : List (ℕ × Mode) → ℕ → Option Mode
mode_of holders owner = lookup (is_at (nat_cmp owner)) holders

-- the owners rise
abbrev pub IsRising : List (ℕ × Mode) → Type 0
IsRising holders = IsStrictlySortedBy nat_cmp (keys_of holders)

-- the mode that an owner's request is judged by: the asked one, joined with its own
abbrev pub wanted_of : List (ℕ × Mode) → ℕ → Mode → Mode
wanted_of holders owner mode = option_map_or (λ before. join_of before mode) (mode_of holders owner) mode
