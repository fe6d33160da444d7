-- The state of a key, by the mark that a stripe has of it.
use Rattle.std.specs.Prelude.{ℕ, ◌==◌, Bool, false, Option, Some, None}
use Rattle.bf_hash.specs.declared.state.Mark.{Mark}
use Rattle.bf_hash.specs.declared.state.Mark.TheVariants.{Held, Done}
use Rattle.bf_hash.specs.declared.state.HashState.{HashState}
use Rattle.bf_hash.specs.declared.state.HashState.TheVariants.{Free, Held as IsHeld, Done as IsDone}

-- a key without a mark is free
abbrev pub state_by : Option Mark → HashState
state_by None = Free
state_by (Some (Held ticket)) = IsHeld ticket
state_by (Some Done) = IsDone

-- whether a state is that of a key which is held under a ticket
abbrev pub is_held_under : ℕ → HashState → Bool
is_held_under ticket Free = false
is_held_under ticket (IsHeld other) = other == ticket
is_held_under ticket IsDone = false
