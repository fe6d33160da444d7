-- How a request is judged among the holders of its name, given as a list of owners and their modes.
use Rattle.std.specs.Prelude.{ℕ, Bool, not, ◌&&◌, ◌==◌, nat_lt, List, [], ◌∷◌, map, filter, if◌then◌else◌}
use Rattle.bf_locks.specs.declared.mode.Mode.{Mode}
use Rattle.bf_locks.specs.declared.answer.LockAnswer.{LockAnswer}
use Rattle.bf_locks.specs.declared.answer.LockAnswer.TheVariants.{Granted, Wait, Die}
use Rattle.bf_locks.specs.Modes.{are_compatible}

-- whether a holder conflicts with an owner that wants to hold the name in a mode
abbrev pub is_conflict : ℕ → Mode → ℕ × Mode → Bool
is_conflict owner wanted holder = not (holder.0 == owner) && not (are_compatible holder.1 wanted)

-- the owners that conflict, in the holders' order
abbrev pub conflicting : ℕ → Mode → List (ℕ × Mode) → List ℕ
conflicting owner wanted holders = map (λ holder. holder.0) (filter (is_conflict owner wanted) holders)

-- the answer to an owner with which these conflict, the oldest first
abbrev pub answer_for : ℕ → List ℕ → LockAnswer
answer_for owner [] = Granted
answer_for owner (oldest ∷ rest) = if nat_lt oldest owner then Die oldest else Wait (oldest ∷ rest)
