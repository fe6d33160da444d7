-- The holders of one name, as they are kept.
use Rattle.std.specs.Prelude.{ℕ, List, [], ◌∷◌}
use Rattle.bf_locks.specs.declared.mode.Mode.{Mode}
use Rattle.bf_locks.specs.declared.owners.Kept.{Kept}
use Rattle.bf_locks.specs.declared.owners.Kept.TheVariants.{One, Several}

-- the owners and their modes
abbrev pub pairs_of : Kept → List (ℕ × Mode)
pairs_of (One owner mode) = (owner, mode) ∷ []
pairs_of (Several modes) = modes.entries
