-- What holds of the sessions of every script that is read, so that they can run in its order.
use Rattle.std.specs.Prelude.{ℕ, Bool, true, ◌&&◌, List, [], ◌∷◌, nat_le}
use Rattle.bf_tree.specs.declared.script.Session.{Session}

-- no session stands in an earlier phase than the one before it
abbrev pub phases_rise_from : ℕ → List Session → Bool
phases_rise_from phase [] = true
phases_rise_from phase (s ∷ ss) = nat_le phase s.phase && phases_rise_from s.phase ss
