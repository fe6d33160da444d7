-- Each item of a list once.
use Rattle.std.specs.Prelude.{Bool, List, [], ◌∷◌, ◌++◌, fold, if◌then◌else◌}
use Rattle.bf_base.specs.Lists.{has}

module _ {X : Type 0} (same : X → X → Bool) where
  abbrev pub with_new : List X → X → List X
  with_new seen x = if has same seen x then seen else seen ++ x ∷ []

  -- each item where it stood first
  abbrev pub distinct : List X → List X
  distinct xs = fold with_new [] xs
