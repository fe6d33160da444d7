-- Names that are kept in a list and in a set.
use Rattle.std.specs.Prelude.{◌≡◌, ℕ, List}
use Rattle.std.specs.BTreeSet.{BTreeSet, contains}
use Rattle.bf_base.specs.Lists.{has, name_cmp, same_name}

-- the set has the names of the list
abbrev pub AreSeen : List (List ℕ) → BTreeSet (List ℕ) → Type 0
AreSeen names seen = (name : List ℕ) → contains name_cmp seen name ≡ has same_name names name
