-- Keys that rise.
use Rattle.std.proofs.Common.{◌≡◌, true, List, ◌∷◌, map}
use Rattle.bf_base.specs.declared.value.Value.{Value}
use Rattle.bf_base.specs.Lists.{rises}
use Rattle.bf_base.specs.Values.{key_cmp}
use Rattle.bf_heap.specs.Heaps.{Entry, key_of_entry}

-- the keys behind a key rise
abbrev pub RisesFrom : List Value → List (List Value) → Type 0
RisesFrom key keys = rises key_cmp (key ∷ keys) ≡ true

abbrev pub keys_of : List Entry → List (List Value)
keys_of entries = map key_of_entry entries
