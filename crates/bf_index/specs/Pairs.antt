-- An index: a set of pairs of a value and a key that has it, and the number of pairs for which there is room.
use Rattle.std.specs.Prelude.{ℕ, ◌+◌, ◌-◌, ◌<◌, ◌^◌, Bool, List, [], length, map, filter, is_some, if◌then◌else◌, IsTrue}
use Rattle.std.specs.declared.cmp.Ordering.{Ordering}
use Rattle.std.specs.Ordering.{ordering_then}
use Rattle.bf_base.specs.declared.value.Value.{Value}
use Rattle.bf_base.specs.Lists.{same_key}
use Rattle.bf_base.specs.Maps.{is_map, entry_at, with_entry, without_key}
use Rattle.bf_base.specs.Values.{key_cmp}

-- a value, which may be of several columns, and a key that has it
abbrev pub Pair : Type 0
Pair = List Value × List Value

-- by value, then key
abbrev pub pair_cmp : Pair → Pair → Ordering
pair_cmp a b = ordering_then (key_cmp a.0 b.0) (key_cmp a.1 b.1)

-- a pair is its own key in a set
abbrev pub itself : Pair → Pair
itself pair = pair

-- the places of the indexed columns, in index order, the pairs in order, and the room for further ones
pub record PairSet : Type 0 where
  pub columns : List ℕ
  pub pairs : List Pair
  pub spare : ℕ

abbrev pub has_pair : List Pair → Pair → Bool
has_pair pairs pair = is_some (entry_at pair_cmp itself pairs pair)

-- the pairs with one more; with the same ones where it is there
abbrev pub with_pair : List Pair → Pair → List Pair
with_pair pairs pair = with_entry pair_cmp itself pairs pair

abbrev pub without_pair : List Pair → Pair → List Pair
without_pair pairs pair = without_key pair_cmp itself pairs pair

-- the keys that pairs have with a value, in order
abbrev pub keys_with : List Pair → List Value → List (List Value)
keys_with pairs value = map (λ pair. pair.1) (filter (λ pair. same_key pair.0 value) pairs)

-- the room that is left when a pair is added
abbrev pub spare_after : PairSet → Pair → ℕ
spare_after index pair = if has_pair index.pairs pair then index.spare else index.spare - 1

-- what is true of each index
pub record IsIndex (index : PairSet) : Type 0 where
  pub in_order : IsTrue (is_map pair_cmp itself index.pairs)
  pub within : length index.pairs + index.spare < 2 ^ 32

abbrev pub empty_index : List ℕ → PairSet
empty_index columns = record { columns = columns; pairs = []; spare = 0 }
