-- What a pass over the values of two indexes has ahead.
use Rattle.std.specs.Prelude.{ℕ, ◌+◌, ◌-◌, List, [], ◌∷◌, ◌++◌, map, drop, length, Option, Some, None}
use Rattle.bf_base.specs.declared.value.Value.{Value}
use Rattle.bf_index.specs.ByValues.{value_of}
use Rattle.bf_transpose.specs.InOrder.{values_in}
use Rattle.bf_transpose.specs.declared.merge.Merge.{Merge}

-- the values ahead in either index, in their order, each once
abbrev pub values_ahead : Merge → List (List Value)
values_ahead merge = values_in (map value_of (drop merge.left_place merge.left.now) ++ map value_of (drop merge.right_place merge.right.now))

abbrev pub steps_ahead : Merge → ℕ
steps_ahead merge = (length merge.left.now - merge.left_place) + (length merge.right.now - merge.right_place)

-- the value of a step before those behind it; nothing is behind the last step
abbrev pub values_stepped : Option (List Value) → List (List Value) → List (List Value)
values_stepped None behind = []
values_stepped (Some value) behind = value ∷ behind
