-- Where in an old table the rows stand that an index finds.
use Rattle.std.specs.Prelude.{ℕ, List}
use Rattle.std.specs.List.{filter_map, position}
use Rattle.bf_base.specs.declared.value.Value.{Value}
use Rattle.bf_base.specs.Lists.{same_key}
use Rattle.bf_heap.specs.Heaps.{Entry}

-- the positions of the rows under some keys, in the order of the keys; a key without a row is left out
abbrev pub positions_under : List Entry → List (List Value) → List ℕ
positions_under entries keys = filter_map (λ key. position (λ (e : Entry). same_key key e.0) entries) keys
