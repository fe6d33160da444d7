-- The rows of a table by the values that they have at some places.
use Rattle.std.specs.Prelude.{ℕ, Bool, nat_lt, List, [], length, map, filter, unwrap_or, option_map}
use Rattle.std.specs.List.{enumerate_from, list_all}
use Rattle.bf_base.specs.declared.value.Value.{Value}
use Rattle.bf_base.specs.Distinct.{distinct}
use Rattle.bf_base.specs.Lists.{same_key, in_order}
use Rattle.bf_base.specs.Maps.{entry_at}
use Rattle.bf_base.specs.Tables.{cells}
use Rattle.bf_base.specs.Values.{key_cmp}
use Rattle.bf_heap.specs.Heaps.{Entry}

-- a value, and the positions of the rows that have it
abbrev pub Valued : Type 0
Valued = List Value × List ℕ

abbrev pub value_of : Valued → List Value
value_of entry = entry.0

-- the positions of the rows with a value, in order, by the values of all rows
abbrev pub positions_of : List Value → List (List Value) → List ℕ
positions_of value values = map (λ row. row.0) (filter (λ row. same_key value row.1) (enumerate_from 0 values))

-- the values in their order, each once, each with the positions of its rows
abbrev pub by_value : List (List Value) → List Valued
by_value values = map (λ value. (value, positions_of value values)) (in_order key_cmp (λ v. v) (distinct same_key values))

-- the positions that stand under a value
abbrev pub positions_under : List Valued → List Value → List ℕ
positions_under index value = unwrap_or (option_map (λ entry. entry.1) (entry_at key_cmp value_of index value)) []

-- the values at some places of a table's rows
abbrev pub values_at : List ℕ → List Entry → List (List Value)
values_at places rows = map (λ row. cells places row.1) rows

-- each row of a table has a value at each of some places
abbrev pub are_within : List ℕ → List Entry → Bool
are_within places rows = list_all (λ row. list_all (λ place. nat_lt place (length row.1)) places) rows
