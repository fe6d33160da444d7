-- Values in their order, each once.
use Rattle.std.specs.Prelude.{List}
use Rattle.bf_base.specs.declared.value.Value.{Value}
use Rattle.bf_base.specs.Distinct.{distinct}
use Rattle.bf_base.specs.Lists.{in_order, same_key}
use Rattle.bf_base.specs.Values.{key_cmp}

-- the values of a list in their order, each once
abbrev pub values_in : List (List Value) → List (List Value)
values_in values = in_order key_cmp (λ v. v) (distinct same_key values)
