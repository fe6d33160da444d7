-- The key that a condition fixes, column by column.
use Rattle.std.proofs.Common.{ℕ, List, ◌++◌, map, Option}
use Rattle.std.specs.Option.{option_map}
use Rattle.bf_base.specs.declared.value.Value.{Value}
use Rattle.bf_tree.specs.Fixed.{column_fixed}
use Rattle.bf_tree.specs.Trees.{Cond}
use Rattle.bf_sql.specs.Conditions.{all_there}

-- the values so far and those that the rest of the key is fixed to, if it is
abbrev pub with_fixed : Cond ℕ → List Value → List ℕ → Option (List Value)
with_fixed condition values places = option_map (λ vs. values ++ vs) (all_there (map (λ place. column_fixed place condition) places))
