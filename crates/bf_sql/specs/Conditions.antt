-- Conditions as they are written, and the key that they fix.
use Rattle.std.specs.Prelude.{ℕ, List, [], ◌∷◌, map, Option, Some, None, option_map, option_and_then}
use Rattle.bf_base.specs.declared.value.Value.{Value}
use Rattle.bf_base.specs.declared.table.Table.{Table}
use Rattle.bf_tree.specs.declared.raw.Ref.{Ref}
use Rattle.bf_tree.specs.Fixed.{column_fixed}
use Rattle.bf_tree.specs.Trees.{Cond, always}

-- without a condition, each row satisfies it
abbrev pub condition_of : Option (Cond Ref) → Cond Ref
condition_of None = always
condition_of (Some cond) = cond

-- all values, where each is there
abbrev pub all_there : {X : Type 0} → List (Option X) → Option (List X)
all_there [] = Some []
all_there (value ∷ values) = option_and_then (λ v. option_map (λ vs. v ∷ vs) (all_there values)) value

-- FIXED KEY: the key that a condition on a table fixes, where each key column has a conjunct that fixes it; the first such serves
abbrev pub fixed_key : Table → Cond ℕ → Option (List Value)
fixed_key table cond = all_there (map (λ place. column_fixed place cond) table.key)
