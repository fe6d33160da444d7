-- A row that satisfies a condition has the value that the condition fixes.
use Rattle.std.proofs.Common.{◌≡◌, ℕ, pos, true, List, [], ◌∷◌, Some, None, is_some, unwrap_or, refl, ap₂}
use Rattle.std.proofs.lemmas.Bool.{and_parts}
use Rattle.bf_base.specs.declared.value.Value.{Value}
use Rattle.bf_base.specs.declared.value.Value.TheVariants.{Int}
use Rattle.bf_base.specs.Tables.{cell, cells}
use Rattle.bf_tree.specs.Evaluation.{holds_on}
use Rattle.bf_tree.specs.Fixed.{column_fixed, conjuncts}
use Rattle.bf_tree.specs.Trees.{Cond}
use Rattle.bf_sql.proofs.FixedKey.{conjuncts_hold, first_held}
use Rattle.bf_access.specs.ByIndex.{all_fixed, fixed_value}

module _ (c : Cond ℕ) where
  -- a row that satisfies a condition has the value that it fixes
  pub value_held : (columns : List ℕ) (row : List Value) → all_fixed c columns ≡ true → holds_on (cell row) c ≡ true → cells columns row ≡ fixed_value c columns
  value_held [] row fixed h = refl
  value_held (place ∷ columns) row fixed h =
      let parts = and_parts (is_some (column_fixed place c)) (all_fixed c columns) fixed in
      let here : cell row place ≡ unwrap_or (column_fixed place c) (Int (pos 0)) =
      elim (column_fixed place c) as (λ o. column_fixed place c ≡ o → is_some o ≡ true → cell row place ≡ unwrap_or o (Int (pos 0))) [
        | None ↦ λ is some. absurd cc
        | Some v ↦ λ is some. first_held row place (conjuncts c) v is (conjuncts_hold row c h)
      ] refl parts.0 in
      ap₂ (λ v vs. v ∷ vs) here (value_held columns row parts.1 h)
