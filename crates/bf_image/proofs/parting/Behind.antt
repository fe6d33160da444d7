-- Rows behind others, by the numbers of their targets.
use Rattle.std.proofs.Common.{◌≡◌, ℕ, List, [], ◌++◌, map, sym, ap, ap₂, ◌∙◌, append-nil, append_assoc}
use Rattle.std.proofs.lemmas.List.{map-append}
use Rattle.bf_base.specs.declared.value.Value.{Value}
use Rattle.bf_tree.specs.declared.migration.Target.{Target}
use Rattle.bf_image.specs.Migrations.{AreBehind, target_at}
use Rattle.bf_image.specs.declared.migration.Migration.{Migration}

module _ (m : Migration) where
  abbrev named : ℕ × List Value → Target × List Value
  named p = (target_at m p.0, p.1)

  -- nothing is added
  pub none_behind : {added : List (Target × List Value)} (rows : List (ℕ × List Value)) → added ≡ [] → AreBehind m added rows rows
  none_behind rows none = record { rows = []; behind = sym (append-nil rows); targets = sym none }

  -- more rows are added
  pub behind_more : {added more : List (Target × List Value)} {first before all : List (ℕ × List Value)} (rows : List (ℕ × List Value))
      → AreBehind m added first before → all ≡ before ++ rows → map named rows ≡ more → AreBehind m (added ++ more) first all
  behind_more {first = first} rows are joined targets = record {
    rows = are.rows ++ rows;
    behind = joined ∙ ap (λ all. all ++ rows) are.behind ∙ append_assoc first are.rows rows;
    targets = map-append named are.rows rows ∙ ap₂ (λ xs ys. xs ++ ys) are.targets targets;
  }
