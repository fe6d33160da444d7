-- Whether rows are made: by an arm, and from a granule.
use Rattle.std.specs.Prelude.{ℕ, Bool, true, false, List, [], ◌∷◌}
use Rattle.std.specs.List.{list_any}
use Rattle.bf_base.specs.declared.granule.Granule.{Granule}
use Rattle.bf_base.specs.declared.value.Value.{Value}
use Rattle.bf_base.specs.Lists.{same_name}
use Rattle.bf_tree.specs.declared.migration.Target.{Target}
use Rattle.bf_tree.specs.declared.plan.PlacedArm.{PlacedArm}
use Rattle.bf_sql.specs.migrations.Granules.{part_of}
use Rattle.bf_sql.specs.migrations.Placed.{placed_rows}
use Rattle.bf_image.specs.Migrations.{old_of, target_at}
use Rattle.bf_image.specs.declared.migration.Migration.{Migration}

-- whether a list has an item
abbrev pub has_any : {X : Type 0} → List X → Bool
has_any [] = false
has_any (x ∷ xs) = true

-- whether an arm makes a row of rows of FROM and of JOIN
abbrev pub makes_any : PlacedArm → List (List Value) → List (List Value) → Bool
makes_any arm from join = has_any (placed_rows arm from join)

-- whether one of some rows, each with its target, is of a target by that one's number
abbrev pub has_row_of : Migration → ℕ → List (Target × List Value) → Bool
has_row_of m target rows = list_any (λ p. same_name p.0.name (target_at m target).name) rows

-- whether a granule gives a row of a target, by the target's number
abbrev pub gives_row : Migration → ℕ → Granule → Bool
gives_row m target g = list_any (λ p. same_name p.0.name (target_at m target).name) (part_of (old_of m) m.plan.migrate g)
