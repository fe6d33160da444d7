-- The columns of a new table that totals fill.
use Rattle.std.specs.Prelude.{ℕ, List, filter_map, Some, None, if◌then◌else◌}
use Rattle.bf_tree.specs.declared.migration.Item.{Item}
use Rattle.bf_sql.specs.migrations.Targets.{is_total}

-- the places of those items that are totals
abbrev pub totals_of : List (ℕ × Item) → List ℕ
totals_of items = filter_map (λ i. if is_total i.1 then Some i.0 else None) items
