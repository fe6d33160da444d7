-- MOVE: which places of a unit a record may move of the last migration.
use Rattle.std.specs.Prelude.{ℕ, ◌==◌, ◌&&◌, Bool, false, List, length, map, nat_le, Option, Some, None}
use Rattle.std.specs.List.{list_all}
use Rattle.bf_base.specs.declared.granule.Granule.{Granule}
use Rattle.bf_base.specs.declared.granule.Place.{Place}
use Rattle.bf_base.specs.Lists.{has, rises}
use Rattle.bf_sql.specs.migrations.Granules.{granule, same_granule}
use Rattle.bf_sql.specs.migrations.Lazy.{Migration, pending}
use Rattle.bf_store.specs.States.{most_moved, place_cmp}

-- a granule of the migration that has not moved
abbrev pub is_to_move : Migration → Granule → Bool
is_to_move last g = has same_granule (pending last) g

-- a record tells, by the number of a migration, 1 to 64 places, rising
abbrev pub is_told_of : ℕ → ℕ → List Place → Bool
is_told_of last number places = number == last && nat_le 1 (length places) && nat_le (length places) most_moved && rises place_cmp places

-- of one unit of the last migration, each a granule that has not moved
abbrev pub is_legal_move : Option Migration → ℕ → ℕ → List Place → Bool
is_legal_move None number unit places = false
is_legal_move (Some last) number unit places = is_told_of last.number number places && list_all (λ p. is_to_move last (granule unit p)) places

-- the granules at some places of a unit
abbrev pub granules_at : ℕ → List Place → List Granule
granules_at unit places = map (granule unit) places
