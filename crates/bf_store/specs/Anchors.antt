-- The anchors of a migration from a place on, and the first of them whose granule has not moved.
use Rattle.std.specs.Prelude.{ℕ, ◌==◌, Bool, false, not, ◌&&◌, if◌then◌else◌, List, [], ◌∷◌, ◌++◌, map, flat_map, length, drop, find, Option, Some, None, is_none, option_map, unwrap_or, IsTrue}
use Rattle.std.specs.List.{enumerate_from, list_all}
use Rattle.bf_base.specs.declared.granule.Granule.{Granule}
use Rattle.bf_base.specs.Lists.{has}
use Rattle.bf_sql.specs.Database.{Database}
use Rattle.bf_sql.specs.migrations.Granules.{UnitForm, anchors_of, granule, granules_of, same_granule}
use Rattle.bf_sql.specs.migrations.Lazy.{DoneGranule, Migration, is_done}
use Rattle.bf_image.specs.Migrations.{old_of, unit_at, units_in}
use Rattle.bf_image.specs.declared.migration.Migration.{Migration as Kept}
use Rattle.bf_image.specs.declared.value_indexes.UnitIndex.{UnitIndex}
use Rattle.bf_store.specs.Stores.{migration_of}
use Rattle.bf_store.specs.declared.anchor.Anchor.{Anchor}

-- the anchors of a unit and its number, each with its granule and its position
abbrev pub unit_anchors : Database → ℕ × UnitForm → List (Granule × ℕ)
unit_anchors old u = map (λ a. (granule u.0 a.1, a.0)) (enumerate_from 0 (anchors_of old u.1))

-- AHEAD: of numbered units, those of one from a position on, and those of the units behind it
abbrev pub ahead_in : Database → ℕ → ℕ → List (ℕ × UnitForm) → List (Granule × ℕ)
ahead_in old unit position [] = []
ahead_in old unit position (u ∷ us) =
    if u.0 == unit then drop position (unit_anchors old u) ++ flat_map (unit_anchors old) us else ahead_in old unit position us

abbrev pub anchors_ahead : Kept → ℕ → ℕ → List (Granule × ℕ)
anchors_ahead m unit position = ahead_in (old_of m) unit position (enumerate_from 0 (units_in m))

-- those of one unit alone
abbrev pub anchors_left : Kept → ℕ → ℕ → List (Granule × ℕ)
anchors_left m unit position = unwrap_or (option_map (λ form. drop position (unit_anchors (old_of m) (unit, form))) (unit_at m unit)) []

-- whether a granule has not moved
abbrev pub is_open : Migration → Granule × ℕ → Bool
is_open last a = not (is_done last a.0)

abbrev pub anchor_of : Granule × ℕ → Anchor
anchor_of a = record { unit = (a.0).unit; position = a.1 }

-- NEXT: the first from an anchor on whose granule has not moved, and none behind none
abbrev pub next_from : Kept → List DoneGranule → Option Anchor → Option Anchor
next_from m done None = None
next_from m done (Some from) = option_map anchor_of (find (is_open (migration_of m done)) (anchors_ahead m from.unit from.position))

-- OF: granules of a migration
abbrev pub AreOf : Kept → List Granule → Type 0
AreOf m granules = IsTrue (list_all (has same_granule (granules_of (old_of m) m.plan.migrate)) granules)

-- whether a unit goes by the values of one table, and as many values as are told are all that there are
abbrev pub has_all_groups : Option UnitIndex → ℕ → Bool
has_all_groups None moved = false
has_all_groups (Some index) moved = is_none index.join && moved == length index.from
