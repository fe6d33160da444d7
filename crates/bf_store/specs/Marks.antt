-- MARKS: the granules that have moved, each with the number of its record, in the order of unit and place.
use Rattle.std.specs.Prelude.{ℕ, Bool, true, false, not, ◌&&◌, ◌==◌, List, ◌++◌, map, filter, filter_map, find, Option, option_map, IsTrue}
use Rattle.bf_base.specs.declared.granule.Granule.{Granule}
use Rattle.bf_base.specs.declared.granule.Place.{Place}
use Rattle.bf_base.specs.declared.granule.Place.TheVariants.{Row, Group}
use Rattle.bf_base.specs.Lists.{has, in_order, placed, rises}
use Rattle.bf_base.proofs.Apart.{are_apart}
use Rattle.bf_sql.specs.migrations.Granules.{same_granule}
use Rattle.bf_sql.specs.migrations.Lazy.{DoneGranule, done_by}
use Rattle.bf_store.specs.States.{granule_cmp}

abbrev pub granules_in : List DoneGranule → List Granule
granules_in done = map (λ d. d.granule) done

-- whether a granule stands for a value of a unit
abbrev pub is_group : Place → Bool
is_group (Row position) = false
is_group (Group value) = true

abbrev pub is_group_of : ℕ → Granule → Bool
is_group_of unit g = g.unit == unit && is_group g.place

-- the number of the record that moved a granule, if it has moved
abbrev pub number_in : List DoneGranule → Granule → Option ℕ
number_in done g = option_map (λ d. d.number) (find (λ d. same_granule d.granule g) done)

-- those of some granules that have not moved, and those that have, each with the number of its record
abbrev pub left_of : List DoneGranule → List Granule → List Granule
left_of done granules = filter (λ g. not (has same_granule (granules_in done) g)) granules

abbrev pub numbered_of : List DoneGranule → List Granule → List (Granule × ℕ)
numbered_of done granules = filter_map (λ g. option_map (λ n. (g, n)) (number_in done g)) granules

-- one more mark in its place
abbrev pub with_mark : List DoneGranule → DoneGranule → List DoneGranule
with_mark = placed granule_cmp (λ d. d.granule)

-- the marks with those of further granules, which one record has moved
abbrev pub marked : List DoneGranule → List Granule → ℕ → List DoneGranule
marked done granules number = in_order granule_cmp (λ d. d.granule) (done ++ map (done_by number) granules)

-- the marks but those of some granules
abbrev pub unmarked : List DoneGranule → List Granule → List DoneGranule
unmarked done granules = filter (λ d. not (has same_granule granules d.granule)) done

-- granules that differ, of which none has moved; nor do the marks name one twice
abbrev pub AreFresh : List DoneGranule → List Granule → Type 0
AreFresh done granules = IsTrue (are_apart same_granule (granules_in done ++ granules))

-- by unit and place, each once
abbrev pub AreInOrder : List DoneGranule → Type 0
AreInOrder done = IsTrue (rises granule_cmp (granules_in done))
