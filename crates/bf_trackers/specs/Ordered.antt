-- ORDERED: granules in the order of unit and place.
use Rattle.std.specs.Prelude.{List, if◌then◌else◌}
use Rattle.bf_base.specs.declared.granule.Granule.{Granule}
use Rattle.bf_base.specs.Lists.{has, in_order, placed}
use Rattle.bf_sql.specs.migrations.Granules.{same_granule}
use Rattle.bf_store.specs.States.{granule_cmp}

abbrev pub by_place : List Granule → List Granule
by_place granules = in_order granule_cmp (λ g. g) granules

-- with one more in its place: as they are, exactly where it is one of them
abbrev pub with_granule : List Granule → Granule → List Granule
with_granule granules granule = if has same_granule granules granule then granules else placed granule_cmp (λ g. g) granules granule
