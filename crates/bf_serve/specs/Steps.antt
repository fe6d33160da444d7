-- What the turn of a session, and a worker's look ahead, hand out.
use Rattle.std.specs.Prelude.{◌≢◌, List, [], IsTrue}
use Rattle.boxcar.specs.Table.{Shows, Where}
use Rattle.bf_base.specs.declared.granule.Granule.{Granule}
use Rattle.bf_base.specs.Lists.{rises}
use Rattle.bf_image.specs.Registries.{Registry}
use Rattle.bf_image.specs.declared.migration.Migration.{Migration}
use Rattle.bf_store.specs.States.{AreGranules, granule_cmp}
use Rattle.bf_store.specs.Stores.{migration_of}
use Rattle.bf_serve.specs.declared.ahead.Ahead.{Ahead}
use Rattle.bf_serve.specs.declared.ahead.Ahead.TheVariants.{Anchors}
use Rattle.bf_serve.specs.declared.shared.Step.{Step}
use Rattle.bf_serve.specs.declared.shared.Step.TheVariants.{Need}

-- granules that are to move first are some of a migration of the registry, in the order of unit and place
pub record AreToMove (registry : Registry) (pass : Where Migration) (granules : List Granule) : Type 0 where
  pub shown : Shows registry.migrations pass
  pub each : AreGranules (migration_of pass.value []) granules
  pub ordered : IsTrue (rises granule_cmp granules)
  pub some : granules ≢ []

abbrev pub IsStep : Registry → Step → Type 0
IsStep registry (Need pass granules seen) = AreToMove registry pass granules.items
IsStep registry other = Unit {0}

-- anchors to look at are of a migration of the registry
abbrev pub IsAhead : Registry → Ahead → Type 0
IsAhead registry (Anchors anchors) = Shows registry.migrations anchors.pass
IsAhead registry other = Unit {0}
