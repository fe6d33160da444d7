-- WORK: what one record of moves is to do, and the claims by which it may.
use Rattle.std.specs.Prelude.{◌≡◌, ℕ, ◌≤◌, List, [], length, map, refl, IsTrue}
use Rattle.std.specs.Coded.{Coded, code_by, coded×}
use Rattle.std.specs.List.{AllByRecursion}
use Rattle.boxcar.specs.Table.{Where}
use Rattle.bf_base.specs.declared.granule.Granule.{Granule}
use Rattle.bf_base.specs.Lists.{rises}
use Rattle.bf_drive.specs.Lists.{Entry, granules_in}
use Rattle.bf_image.specs.declared.migration.Migration.{Migration}
use Rattle.bf_store.specs.States.{AreGranules, most_moved, place_cmp}
use Rattle.bf_store.specs.Stores.{migration_of}
use Rattle.bf_trackers.specs.Ordered.{by_place}

pub record Work : Type 0 where
  pub pass : Where Migration
  pub wip : List Entry
  pub granules : List Granule

abbrev pub work_coded : Coded (Where Migration) → Coded (List Entry) → Coded (List Granule) → Coded Work
work_coded pass wip granules = code_by (Where Migration × (List Entry × List Granule)) (coded× pass (coded× wip granules)) (λ w. (w.pass, (w.wip, w.granules))) (λ p. record { pass = p.0; wip = p.1.0; granules = p.1.1 }) (λ _. refl)

-- the claimed granules in their order, as one record may move them
pub record IsWork (pass : Where Migration) (wip : List Entry) (granules : List Granule) : Type 0 where
  pub sorted : granules ≡ by_place (granules_in wip)
  pub of_it : AreGranules (migration_of pass.value []) granules
  pub some : 1 ≤ length granules
  pub few : length granules ≤ most_moved
  pub of_one_unit : (unit : ℕ) × AllByRecursion (λ g. g.unit ≡ unit) granules
  pub in_order : IsTrue (rises place_cmp (map (λ g. g.place) granules))
