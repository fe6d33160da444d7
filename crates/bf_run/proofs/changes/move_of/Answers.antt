use Rattle.std.proofs.Common.{◌≡◌, ℕ, List, subst, sym}
use Rattle.std.specs.List.{AllByRecursion}
use Rattle.bf_base.specs.declared.granule.Granule.{Granule}
use Rattle.bf_base.specs.declared.granule.Place.{Place}
use Rattle.bf_record.specs.declared.change.Change.TheVariants.{Move}
use Rattle.bf_store.specs.States.{with_moved}
use Rattle.bf_run.specs.Records.{IsRecordOf}
use Rattle.bf_run.proofs.Moved.{move_recorded}
use Rattle.bf_run.proofs.changes.move_of.Goals as goal

pub returns : goal.returns
returns c =
    let lazy = c.args.store.now.lazy in
    let granules : List Granule = c.args.granules.now in
    let one = c.requires.one in
    let of_unit : AllByRecursion (λ (g : Granule). g.unit ≡ c.unit_of.result) granules = subst (λ (n : ℕ). AllByRecursion (λ (g : Granule). g.unit ≡ n) granules) (c.unit_of.ensures one.unit one.of_one_unit) one.of_one_unit in
    subst (λ (places : List Place). IsRecordOf lazy (Move c.last_number.result c.unit_of.result places) (with_moved lazy granules)) (sym c.in_ok-places_of.ensures)
    (move_recorded granules c.last_number.result c.unit_of.result of_unit lazy one c.requires.left c.last_number.ensures)
