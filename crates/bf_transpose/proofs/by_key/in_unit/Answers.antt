use Rattle.std.proofs.Common.{◌≡◌, Bool, List, [], if◌then◌else◌, Some, refl, sym, ap, ◌∙◌, arith}
use Rattle.std.specs.Prelude.{slice_get}
use Rattle.std.proofs.lemmas.Option.{slice_get_past, slice_get_read}
use Rattle.std.proofs.lemmas.Result.{IfOk-weaker}
use Rattle.bf_base.specs.declared.granule.Granule.{Granule}
use Rattle.bf_sql.specs.migrations.Granules.{rows_unit}
use Rattle.bf_image.specs.Lookup.{places_by}
use Rattle.bf_image.specs.Migrations.{old_of, target_at}
use Rattle.bf_image.specs.Owners.{candidates_at}
use Rattle.bf_image.proofs.owning.Candidates.{no_place, no_place_by_arm, place_by_driver}
use Rattle.bf_transpose.proofs.by_key.in_unit.Goals as goal

-- of a unit with an arm of the target
abbrev of_unit : Bool → List Granule → List Granule
of_unit is granules = if is then granules else []

pub returns-then-not-has_arm : goal.returns-then-not-has_arm
returns-then-not-has_arm c =
    let m = c.args.migration.now in
    ap (λ is. of_unit is (candidates_at m (target_at m c.args.target) c.args.key.now c.args.unit)) (sym c.if-not-has_arm.true ∙ c.has_arm.ensures)

pub returns-in-Some : goal.returns-in-Some
returns-in-Some c =
    let m = c.args.migration.now in
    no_place_by_arm m c.requires.lawful c.args.unit c.args.target c.args.key.now c.requires.there c.in-Some.arm c.in-Some.ensures c.if-arm-target.false
    ∙ ap (λ is. of_unit is (candidates_at m (target_at m c.args.target) c.args.key.now c.args.unit)) (sym c.if-not-has_arm.false ∙ c.has_arm.ensures)

-- a unit by rows
pub returns-in-Some-get : goal.returns-in-Some-get
returns-in-Some-get c =
    let m = c.args.migration.now in
    let unit = c.in-Some-get.planned.now in
    let t = target_at m c.args.target in
    let key = c.args.key.now in
    let at : slice_get m.plan.units c.args.unit ≡ Some unit = ap (λ us. slice_get us c.args.unit) (sym c.as_slice.ensures) ∙ slice_get_read c.as_slice.result.now _ c.args.unit _ refl c.in-Some-get.ensures.lookup.3.0 c.in-Some-get.ensures.lookup.1 in
    let placed = place_by_driver m c.requires.lawful c.args.unit c.args.target key unit (places_by (old_of m) t key (rows_unit unit.driver)) at c.in_default.ensures refl in
    IfOk-weaker c.by_row.result _ _ (λ found is. is ∙ placed ∙ ap (λ is. of_unit is (candidates_at m t key c.args.unit)) (sym c.if-not-has_arm.false ∙ c.has_arm.ensures)) c.by_row.ensures

pub returns-in-None : goal.returns-in-None
returns-in-None c =
    let m = c.args.migration.now in
    let past = c.in-None.ensures.lookup.3 in
    no_place m c.requires.lawful c.args.unit c.args.target c.args.key.now
    (ap (λ us. slice_get us c.args.unit) (sym c.as_slice.ensures) ∙ slice_get_past c.as_slice.result.now c.args.unit (omega (arith, past)))
    ∙ ap (λ is. of_unit is (candidates_at m (target_at m c.args.target) c.args.key.now c.args.unit)) (sym c.if-not-has_arm.false ∙ c.has_arm.ensures)
