use Rattle.std.proofs.Common.{◌≡◌, Some, Result, Ok, Err, IfOk, map, refl, sym, ap, ◌∙◌, arith}
use Rattle.std.specs.Prelude.{slice_get}
use Rattle.std.specs.Option.{option_to_list}
use Rattle.std.proofs.lemmas.Option.{slice_get_past, slice_get_read}
use Rattle.bf_sql.specs.migrations.Granules.{granule, rows_unit}
use Rattle.bf_image.specs.Lookup.{places_by}
use Rattle.bf_image.specs.Migrations.{old_of, target_at, unit_at}
use Rattle.bf_image.specs.Owners.{candidates_at}
use Rattle.bf_image.proofs.owning.Candidates.{narrow_from, no_place, no_place_by_arm, place_by_driver}
use Rattle.bf_image.proofs.owners.place_of.Goals as goal

if_so : {A E : Type 0} (P Q : A → Type 0) → ((x : A) → P x → Q x) → (r : Result A E) → IfOk r P → IfOk r Q
if_so P Q so (Ok x) h = so x h
if_so P Q so (Err e) h = h

pub place_by_value-requires : goal.place_by_value-requires
place_by_value-requires c =
    let m = c.args.migration.now in
    narrow_from m c.requires.lawful c.in-Some.arm (unit_at m c.args.number) c.in-Some.ensures

pub returns-in-Some : goal.returns-in-Some
returns-in-Some c =
    no_place_by_arm c.args.migration.now c.requires.lawful c.args.number c.args.target c.args.key.now c.requires.there c.in-Some.arm c.in-Some.ensures c.if-arm-target.false

-- a unit by rows
pub returns-in-Some-get : goal.returns-in-Some-get
returns-in-Some-get c =
    let m = c.args.migration.now in
    let unit = c.in-Some-get.unit.now in
    let at : slice_get m.plan.units c.args.number ≡ Some unit = ap (λ us. slice_get us c.args.number) (sym c.as_slice.ensures) ∙ slice_get_read c.as_slice.result.now _ c.args.number _ refl c.in-Some-get.ensures.lookup.3.0 c.in-Some-get.ensures.lookup.1 in
    if_so (λ place. option_to_list place ≡ places_by (old_of m) (target_at m c.args.target) c.args.key.now (rows_unit unit.driver))
    (λ place. map (granule c.args.number) (option_to_list place) ≡ candidates_at m (target_at m c.args.target) c.args.key.now c.args.number)
    (λ place made. place_by_driver m c.requires.lawful c.args.number c.args.target c.args.key.now unit (option_to_list place) at c.in_default.ensures made)
    c.place_by_row.result c.place_by_row.ensures

pub returns-in-None : goal.returns-in-None
returns-in-None c =
    let m = c.args.migration.now in
    let past = c.in-None.ensures.lookup.3 in
    no_place m c.requires.lawful c.args.number c.args.target c.args.key.now
    (ap (λ us. slice_get us c.args.number) (sym c.as_slice.ensures) ∙ slice_get_past c.as_slice.result.now c.args.number (omega (arith, past)))
