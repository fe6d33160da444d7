use Rattle.std.proofs.Common.{◌≡◌, ◌∙◌, true, false, nat_lt, if◌then◌else◌, Some, None, sym, ap, arith}
use Rattle.std.specs.Prelude.{option_map, slice_get}
use Rattle.std.proofs.lemmas.Bool.Decides.{nat_tests}
use Rattle.bf_base.specs.declared.granule.Place.TheVariants.{Row, Group}
use Rattle.bf_sql.specs.migrations.Granules.{granule}
use Rattle.bf_image.specs.BoundArms.{arm_values}
use Rattle.bf_image.proofs.cutting.Swept.{anchored_by_rows, anchored_by_values, narrow_arm}
use Rattle.bf_image.proofs.anchors.place_of.Goals as goal

pub arm_value-requires : goal.arm_value-requires
arm_value-requires c = narrow_arm c.args.migration.now c.requires.lawful c.args.unit c.in-Some.arm c.in-Some.ensures

-- a value that is there, and none that is not
pub returns-in-Some-2 : goal.returns-in-Some-2
returns-in-Some-2 c =
    let m = c.args.migration.now in
    let value : slice_get (arm_values c.in-Some.arm) c.args.anchor ≡ Some c.in-Some-2.value = sym c.in_ok-value-in-Some.ensures ∙ c.in-Some-2.is in
    sym (anchored_by_values m c.requires.lawful c.args.unit c.in-Some.arm c.in-Some.ensures c.args.anchor ∙ ap (λ o. option_map (granule c.args.unit) (option_map Group o)) value)

pub returns-in-None-3 : goal.returns-in-None-3
returns-in-None-3 c =
    let m = c.args.migration.now in
    let value : slice_get (arm_values c.in-Some.arm) c.args.anchor ≡ None = sym c.in_ok-value-in-Some.ensures ∙ c.in-None-3.is in
    sym (anchored_by_values m c.requires.lawful c.args.unit c.in-Some.arm c.in-Some.ensures c.args.anchor ∙ ap (λ o. option_map (granule c.args.unit) (option_map Group o)) value)

-- a row below the number of anchors, and none from there on
pub returns-in-None : goal.returns-in-None
returns-in-None c =
    let m = c.args.migration.now in
    let below : nat_lt c.args.anchor c.positions.result ≡ true = grind (arith, nat_tests, c.if-anchor-positions.true) in
    sym (anchored_by_rows m c.requires.lawful c.args.unit c.in-None.ensures c.args.anchor
    ∙ ap (λ n. if nat_lt c.args.anchor n then Some (granule c.args.unit (Row c.args.anchor)) else None) (sym c.positions.ensures)
    ∙ ap (λ b. if b then Some (granule c.args.unit (Row c.args.anchor)) else None) below)

pub returns-in-None-2 : goal.returns-in-None-2
returns-in-None-2 c =
    let m = c.args.migration.now in
    let past : nat_lt c.args.anchor c.positions.result ≡ false = grind (arith, nat_tests, c.if-anchor-positions.false) in
    sym (anchored_by_rows m c.requires.lawful c.args.unit c.in-None.ensures c.args.anchor
    ∙ ap (λ n. if nat_lt c.args.anchor n then Some (granule c.args.unit (Row c.args.anchor)) else None) (sym c.positions.ensures)
    ∙ ap (λ b. if b then Some (granule c.args.unit (Row c.args.anchor)) else None) past)
