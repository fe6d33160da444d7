-- The arm that the one pair of numbers of a unit of joins names.
use Rattle.std.proofs.Common.{◌≡◌, ℕ, List, Some, inr, option_map, refl, sym, ap, ◌∙◌}
use Rattle.std.specs.Prelude.{slice_get, slice_index_or}
use Rattle.std.proofs.lemmas.Option.{same_Some, slice_get_read}
use Rattle.bf_tree.specs.declared.plan.Unit.{Unit as Planned}
use Rattle.bf_sql.specs.migrations.Placed.{placed_arm}
use Rattle.bf_image.specs.BoundArms.{arm_at}
use Rattle.bf_image.specs.Migrations.{old_of, unit_at}
use Rattle.bf_image.specs.PlannedUnits.{arm_named, form_by, target_named, unit_form, values_form}
use Rattle.bf_image.proofs.planning.Units.{arm_at_named, by_values, unit_at_number}
use Rattle.bf_transpose.proofs.joined.arm_of_joins.Goals as goal

pub returns-in_ok-arm-in-Joins : goal.returns-in_ok-arm-in-Joins
returns-in_ok-arm-in-Joins c =
    let m = c.args.migration.now in
    let q = m.plan.migrate in
    let unit = c.args.unit in
    let planned = c.in_ok-planned.planned.now in
    let arm = c.in_ok-arm-in-Joins.arm.now in
    let here : slice_get m.plan.units unit ≡ Some planned =
    ap (λ us. slice_get us unit) (sym c.as_slice.ensures) ∙ slice_get_read c.as_slice.result.now _ unit _ refl c.in_ok-planned.ensures.lookup.3.0 c.in_ok-planned.ensures.lookup.1 in
    let only = by_values m c.requires.lawful unit planned here (inr c.in-Joins.is) in
    let pair : ℕ × ℕ = c.in_ok-target-in-Joins.field-0.now in
    let first : slice_get planned.arms 0 ≡ Some pair = ap (λ ps. slice_get ps 0) (sym c.as_slice-in-Joins.ensures) ∙ sym c.in_ok-target-in-Joins.ensures.value in
    let same : pair ≡ only.pair = same_Some pair only.pair (sym first ∙ ap (λ ps. slice_get ps 0) only.one) in
    let there : arm_at m pair.0 pair.1 ≡ Some (arm_named q only.pair) = ap (λ (p : ℕ × ℕ). arm_at m p.0 p.1) same ∙ arm_at_named m only.pair only.named in
    let form : unit_form q planned ≡ values_form q only.pair =
    ap (λ k. form_by q k planned.driver planned.arms) c.in-Joins.is ∙ ap (λ (ps : List (ℕ × ℕ)). values_form q (slice_index_or ps 0 (0, 0))) only.one in
    record {
      target = target_named q only.pair.0;
      arm = arm_named q only.pair;
      of_unit = unit_at_number m c.requires.lawful unit ∙ (ap (option_map (unit_form q)) here ∙ ap Some form);
      is_placed = same_Some arm (placed_arm (old_of m) (arm_named q only.pair)) (c.in_ok-arm-in-Joins.ensures.placed ∙ ap (option_map (placed_arm (old_of m))) there);
    }
