use Rattle.std.proofs.Common.{◌≡◌, ◌≤◌, false, List, Option, Some, length, slice_get, unwrap_or, refl, sym, ap, ◌∙◌, eqb, arith}
use Rattle.std.specs.List.{list_any}
use Rattle.std.specs.Option.{option_map}
use Rattle.std.proofs.lemmas.Option.{slice_get_past, slice_get_read}
use Rattle.bf_tree.specs.declared.plan.Unit.{Unit as Planned}
use Rattle.bf_transpose.proofs.scan.has_arm.Goals as goal

pub returns-in-Some : goal.returns-in-Some
returns-in-Some c =
    let units = c.args.migration.now.plan.units in
    let planned = c.in-Some.planned.now in
    let at : slice_get units c.args.unit ≡ Some planned = ap (λ us. slice_get us c.args.unit) (sym c.as_slice.ensures) ∙ slice_get_read c.as_slice.result.now _ c.args.unit _ refl c.in-Some.ensures.lookup.3.0 c.in-Some.ensures.lookup.1 in
    c.is_of.ensures ∙ ap (λ (o : Option Planned). unwrap_or (option_map (λ (u : Planned). list_any (λ arm. eqb arm.0 c.args.target) u.arms) o) false) (sym at)

pub returns-in-None : goal.returns-in-None
returns-in-None c =
    let units = c.args.migration.now.plan.units in
    let past : length units ≤ c.args.unit = omega (arith, c.in-None.ensures.lookup.3, ap (λ (us : List Planned). length us) c.as_slice.ensures) in
    ap (λ (o : Option Planned). unwrap_or (option_map (λ (u : Planned). list_any (λ arm. eqb arm.0 c.args.target) u.arms) o) false) (sym (slice_get_past units c.args.unit past))
