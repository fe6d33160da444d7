use Rattle.std.proofs.Common.{Bor, sym, ap, ◌∙◌, subst}
use Rattle.std.specs.Prelude.{option_map, slice_get}
use Rattle.std.specs.Option.{option_and_then}
use Rattle.std.proofs.lemmas.Result.{IfOk-weaker}
use Rattle.bf_heap.specs.Heaps.{Entry}
use Rattle.bf_image.specs.FrozenUnits.{IsDriven}
use Rattle.bf_image.specs.Giving.{has_row_of}
use Rattle.bf_image.specs.declared.migration.Frozen.{Frozen}
use Rattle.bf_image.proofs.parting.UnitTables.{HasDriver}
use Rattle.bf_image.proofs.giving.FrozenRows.{gives_past}
use Rattle.bf_image.proofs.frozen_unit.FrozenUnit.gives_at.Goals as goal

-- the unit has nothing at any position
pub returns-in_default : goal.returns-in_default
returns-in_default c =
    let unit = c.args.self.now in
    let m = unit.migration.now in
    let none = subst (λ o. IsDriven m unit.number (option_map (λ (d : Bor Frozen). d.now) o) unit.arms.items) c.in_default.is c.requires.unit.driven in
    sym (ap (has_row_of m c.args.target) (none c.args.position))

pub returns-in-Some-at : goal.returns-in-Some-at
returns-in-Some-at c =
    let here = ap (option_and_then (λ (d : Bor Frozen). option_map (λ (e : Entry). e.1) (slice_get d.now.rows c.args.position))) c.in-Some.is
    ∙ ap (option_map (λ (e : Entry). e.1)) (sym c.in-Some-at.ensures) in
    IfOk-weaker c.gives_of_row.result _ _ (λ gives is. is c.args.position here) c.gives_of_row.ensures

pub returns-in-None : goal.returns-in-None
returns-in-None c =
    let unit = c.args.self.now in
    let goes = subst (λ o. IsDriven unit.migration.now unit.number (option_map (λ (d : Bor Frozen). d.now) o) unit.arms.items) c.in-Some.is c.requires.unit.driven in
    let has : HasDriver unit = record { driver = c.in-Some.driver; held = c.in-Some.is; goes = goes } in
    gives_past unit c.requires.unit has c.args.position c.args.target (sym c.in-None.ensures)
