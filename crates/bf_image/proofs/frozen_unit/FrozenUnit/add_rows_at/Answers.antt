use Rattle.std.proofs.Common.{Option, Bor, sym, subst}
use Rattle.std.specs.Prelude.{option_map}
use Rattle.bf_image.specs.FrozenUnits.{GoesByRows, IsDriven}
use Rattle.bf_image.specs.declared.migration.Frozen.{Frozen}
use Rattle.bf_image.proofs.parting.UnitTables.{part_of_none}
use Rattle.bf_image.proofs.frozen_unit.FrozenUnit.add_rows_at.Goals as goal

-- past the table's rows there is nothing
pub returns-in-None : goal.returns-in-None
returns-in-None c =
    let unit = c.args.self.now in
    let m = unit.migration.now in
    let goes : GoesByRows m unit.number c.in-Some.driver.now unit.arms.items =
    subst (λ (o : Option (Bor Frozen)). IsDriven m unit.number (option_map (λ d. d.now) o) unit.arms.items) c.in-Some.is c.requires.driven in
    part_of_none m unit.number unit.arms.items c.in-Some.driver.now goes c.requires.lawful c.args.position (sym c.in-None.ensures) c.args.rows.now.items
