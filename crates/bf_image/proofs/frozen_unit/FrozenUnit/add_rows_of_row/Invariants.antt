use Rattle.std.proofs.Common.{◌≡◌, ℕ, Some, take}
use Rattle.std.specs.Prelude.{slice_get}
use Rattle.std.specs.List.{flat_map}
use Rattle.bf_sql.specs.Database.{table_rows}
use Rattle.bf_image.specs.FrozenUnits.{GoesByRows}
use Rattle.bf_image.specs.Migrations.{AreBehind, old_of}
use Rattle.bf_image.specs.declared.migration.Frozen.{Frozen}
use Rattle.bf_image.proofs.planning.Driven.{rows_by_numbers}
use Rattle.bf_image.proofs.frozen_unit.FrozenUnit.add_rows_of_row.Given as goal

-- the rows of the arms so far stand behind the others
abbrev pub invariant-loop-arm : goal.invariant-loop-arm
invariant-loop-arm l = (driver : Frozen) (goes : GoesByRows l.self.migration.now l.self.number driver l.self.arms.items) (at : ℕ)
    → slice_get (table_rows (old_of l.self.migration.now) goes.planned.driver) at ≡ Some l.row
    → AreBehind l.self.migration.now
    (flat_map (rows_by_numbers (old_of l.self.migration.now) l.self.migration.now.plan.migrate goes.planned.driver at) (take l.arm-index goes.planned.arms))
    l.initial.rows.items l.rows.items
