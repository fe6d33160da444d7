use Rattle.std.proofs.Common.{◌≡◌, ℕ, false, Some, take}
use Rattle.std.specs.Prelude.{slice_get}
use Rattle.std.specs.List.{list_any}
use Rattle.bf_sql.specs.Database.{table_rows}
use Rattle.bf_image.specs.Migrations.{old_of}
use Rattle.bf_image.proofs.giving.DriverRows.{gives_by}
use Rattle.bf_image.proofs.parting.UnitTables.{HasDriver}
use Rattle.bf_image.proofs.frozen_unit.FrozenUnit.gives_of_row.Given as goal

-- no arm so far makes such a row
abbrev pub invariant-loop-arm : goal.invariant-loop-arm
invariant-loop-arm l = (has : HasDriver l.self) (at : ℕ) → slice_get (table_rows (old_of l.self.migration.now) has.goes.planned.driver) at ≡ Some l.row
    → list_any (gives_by l.self.migration.now has.goes.planned.driver l.target at) (take l.arm-index has.goes.planned.arms) ≡ false
