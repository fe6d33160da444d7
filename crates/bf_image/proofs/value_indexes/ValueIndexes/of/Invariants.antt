use Rattle.std.proofs.Common.{◌≡◌, take}
use Rattle.bf_image.specs.Migrations.{value_indexes}
use Rattle.bf_image.proofs.value_indexes.ValueIndexes.of.Given as goal

abbrev pub invariant-loop-number : goal.invariant-loop-number
invariant-loop-number l = l.units.items ≡ take l.number (value_indexes l.migration)
