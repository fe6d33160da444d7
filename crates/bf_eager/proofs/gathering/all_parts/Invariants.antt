use Rattle.std.proofs.Common.{◌≡◌, take}
use Rattle.std.specs.List.{enumerate_from}
use Rattle.bf_eager.specs.Gathering.{gathered_of, named}
use Rattle.bf_image.specs.Migrations.{units_in}
use Rattle.bf_eager.proofs.gathering.all_parts.Given as goal

-- the rows of the units so far
abbrev pub invariant-loop-unit : goal.invariant-loop-unit
invariant-loop-unit l = named l.migration l.rows.items ≡ gathered_of l.migration (take l.unit (enumerate_from 0 (units_in l.migration)))
