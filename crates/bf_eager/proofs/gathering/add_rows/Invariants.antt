use Rattle.std.proofs.Common.{◌≡◌, ◌++◌}
use Rattle.bf_eager.specs.Gathering.{named, parts_at, places_of_rows}
use Rattle.bf_eager.proofs.gathering.add_rows.Given as goal

-- the rows of the positions so far
abbrev pub invariant-loop-position : goal.invariant-loop-position
invariant-loop-position l = named l.migration l.rows.items ≡ named l.migration l.fn.rows.items ++ parts_at l.migration l.unit (places_of_rows l.position)
