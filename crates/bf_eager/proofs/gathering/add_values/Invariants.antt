use Rattle.std.proofs.Common.{◌≡◌, ◌++◌, take}
use Rattle.bf_eager.specs.Gathering.{named, parts_at, places_of_values}
use Rattle.bf_eager.proofs.gathering.add_values.Given as goal

-- the rows of the values so far
abbrev pub invariant-loop-at : goal.invariant-loop-at
invariant-loop-at l = named l.migration l.rows.items ≡ named l.migration l.fn.rows.items ++ parts_at l.migration l.unit (places_of_values (take l.at l.values))
