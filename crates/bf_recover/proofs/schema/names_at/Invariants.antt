use Rattle.std.proofs.Common.{◌≡◌, take}
use Rattle.bf_recover.specs.Spoken.{names_at}
use Rattle.bf_recover.proofs.schema.names_at.Given as goal

abbrev pub invariant-loop-place : goal.invariant-loop-place
invariant-loop-place l = l.names.items ≡ names_at l.fn.table (take l.place-index l.places)
