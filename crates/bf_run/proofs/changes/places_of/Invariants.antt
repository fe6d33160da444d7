use Rattle.std.proofs.Common.{◌≡◌, take}
use Rattle.bf_run.specs.Records.{places_of}
use Rattle.bf_run.proofs.changes.places_of.Given as goal

-- the places of the granules so far
abbrev pub invariant-loop-granule : goal.invariant-loop-granule
invariant-loop-granule l = l.places.items ≡ places_of (take l.granule-index l.granules)
