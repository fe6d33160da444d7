use Rattle.std.proofs.Common.{◌≡◌, map, take}
use Rattle.bf_store.proofs.moved.receipts.Given as goal

-- what is told of the granules so far
abbrev pub invariant-loop-granule : goal.invariant-loop-granule
invariant-loop-granule l = l.told.items ≡ map (λ g. record { migration = l.migration; granule = g; number = l.number }) (take l.granule-index l.granules)
