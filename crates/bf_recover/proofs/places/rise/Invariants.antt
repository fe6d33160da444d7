use Rattle.std.proofs.Common.{◌≡◌, length}
use Rattle.bf_base.specs.Lists.{rises}
use Rattle.bf_store.specs.States.{place_cmp}
use Rattle.bf_recover.proofs.places.rise.Given as goal

-- those ahead rise exactly where all do
abbrev pub invariant-loop-ahead : goal.invariant-loop-ahead
invariant-loop-ahead l = rises place_cmp l.ahead ≡ rises place_cmp l.places

abbrev pub decreases-loop-ahead : goal.decreases-loop-ahead
decreases-loop-ahead l = length l.ahead
