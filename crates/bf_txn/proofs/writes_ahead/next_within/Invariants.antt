use Rattle.std.proofs.Common.{◌≡◌, filter}
use Rattle.bf_heap.specs.KeyRanges.{is_within}
use Rattle.bf_txn.specs.Writes.{AreKeyWrites}
use Rattle.bf_txn.proofs.writes_ahead.next_within.Given as goal

-- no key in the range is passed
abbrev pub invariant-loop-key : goal.invariant-loop-key
invariant-loop-key l = record {
  within : filter (λ write. is_within l.range write.0) l.later ≡ filter (λ write. is_within l.range write.0) l.fn.later;
  sorted : AreKeyWrites l.later;
}
