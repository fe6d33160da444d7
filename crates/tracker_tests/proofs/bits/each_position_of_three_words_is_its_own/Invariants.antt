use Rattle.std.proofs.Common.{◌≡◌}
use Rattle.tracker_tests.proofs.bits.each_position_of_three_words_is_its_own.Given as goal

abbrev pub invariant-loop-at : goal.invariant-loop-at
invariant-loop-at g l = (l.seat.table ≡ l.bits.table) × (l.bits.granules ≡ 96)
