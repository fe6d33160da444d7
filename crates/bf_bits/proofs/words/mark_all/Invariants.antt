use Rattle.std.proofs.Common.{take}
use Rattle.bf_bits.specs.Words.{AreMarked}
use Rattle.bf_bits.proofs.words.mark_all.Given as goal

abbrev pub invariant-loop-at : goal.invariant-loop-at
invariant-loop-at l = AreMarked l.words (take l.at-index l.done)
