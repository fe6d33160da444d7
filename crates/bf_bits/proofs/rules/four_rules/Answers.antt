use Rattle.std.proofs.Common.{◌/◌}
use Rattle.std.specs.Prelude.{slice_index}
use Rattle.std.proofs.lemmas.Nat.Bits.{bit_at-lt}
use Rattle.bf_bits.specs.Words.{lock_place}
use Rattle.bf_bits.proofs.Ends.{four}
use Rattle.bf_bits.proofs.rules.four_rules.Goals as goal

pub returns : goal.returns
returns c words granules s tracks p = four _ _ _ _ (tracks.1 p) (bit_at-lt (slice_index s.words (p / 32)) (lock_place p))
