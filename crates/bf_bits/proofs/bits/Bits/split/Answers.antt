use Rattle.bf_bits.proofs.Joining.{splits}
use Rattle.bf_bits.proofs.Told.{same_table}
use Rattle.bf_bits.proofs.bits.Bits.split.Goals as goal

pub split_seat-other-requires : goal.split_seat-other-requires
split_seat-other-requires c = (same_table _ _ _ _ _ _ c.seat.view_is c.self.view_is c.requires.own, c.self.invariant.some, splits _ _ _ _)
