use Rattle.std.proofs.Common.{◌≡◌, ◌≤◌, vec_len}
use Rattle.std.specs.Prelude.{vec_capacity}
use Rattle.std.specs.Mem.Slots.{slots_items}
use Rattle.bf_bits.proofs.Gathering.{RisesBetween, AreGathered}
use Rattle.bf_bits.proofs.words.gather.Given as goal

abbrev pub invariant-loop-at : goal.invariant-loop-at
invariant-loop-at l =
    record {
      room : (vec_len l.done ≤ l.at) × (vec_capacity l.done ≡ vec_capacity l.initial.done);
      rises : RisesBetween 0 l.at l.done.items;
      gathered : AreGathered (slots_items l.closed.words) l.at l.done.items;
    }
