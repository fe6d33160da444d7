use Rattle.std.proofs.Common.{◌∙◌, sym, subst}
use Rattle.atomic_table.specs.Seated.{TableId}
use Rattle.bf_bits.specs.Positions.{IsWithin}
use Rattle.bf_bits.proofs.Counting.{within-both}
use Rattle.bf_bits.proofs.Joining.{joins}
use Rattle.bf_bits.proofs.Told.{kept_seat, same_table}
use Rattle.bf_bits.proofs.bits.Bits.join_back.Goals as goal

pub join_seat-requires : goal.join_seat-requires
join_seat-requires c = (
  same_table _ _ _ _ _ _ c.seat.view_is c.self.view_is c.requires.own,
  same_table _ _ _ _ _ _ c.other.view_is c.self.view_is c.requires.other,
  c.other.invariant.no_slots,
  c.self.invariant.some,
  joins _ _ _ _ _ _,
)

pub invariant_of-seat : goal.invariant_of-seat
invariant_of-seat c =
    let seat = c.seat.inside.seat in
    let other = c.other.inside.seat in
    let e = c.join_seat.ensures in
    let own = same_table _ _ _ _ _ _ c.seat.view_is c.self.view_is c.requires.own in
    let others = same_table _ _ _ _ _ _ c.other.view_is c.self.view_is c.requires.other in
    let here : IsWithin seat.table_id.words other.me.0.held = subst (λ (t : TableId). IsWithin t.words other.me.0.held) (others ∙ sym own) c.other.invariant.within in
    kept_seat seat.table_id c.join_seat.new.seat.table_id seat.me c.join_seat.new.seat.me _ e.0 e.2 c.seat.invariant.no_slots (within-both seat.table_id.words seat.me.0.held other.me.0.held c.seat.invariant.within here)
