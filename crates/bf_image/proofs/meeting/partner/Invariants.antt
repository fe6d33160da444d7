use Rattle.std.proofs.Common.{◌≡◌, drop}
use Rattle.bf_image.proofs.parting.Partners.{placed_partner}
use Rattle.bf_image.proofs.meeting.partner.Given as goal

-- none of the pairs so far names the place
abbrev pub invariant-loop-left : goal.invariant-loop-left
invariant-loop-left l = placed_partner l.on l.place ≡ placed_partner (drop l.left-index l.on) l.place
