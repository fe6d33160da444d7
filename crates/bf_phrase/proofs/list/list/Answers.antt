use Rattle.std.proofs.Common.{◌∷◌, ◌++◌, List, [], arith, ap, ◌∙◌}
use Rattle.bf_phrase.proofs.Moves.{exit, others_end}
use Rattle.bf_phrase.proofs.Parts.{list_stop, list_first, list_full, list_part_stop, list_next}
use Rattle.bf_phrase.proofs.list.list.Goals as goal

pub returns-in_err-first-clause-fits : goal.returns-in_err-first-clause-fits
returns-in_err-first-clause-fits g c = exit _ c.from_residual.result _ c.from_residual.ensures.1 (list_stop _ c.requires.part c.in_err-first.ensures.fits)

pub loop-behind-init : goal.loop-behind-init
loop-behind-init g c = record {
  place = c.in_ok-first.ensures.place;
  shorter = c.in_ok-first.ensures.shorter;
  fits = λ r f. list_first c.requires.part c.in_ok-first.ensures.fits (c.in_ok-push.ensures.items ∙ ap (λ (z : List _). z ++ c.in_ok-first.first ∷ []) c.new-parts.ensures.items) f;
}

pub returns-in_err-room-clause-fits : goal.returns-in_err-room-clause-fits
returns-in_err-room-clause-fits g c =
    exit _ c.from_residual-in_err-room.result _ c.from_residual-in_err-room.ensures.1
    (c.loop-behind.invariant.fits _ (list_full c.in-Some.behind _ _ c.requires.part c.in-Some.ensures.place c.in-Some.ensures.found c.begins_at.ensures (omega (arith, c.len.ensures, c.loop-behind.parts.ok, c.in_err-room.ensures.full)) c.in_err-room.ensures.fault))

pub returns-in_err-part-clause-fits : goal.returns-in_err-part-clause-fits
returns-in_err-part-clause-fits g c =
    exit _ c.from_residual-in_err-part.result _ c.from_residual-in_err-part.ensures.1
    (c.loop-behind.invariant.fits _ (list_part_stop _ c.requires.part (omega (arith, c.len.ensures, c.loop-behind.parts.ok, c.in_ok-room.ensures.room)) c.in-Some.ensures.found c.in_err-part.ensures.fits))

pub loop-behind-preserved : goal.loop-behind-preserved
loop-behind-preserved g c = record {
  place = c.in_ok-part.ensures.place;
  shorter = omega (arith, c.in-Some.ensures.shorter, c.in_ok-part.ensures.shorter, c.loop-behind.invariant.shorter);
  fits = λ r f. c.loop-behind.invariant.fits r (list_next c.loop-behind.parts.items c.requires.part (omega (arith, c.len.ensures, c.loop-behind.parts.ok, c.in_ok-room.ensures.room)) c.in-Some.ensures.found c.in_ok-part.ensures.fits c.in_ok-push-2.ensures.items f);
}

pub returns-clause-fits : goal.returns-clause-fits
returns-clause-fits g c = c.loop-behind.invariant.fits _ (others_end c.in_default.ensures.found)
