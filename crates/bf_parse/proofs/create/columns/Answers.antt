use Rattle.bf_phrase.proofs.Moves.{exit, marked_go}
use Rattle.std.proofs.Common.{◌∷◌, ◌++◌, List, [], arith, ap, ◌∙◌}
use Rattle.bf_phrase.proofs.Listings.{column_part}
use Rattle.bf_phrase.proofs.Parts.{part_full, part_low}
use Rattle.bf_parse.proofs.Tables.{columns_stop, columns_open, columns_first, choice_end, choice_stop, choice_open, choice_next}
use Rattle.bf_parse.proofs.create.columns.Goals as goal

pub returns-in_err-first-clause-fits : goal.returns-in_err-first-clause-fits
returns-in_err-first-clause-fits c = exit _ c.from_residual.result _ c.from_residual.ensures.1 (columns_stop _ c.in_err-first.ensures.fits)

pub returns-in_err-rest-clause-fits : goal.returns-in_err-rest-clause-fits
returns-in_err-rest-clause-fits c = exit _ c.from_residual-in_err-rest.result _ c.from_residual-in_err-rest.ensures.1 (columns_open c.in_ok-first.ensures.fits c.in_err-rest.ensures.found)

pub loop-behind-init : goal.loop-behind-init
loop-behind-init c = record {
  place = c.in_ok-rest.ensures.place;
  shorter = omega (arith, c.in_ok-first.ensures.shorter, c.in_ok-rest.ensures.shorter);
  fits = λ r f. columns_first c.in_ok-first.ensures.fits c.in_ok-rest.ensures.found (c.in_ok-push.ensures.items ∙ ap (λ (z : List _). z ++ c.in_ok-first.first ∷ []) c.new-columns.ensures.items) f;
}

pub returns-in-Some-clause-fits : goal.returns-in-Some-clause-fits
returns-in-Some-clause-fits c = c.loop-behind.invariant.fits _ (choice_end c.in-Some.ensures.found)

pub returns-in_err-room-in-None-clause-fits : goal.returns-in_err-room-in-None-clause-fits
returns-in_err-room-in-None-clause-fits c = exit _ c.from_residual-in_err-room-in-None.result _ c.from_residual-in_err-room-in-None.ensures.1 (c.loop-behind.invariant.fits _ (choice_stop _ c.in-None.ensures.found (part_full c.loop-behind.rest _ _ column_part c.loop-behind.invariant.place c.begins_name.ensures (omega (arith, c.len.ensures, c.loop-behind.columns.ok, c.in_err-room-in-None.ensures.full)) c.in_err-room-in-None.ensures.fault)))

pub returns-in_err-next-in-None-clause-fits : goal.returns-in_err-next-in-None-clause-fits
returns-in_err-next-in-None-clause-fits c = exit _ c.from_residual-in_err-next-in-None.result _ c.from_residual-in_err-next-in-None.ensures.1 (c.loop-behind.invariant.fits _ (choice_stop _ c.in-None.ensures.found (marked_go (part_low _ (omega (arith, c.len.ensures, c.loop-behind.columns.ok, c.in_ok-room-in-None.ensures.room))) c.in_err-next-in-None.ensures.fits)))

pub returns-in_err-rest-in-None-clause-fits : goal.returns-in_err-rest-in-None-clause-fits
returns-in_err-rest-in-None-clause-fits c = exit _ c.from_residual-in_err-rest-in-None.result _ c.from_residual-in_err-rest-in-None.ensures.1 (c.loop-behind.invariant.fits _ (choice_open c.in-None.ensures.found (marked_go (part_low _ (omega (arith, c.len.ensures, c.loop-behind.columns.ok, c.in_ok-room-in-None.ensures.room))) c.in_ok-next-in-None.ensures.fits) c.in_err-rest-in-None.ensures.found))

pub loop-behind-preserved : goal.loop-behind-preserved
loop-behind-preserved c = record {
  place = c.in_ok-rest-in-None.ensures.place;
  shorter = omega (arith, c.in_ok-next-in-None.ensures.shorter, c.in_ok-rest-in-None.ensures.shorter, c.loop-behind.invariant.shorter);
  fits = λ r f. c.loop-behind.invariant.fits r (choice_next c.loop-behind.columns.items (omega (arith, c.len.ensures, c.loop-behind.columns.ok, c.in_ok-room-in-None.ensures.room)) c.in-None.ensures.found c.in_ok-next-in-None.ensures.fits c.in_ok-rest-in-None.ensures.found c.in_ok-push-in-None.ensures.items f);
}
