use Rattle.std.proofs.Common.{◌∷◌, ◌++◌, List, [], arith, ap, ◌∙◌}
use Rattle.bf_phrase.proofs.Moves.{exit}
use Rattle.bf_parse.proofs.Tuples.{several_stop, several_first, further_stop, further_next, further_end}
use Rattle.bf_parse.proofs.statement.tuples.Goals as goal

pub returns-in_err-first-clause-fits : goal.returns-in_err-first-clause-fits
returns-in_err-first-clause-fits c = exit _ c.from_residual.result _ c.from_residual.ensures.1 (several_stop _ c.in_err-first.ensures.fits)

pub loop-behind-init : goal.loop-behind-init
loop-behind-init c = record {
  place = c.in_ok-first.ensures.place;
  shorter = c.in_ok-first.ensures.shorter;
  fits = λ r f. several_first c.in_ok-first.ensures.fits (c.in_ok-push.ensures.items ∙ ap (λ (z : List _). z ++ c.in_ok-first.first ∷ []) c.new-tuples.ensures.items) f;
}

pub returns-in_err-next-clause-fits : goal.returns-in_err-next-clause-fits
returns-in_err-next-clause-fits c = exit _ c.from_residual-in_err-next.result _ c.from_residual-in_err-next.ensures.1 (c.loop-behind.invariant.fits _ (further_stop _ c.in-Some.ensures.found c.in_err-next.ensures.fits))

pub loop-behind-preserved : goal.loop-behind-preserved
loop-behind-preserved c = record {
  place = c.in_ok-next.ensures.place;
  shorter = omega (arith, c.in-Some.ensures.shorter, c.in_ok-next.ensures.shorter, c.loop-behind.invariant.shorter);
  fits = λ r f. c.loop-behind.invariant.fits r (further_next c.in-Some.ensures.found c.in_ok-next.ensures.fits c.in_ok-push-2.ensures.items f);
}

pub returns-clause-fits : goal.returns-clause-fits
returns-clause-fits c = c.loop-behind.invariant.fits _ (further_end c.in_default.ensures.found)
