use Rattle.std.proofs.Common.{◌∷◌, ◌++◌, List, [], ap, ◌∙◌, arith}
use Rattle.bf_tree.specs.declared.migration.Arm.{Arm}
use Rattle.bf_phrase.specs.declared.error.ReadStop.TheVariants.{Memory}
use Rattle.bf_parse.proofs.ArmParts.{arms_end, arms_first, arms_next, arms_next_stop, arms_open, arms_stop}
use Rattle.bf_phrase.proofs.Moves.{exit}
use Rattle.bf_parse.proofs.arm.arms.Goals as goal

pub returns-in_err-first-clause-fits : goal.returns-in_err-first-clause-fits
returns-in_err-first-clause-fits c = exit _ c.from_residual.result _ c.from_residual.ensures.1 (arms_stop _ c.in_err-first.ensures.fits)

pub returns-in_err-push-clause-fits : goal.returns-in_err-push-clause-fits
returns-in_err-push-clause-fits c = exit _ c.from_residual-in_err-push.result Memory c.from_residual-in_err-push.ensures.1 (record { it = tt })

pub arms-init : goal.arms-init
arms-init c = record {
  place = c.in_ok-first.ensures.place;
  shorter = c.in_ok-first.ensures.shorter;
  fits = λ r f. arms_first c.in_ok-first.ensures.fits (c.in_ok-push.ensures.items ∙ ap (λ (z : List Arm). z ++ c.in_ok-first.first ∷ []) c.new-found.ensures.items) f;
}

pub returns-in_err-behind-clause-fits : goal.returns-in_err-behind-clause-fits
returns-in_err-behind-clause-fits c =
    exit _ c.from_residual-in_err-behind.result _ c.from_residual-in_err-behind.ensures.1 (c.arms.invariant.fits _ (arms_open c.in-Some.ensures.found c.in_err-behind.ensures.found))

pub returns-in_err-next-clause-fits : goal.returns-in_err-next-clause-fits
returns-in_err-next-clause-fits c =
    exit _ c.from_residual-in_err-next.result _ c.from_residual-in_err-next.ensures.1
    (c.arms.invariant.fits _ (arms_next_stop _ c.in-Some.ensures.found c.in_ok-behind.ensures.found c.in_err-next.ensures.fits))

pub returns-in_err-push-2-clause-fits : goal.returns-in_err-push-2-clause-fits
returns-in_err-push-2-clause-fits c = exit _ c.from_residual-in_err-push-2.result Memory c.from_residual-in_err-push-2.ensures.1 (record { it = tt })

pub arms-preserved : goal.arms-preserved
arms-preserved c = record {
  place = c.in_ok-next.ensures.place;
  shorter = omega (arith, c.in-Some.ensures.shorter, c.in_ok-behind.ensures.shorter, c.in_ok-next.ensures.shorter, c.arms.invariant.shorter);
  fits = λ r f. c.arms.invariant.fits r (arms_next c.arms.found.items c.in-Some.ensures.found c.in_ok-behind.ensures.found c.in_ok-next.ensures.fits c.in_ok-push-2.ensures.items f);
}

pub arms-smaller : goal.arms-smaller
arms-smaller c = omega (arith, c.in-Some.ensures.shorter, c.in_ok-behind.ensures.shorter, c.in_ok-next.ensures.shorter)

pub returns-clause-fits : goal.returns-clause-fits
returns-clause-fits c = c.arms.invariant.fits _ (arms_end c.in_default.ensures.found)

pub returns-clause-place : goal.returns-clause-place
returns-clause-place c = c.arms.invariant.place

pub returns-clause-shorter : goal.returns-clause-shorter
returns-clause-shorter c = c.arms.invariant.shorter
