use Rattle.std.proofs.Common.{arith}
use Rattle.bf_phrase.specs.Conditions.{CountedCond}
use Rattle.bf_phrase.proofs.Connections.{conjunction_as, negations_can, negations_passed, and_deep, and_end, and_stop, and_more, disjunction_as, conjunctions_can, conjunctions_passed, or_deep, or_end, or_stop, or_more}
use Rattle.bf_phrase.proofs.Negations.{not_deep, not_stop, not_read, group_deep, group_stop, group_open, group_read, test_first}
use Rattle.bf_phrase.proofs.Moves.{exit, told, then_go, then_stop}
use Rattle.bf_phrase.proofs.Places.{length-words}
use Rattle.bf_phrase.proofs.condition.+condition.Goals as goal

-- ---- negation

pub negation-returns-in_err-next-in-Some-clause-fits : goal.negation-returns-in_err-next-in-Some-clause-fits
negation-returns-in_err-next-in-Some-clause-fits t c =
    exit _ c.from_residual.result _ c.from_residual.ensures.1
    (told _ _ c.in_err-next-in-Some.ensures.fault (not_deep _ (length-words c.args.cursor.text.now c.args.cursor.tokens.now) c.in_err-next-in-Some.ensures.deep c.in-Some.ensures.found))

pub negation-returns-in_err-inner-in-Some-clause-fits : goal.negation-returns-in_err-inner-in-Some-clause-fits
negation-returns-in_err-inner-in-Some-clause-fits t c =
    exit _ c.from_residual-in_err-inner-in-Some.result _ c.from_residual-in_err-inner-in-Some.ensures.1
    (not_stop _ c.in_ok-next-in-Some.ensures.one_more c.in_ok-next-in-Some.ensures.shallow c.in-Some.ensures.found c.in_err-inner-in-Some.ensures.fits)

pub negation-returns-in_ok-cond-in-Some-clause-fits : goal.negation-returns-in_ok-cond-in-Some-clause-fits
negation-returns-in_ok-cond-in-Some-clause-fits t c =
    not_read c.in_ok-next-in-Some.ensures.one_more c.in_ok-next-in-Some.ensures.shallow c.in-Some.ensures.found c.in_ok-inner-in-Some.ensures.fits c.in_ok-cond-in-Some.ensures.value

pub negation-returns-in_err-next-in-Some-sign-clause-fits : goal.negation-returns-in_err-next-in-Some-sign-clause-fits
negation-returns-in_err-next-in-Some-sign-clause-fits t c =
    exit _ c.from_residual-in_err-next-in-Some-sign.result _ c.from_residual-in_err-next-in-Some-sign.ensures.1
    (told _ _ c.in_err-next-in-Some-sign.ensures.fault
    (group_deep _ (length-words c.args.cursor.text.now c.args.cursor.tokens.now) c.in_err-next-in-Some-sign.ensures.deep c.in-None.ensures.found c.in-Some-sign.ensures.found))

pub negation-returns-in_err-inner-in-Some-sign-clause-fits : goal.negation-returns-in_err-inner-in-Some-sign-clause-fits
negation-returns-in_err-inner-in-Some-sign-clause-fits t c =
    exit _ c.from_residual-in_err-inner-in-Some-sign.result _ c.from_residual-in_err-inner-in-Some-sign.ensures.1
    (group_stop _ c.in_ok-next-in-Some-sign.ensures.one_more c.in_ok-next-in-Some-sign.ensures.shallow c.in-None.ensures.found c.in-Some-sign.ensures.found c.in_err-inner-in-Some-sign.ensures.fits)

pub negation-returns-in_err-rest-in-Some-sign-clause-fits : goal.negation-returns-in_err-rest-in-Some-sign-clause-fits
negation-returns-in_err-rest-in-Some-sign-clause-fits t c =
    exit _ c.from_residual-in_err-rest-in-Some-sign.result _ c.from_residual-in_err-rest-in-Some-sign.ensures.1
    (group_open c.in_ok-next-in-Some-sign.ensures.one_more c.in_ok-next-in-Some-sign.ensures.shallow c.in-None.ensures.found c.in-Some-sign.ensures.found c.in_ok-inner-in-Some-sign.ensures.fits c.in_err-rest-in-Some-sign.ensures.found)

pub negation-returns-in_ok-rest-in-Some-sign-clause-fits : goal.negation-returns-in_ok-rest-in-Some-sign-clause-fits
negation-returns-in_ok-rest-in-Some-sign-clause-fits t c =
    group_read c.in_ok-next-in-Some-sign.ensures.one_more c.in_ok-next-in-Some-sign.ensures.shallow c.in-None.ensures.found c.in-Some-sign.ensures.found c.in_ok-inner-in-Some-sign.ensures.fits c.in_ok-rest-in-Some-sign.ensures.found

pub negation-returns-in-None-sign-clause-fits : goal.negation-returns-in-None-sign-clause-fits
negation-returns-in-None-sign-clause-fits t c = test_first c.in-None.ensures.found c.in-None-sign.ensures.found c.test.ensures.fits

-- ---- conjunction

pub conjunction-returns-in_err-first-clause-fits : goal.conjunction-returns-in_err-first-clause-fits
conjunction-returns-in_err-first-clause-fits t c =
    exit _ c.from_residual.result _ c.from_residual.ensures.1 (conjunction_as (then_stop _ (negations_passed {f = λ (b : CountedCond). b}) (λ a. negations_can) c.in_err-first.ensures.fits))

pub conjunction-loop-behind-init : goal.conjunction-loop-behind-init
conjunction-loop-behind-init t c = record {
  place = c.in_ok-first.ensures.place;
  shorter = c.in_ok-first.ensures.shorter;
  fits = λ r f. conjunction_as (then_go (negations_passed {f = λ (b : CountedCond). b}) c.in_ok-first.ensures.fits f);
}

pub conjunction-returns-clause-fits : goal.conjunction-returns-clause-fits
conjunction-returns-clause-fits t c = c.loop-behind.invariant.fits _ (and_end c.in_default.ensures.found)

pub conjunction-returns-in_err-next-clause-fits : goal.conjunction-returns-in_err-next-clause-fits
conjunction-returns-in_err-next-clause-fits t c =
    exit _ c.from_residual-in_err-next.result _ c.from_residual-in_err-next.ensures.1
    (told _ _ c.in_err-next.ensures.fault (c.loop-behind.invariant.fits _ (and_deep _ (length-words c.loop-behind.rest.text.now c.loop-behind.rest.tokens.now) c.in_err-next.ensures.deep c.in-Some.ensures.found)))

pub conjunction-returns-in_err-right-clause-fits : goal.conjunction-returns-in_err-right-clause-fits
conjunction-returns-in_err-right-clause-fits t c =
    exit _ c.from_residual-in_err-right.result _ c.from_residual-in_err-right.ensures.1
    (c.loop-behind.invariant.fits _ (and_stop _ c.in_ok-next.ensures.one_more c.in_ok-next.ensures.shallow c.in-Some.ensures.found c.in_err-right.ensures.fits))

pub conjunction-loop-behind-preserved : goal.conjunction-loop-behind-preserved
conjunction-loop-behind-preserved t c = record {
  place = c.in_ok-right.ensures.place;
  shorter = omega (arith, c.in-Some.ensures.shorter, c.in_ok-right.ensures.shorter, c.loop-behind.invariant.shorter);
  fits = λ r f. c.loop-behind.invariant.fits r (and_more c.in_ok-next.ensures.one_more c.in_ok-next.ensures.shallow c.in-Some.ensures.found c.in_ok-right.ensures.fits c.in_ok-total.ensures.value f);
}

-- ---- disjunction

pub condition-returns-in_err-first-clause-fits : goal.condition-returns-in_err-first-clause-fits
condition-returns-in_err-first-clause-fits t c =
    exit _ c.from_residual.result _ c.from_residual.ensures.1 (disjunction_as (then_stop _ (conjunctions_passed {f = λ (b : CountedCond). b}) (λ a. conjunctions_can) c.in_err-first.ensures.fits))

pub condition-loop-behind-init : goal.condition-loop-behind-init
condition-loop-behind-init t c = record {
  place = c.in_ok-first.ensures.place;
  shorter = c.in_ok-first.ensures.shorter;
  fits = λ r f. disjunction_as (then_go (conjunctions_passed {f = λ (b : CountedCond). b}) c.in_ok-first.ensures.fits f);
}

pub condition-returns-clause-fits : goal.condition-returns-clause-fits
condition-returns-clause-fits t c = c.loop-behind.invariant.fits _ (or_end c.in_default.ensures.found)

pub condition-returns-in_err-next-clause-fits : goal.condition-returns-in_err-next-clause-fits
condition-returns-in_err-next-clause-fits t c =
    exit _ c.from_residual-in_err-next.result _ c.from_residual-in_err-next.ensures.1
    (told _ _ c.in_err-next.ensures.fault (c.loop-behind.invariant.fits _ (or_deep _ (length-words c.loop-behind.rest.text.now c.loop-behind.rest.tokens.now) c.in_err-next.ensures.deep c.in-Some.ensures.found)))

pub condition-returns-in_err-right-clause-fits : goal.condition-returns-in_err-right-clause-fits
condition-returns-in_err-right-clause-fits t c =
    exit _ c.from_residual-in_err-right.result _ c.from_residual-in_err-right.ensures.1
    (c.loop-behind.invariant.fits _ (or_stop _ c.in_ok-next.ensures.one_more c.in_ok-next.ensures.shallow c.in-Some.ensures.found c.in_err-right.ensures.fits))

pub condition-loop-behind-preserved : goal.condition-loop-behind-preserved
condition-loop-behind-preserved t c = record {
  place = c.in_ok-right.ensures.place;
  shorter = omega (arith, c.in-Some.ensures.shorter, c.in_ok-right.ensures.shorter, c.loop-behind.invariant.shorter);
  fits = λ r f. c.loop-behind.invariant.fits r (or_more c.in_ok-next.ensures.one_more c.in_ok-next.ensures.shallow c.in-Some.ensures.found c.in_ok-right.ensures.fits c.in_ok-total.ensures.value f);
}
