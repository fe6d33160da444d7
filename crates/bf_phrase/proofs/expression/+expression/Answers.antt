use Rattle.std.proofs.Common.{arith}
use Rattle.bf_phrase.specs.Expressions.{Counted}
use Rattle.bf_phrase.proofs.Additions.{sum_as, products_passed}
use Rattle.bf_phrase.proofs.Chains.{product_as, factors_can, products_can, factors_passed, star_deep, star_end, star_stop, star_more}
use Rattle.bf_phrase.proofs.Operands.{literal_stop, literal_read, ref_stop, ref_read, opposite_deep, opposite_stop, opposite_read, parenthesis_deep, parenthesis_stop, parenthesis_open, parenthesis_read}
use Rattle.bf_phrase.proofs.SumOperators.{operator_deep, operator_stop, operator_more, operator_end}
use Rattle.bf_phrase.proofs.Moves.{exit, told, then_go, then_stop}
use Rattle.bf_phrase.proofs.Places.{length-words}
use Rattle.bf_phrase.proofs.expression.+expression.Goals as goal

pub product-returns-in_err-first-clause-fits : goal.product-returns-in_err-first-clause-fits
product-returns-in_err-first-clause-fits t c = exit _ c.from_residual.result _ c.from_residual.ensures.1 (product_as (then_stop _ (factors_passed {f = λ (b : Counted). b}) (λ a. factors_can) c.in_err-first.ensures.fits))

pub product-loop-behind-init : goal.product-loop-behind-init
product-loop-behind-init t c = record {
  place = c.in_ok-first.ensures.place;
  shorter = c.in_ok-first.ensures.shorter;
  fits = λ r f. product_as (then_go (factors_passed {f = λ (b : Counted). b}) c.in_ok-first.ensures.fits f);
}

pub product-returns-clause-fits : goal.product-returns-clause-fits
product-returns-clause-fits t c = c.loop-behind.invariant.fits _ (star_end c.in_default.ensures.found)

pub sum-returns-in_err-first-clause-fits : goal.sum-returns-in_err-first-clause-fits
sum-returns-in_err-first-clause-fits t c = exit _ c.from_residual.result _ c.from_residual.ensures.1 (sum_as (then_stop _ (products_passed {f = λ (b : Counted). b}) (λ a. products_can) c.in_err-first.ensures.fits))

pub sum-loop-by-init : goal.sum-loop-by-init
sum-loop-by-init t c = record {
  place = c.in_ok-first.ensures.place;
  shorter = c.in_ok-first.ensures.shorter;
  fits = λ r f. sum_as (then_go (products_passed {f = λ (b : Counted). b}) c.in_ok-first.ensures.fits f);
}

pub factor-returns-in_err-value-in-Literal-clause-fits : goal.factor-returns-in_err-value-in-Literal-clause-fits
factor-returns-in_err-value-in-Literal-clause-fits t c = exit _ c.from_residual.result _ c.from_residual.ensures.1 (literal_stop _ c.in-Literal.ensures.start c.in_err-value-in-Literal.ensures.fits)

pub factor-returns-in_ok-value-in-Literal-clause-fits : goal.factor-returns-in_ok-value-in-Literal-clause-fits
factor-returns-in_ok-value-in-Literal-clause-fits t c = rw c.of.ensures (literal_read c.in-Literal.ensures.start c.in_ok-value-in-Literal.ensures.fits)

pub factor-returns-in_err-next-in-Opposite-clause-fits : goal.factor-returns-in_err-next-in-Opposite-clause-fits
factor-returns-in_err-next-in-Opposite-clause-fits t c = exit _ c.from_residual-in_err-next-in-Opposite.result _ c.from_residual-in_err-next-in-Opposite.ensures.1 (told _ _ c.in_err-next-in-Opposite.ensures.fault (opposite_deep _ (length-words c.args.cursor.text.now c.args.cursor.tokens.now) c.in_err-next-in-Opposite.ensures.deep c.in-Opposite.ensures.start))

pub factor-returns-in_err-inner-in-Opposite-clause-fits : goal.factor-returns-in_err-inner-in-Opposite-clause-fits
factor-returns-in_err-inner-in-Opposite-clause-fits t c = exit _ c.from_residual-in_err-inner-in-Opposite.result _ c.from_residual-in_err-inner-in-Opposite.ensures.1 (opposite_stop _ c.in_ok-next-in-Opposite.ensures.one_more c.in_ok-next-in-Opposite.ensures.shallow c.in-Opposite.ensures.start c.in_err-inner-in-Opposite.ensures.fits)

pub factor-returns-in_err-next-in-Parenthesis-clause-fits : goal.factor-returns-in_err-next-in-Parenthesis-clause-fits
factor-returns-in_err-next-in-Parenthesis-clause-fits t c = exit _ c.from_residual-in_err-next-in-Parenthesis.result _ c.from_residual-in_err-next-in-Parenthesis.ensures.1 (told _ _ c.in_err-next-in-Parenthesis.ensures.fault (parenthesis_deep _ (length-words c.args.cursor.text.now c.args.cursor.tokens.now) c.in_err-next-in-Parenthesis.ensures.deep c.in-Parenthesis.ensures.start))

pub factor-returns-in_err-inner-in-Parenthesis-clause-fits : goal.factor-returns-in_err-inner-in-Parenthesis-clause-fits
factor-returns-in_err-inner-in-Parenthesis-clause-fits t c = exit _ c.from_residual-in_err-inner-in-Parenthesis.result _ c.from_residual-in_err-inner-in-Parenthesis.ensures.1 (parenthesis_stop _ c.in_ok-next-in-Parenthesis.ensures.one_more c.in_ok-next-in-Parenthesis.ensures.shallow c.in-Parenthesis.ensures.start c.in_err-inner-in-Parenthesis.ensures.fits)

pub factor-returns-in_ok-expr-in-Opposite-clause-fits : goal.factor-returns-in_ok-expr-in-Opposite-clause-fits
factor-returns-in_ok-expr-in-Opposite-clause-fits t c =
    opposite_read c.in_ok-next-in-Opposite.ensures.one_more c.in_ok-next-in-Opposite.ensures.shallow c.in-Opposite.ensures.start c.in_ok-inner-in-Opposite.ensures.fits c.in_ok-expr-in-Opposite.ensures.value

pub factor-returns-in_err-rest-in-Parenthesis-clause-fits : goal.factor-returns-in_err-rest-in-Parenthesis-clause-fits
factor-returns-in_err-rest-in-Parenthesis-clause-fits t c = exit _ c.from_residual-in_err-rest-in-Parenthesis.result _ c.from_residual-in_err-rest-in-Parenthesis.ensures.1 (parenthesis_open c.in_ok-next-in-Parenthesis.ensures.one_more c.in_ok-next-in-Parenthesis.ensures.shallow c.in-Parenthesis.ensures.start c.in_ok-inner-in-Parenthesis.ensures.fits c.in_err-rest-in-Parenthesis.ensures.found)

pub factor-returns-in_ok-rest-in-Parenthesis-clause-fits : goal.factor-returns-in_ok-rest-in-Parenthesis-clause-fits
factor-returns-in_ok-rest-in-Parenthesis-clause-fits t c =
    parenthesis_read c.in_ok-next-in-Parenthesis.ensures.one_more c.in_ok-next-in-Parenthesis.ensures.shallow c.in-Parenthesis.ensures.start c.in_ok-inner-in-Parenthesis.ensures.fits c.in_ok-rest-in-Parenthesis.ensures.found

pub factor-returns-in_err-column-in-Other-clause-fits : goal.factor-returns-in_err-column-in-Other-clause-fits
factor-returns-in_err-column-in-Other-clause-fits t c = exit _ c.from_residual-in_err-column-in-Other.result _ c.from_residual-in_err-column-in-Other.ensures.1 (ref_stop _ c.in-Other.ensures.start c.in_err-column-in-Other.ensures.fits)

pub factor-returns-in_ok-column-in-Other-clause-fits : goal.factor-returns-in_ok-column-in-Other-clause-fits
factor-returns-in_ok-column-in-Other-clause-fits t c = rw c.of-in-Other.ensures (ref_read c.in-Other.ensures.start c.in_ok-column-in-Other.ensures.fits)

pub product-returns-in_err-next-clause-fits : goal.product-returns-in_err-next-clause-fits
product-returns-in_err-next-clause-fits t c = exit _ c.from_residual-in_err-next.result _ c.from_residual-in_err-next.ensures.1 (told _ _ c.in_err-next.ensures.fault (c.loop-behind.invariant.fits _ (star_deep _ (length-words c.loop-behind.rest.text.now c.loop-behind.rest.tokens.now) c.in_err-next.ensures.deep c.in-Some.ensures.found)))

pub product-returns-in_err-right-clause-fits : goal.product-returns-in_err-right-clause-fits
product-returns-in_err-right-clause-fits t c = exit _ c.from_residual-in_err-right.result _ c.from_residual-in_err-right.ensures.1 (c.loop-behind.invariant.fits _ (star_stop _ c.in_ok-next.ensures.one_more c.in_ok-next.ensures.shallow c.in-Some.ensures.found c.in_err-right.ensures.fits))

pub product-loop-behind-preserved : goal.product-loop-behind-preserved
product-loop-behind-preserved t c = record {
  place = c.in_ok-right.ensures.place;
  shorter = omega (arith, c.in-Some.ensures.shorter, c.in_ok-right.ensures.shorter, c.loop-behind.invariant.shorter);
  fits = λ r f. c.loop-behind.invariant.fits r (star_more c.in_ok-next.ensures.one_more c.in_ok-next.ensures.shallow c.in-Some.ensures.found c.in_ok-right.ensures.fits c.in_ok-total.ensures.value f);
}

pub sum-returns-in_err-next-clause-fits : goal.sum-returns-in_err-next-clause-fits
sum-returns-in_err-next-clause-fits t c = exit _ c.from_residual-in_err-next.result _ c.from_residual-in_err-next.ensures.1 (told _ _ c.in_err-next.ensures.fault (c.loop-by.invariant.fits _ (operator_deep _ c.in-Some.by (length-words c.loop-by.rest.text.now c.loop-by.rest.tokens.now) c.in_err-next.ensures.deep c.in-Some.ensures.found)))

pub sum-returns-in_err-right-clause-fits : goal.sum-returns-in_err-right-clause-fits
sum-returns-in_err-right-clause-fits t c = exit _ c.from_residual-in_err-right.result _ c.from_residual-in_err-right.ensures.1 (c.loop-by.invariant.fits _ (operator_stop _ c.in-Some.by c.in_ok-next.ensures.one_more c.in_ok-next.ensures.shallow c.in-Some.ensures.place c.in-Some.ensures.found c.in_err-right.ensures.fits))

pub sum-loop-by-preserved : goal.sum-loop-by-preserved
sum-loop-by-preserved t c = record {
  place = c.in_ok-right.ensures.place;
  shorter = omega (arith, c.in-Some.ensures.shorter, c.in_ok-right.ensures.shorter, c.loop-by.invariant.shorter);
  fits = λ r f. c.loop-by.invariant.fits r (operator_more c.in-Some.by c.in_ok-next.ensures.one_more c.in_ok-next.ensures.shallow c.in-Some.ensures.place c.in-Some.ensures.found c.in_ok-right.ensures.fits c.in_ok-total.ensures.value f);
}

pub sum-returns-clause-fits : goal.sum-returns-clause-fits
sum-returns-clause-fits t c = c.loop-by.invariant.fits _ (operator_end c.in_default.ensures.found)
