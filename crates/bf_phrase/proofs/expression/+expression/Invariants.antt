use Rattle.std.proofs.Common.{◌<◌, ◌+◌, ◌*◌}
use Rattle.bf_phrase.specs.Cursors.{IsPlace, left, words}
use Rattle.bf_phrase.specs.Follow.{follow_product, follow_sum}
use Rattle.bf_phrase.specs.Expressions.{Counted, Product, Factors, Sum, Products}
use Rattle.bf_phrase.specs.Reading.{Reading, Fits}
use Rattle.bf_phrase.proofs.expression.+expression.Given as goal

abbrev pub decreases-factor : goal.decreases-factor
decreases-factor l = 4 * left l.cursor

abbrev pub decreases-product : goal.decreases-product
decreases-product l = 4 * left l.cursor + 1

abbrev pub decreases-sum : goal.decreases-sum
decreases-sum l = 4 * left l.cursor + 2

abbrev pub invariant-product-loop-behind : goal.invariant-product-loop-behind
invariant-product-loop-behind l = record {
  place : IsPlace l.rest;
  shorter : left l.rest < left l.fn.cursor;
  fits : (r : Reading Counted) → Fits follow_product (Factors (l.total, l.so_far)) (words l.rest) r → Fits follow_product (Product l.fn.count) (words l.fn.cursor) r;
}

abbrev pub decreases-product-loop-behind : goal.decreases-product-loop-behind
decreases-product-loop-behind l = left l.rest

abbrev pub invariant-sum-loop-by : goal.invariant-sum-loop-by
invariant-sum-loop-by l = record {
  place : IsPlace l.rest;
  shorter : left l.rest < left l.fn.cursor;
  fits : (r : Reading Counted) → Fits follow_sum (Products (l.total, l.so_far)) (words l.rest) r → Fits follow_sum (Sum l.fn.count) (words l.fn.cursor) r;
}

abbrev pub decreases-sum-loop-by : goal.decreases-sum-loop-by
decreases-sum-loop-by l = left l.rest
