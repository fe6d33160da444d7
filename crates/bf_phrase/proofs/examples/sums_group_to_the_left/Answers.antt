use Rattle.std.proofs.Common.{arith}
use Rattle.std.specs.Prelude.{codes}
use Rattle.bf_phrase.proofs.Groupings.{spelled, number_factor, name_factor, product_read, star_read, no_star, one_number, one_text, sum_read, minus_read, plus_read, bars_read, sum_end}
use Rattle.bf_phrase.proofs.examples.sums_group_to_the_left.Goals as goal

pub returns-clause-differences : goal.returns-clause-differences
returns-clause-differences c = spelled (
    sum_read (one_number 1 _ (omega arith) (λ e. cc))
    (minus_read (omega arith) (omega arith) (one_number 2 _ (omega arith) (λ e. cc))
    (minus_read (omega arith) (omega arith) (one_number 3 _ (omega arith) (λ e. cc))
    sum_end)))

pub returns-clause-both_signs : goal.returns-clause-both_signs
returns-clause-both_signs c = spelled (
    sum_read (one_number 1 _ (omega arith) (λ e. cc))
    (minus_read (omega arith) (omega arith) (one_number 2 _ (omega arith) (λ e. cc))
    (plus_read (omega arith) (omega arith) (one_number 3 _ (omega arith) (λ e. cc))
    sum_end)))

pub returns-clause-texts : goal.returns-clause-texts
returns-clause-texts c = spelled (
    sum_read (one_text (codes "a") _ (λ e. cc))
    (bars_read (omega arith) (one_text (codes "b") _ (λ e. cc))
    (bars_read (omega arith) (one_text (codes "c") _ (λ e. cc))
    sum_end)))

pub returns-clause-products : goal.returns-clause-products
returns-clause-products c = spelled (
    sum_read (product_read (number_factor 2 _ (omega arith))
    (star_read (omega arith) (number_factor 3 _ (omega arith))
    (star_read (omega arith) (name_factor (codes "id") _ (λ e. cc)) (no_star (λ e. cc)))))
    sum_end)
