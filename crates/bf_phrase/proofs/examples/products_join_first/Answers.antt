use Rattle.std.proofs.Common.{arith}
use Rattle.std.specs.Prelude.{codes}
use Rattle.bf_phrase.proofs.Groupings.{spelled, number_factor, name_factor, product_read, star_read, no_star, one_number, sum_read, minus_read, sum_end}
use Rattle.bf_phrase.proofs.examples.products_join_first.Goals as goal

pub returns-clause-behind : goal.returns-clause-behind
returns-clause-behind c = spelled (
    sum_read (one_number 2 _ (omega arith) (λ e. cc))
    (minus_read (omega arith) (omega arith) (product_read (number_factor 3 _ (omega arith)) (star_read (omega arith) (name_factor (codes "id") _ (λ e. cc)) (no_star (λ e. cc))))
    sum_end))

pub returns-clause-before : goal.returns-clause-before
returns-clause-before c = spelled (
    sum_read (product_read (name_factor (codes "id") _ (λ e. cc)) (star_read (omega arith) (number_factor 2 _ (omega arith)) (no_star (λ e. cc))))
    (minus_read (omega arith) (omega arith) (one_number 3 _ (omega arith) (λ e. cc))
    sum_end))
