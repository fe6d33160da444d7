use Rattle.std.proofs.Common.{arith}
use Rattle.std.specs.Prelude.{codes}
use Rattle.bf_phrase.proofs.Groupings.{spelled, equal_read, negation_read, conjunction_read, and_read, no_and, one_equal, disjunction_read, or_read, no_or}
use Rattle.bf_phrase.proofs.examples.conditions_group_by_their_words.Goals as goal

pub returns-clause-behind_or : goal.returns-clause-behind_or
returns-clause-behind_or c = spelled (
    disjunction_read (one_equal (codes "a") 1 _ (omega arith) (omega arith) (λ e. cc))
    (or_read (omega arith) (conjunction_read (equal_read (codes "b") 2 _ (omega arith) (omega arith))
    (and_read (omega arith) (equal_read (codes "c") 3 _ (omega arith) (omega arith)) (no_and (λ e. cc))))
    (no_or (λ e. cc))))

pub returns-clause-behind_not : goal.returns-clause-behind_not
returns-clause-behind_not c = spelled (
    disjunction_read (conjunction_read (negation_read (omega arith) (equal_read (codes "a") 1 _ (omega arith) (omega arith)))
    (and_read (omega arith) (equal_read (codes "b") 2 _ (omega arith) (omega arith)) (no_and (λ e. cc))))
    (no_or (λ e. cc)))

pub returns-clause-all : goal.returns-clause-all
returns-clause-all c = spelled (
    disjunction_read (conjunction_read (equal_read (codes "a") 1 _ (omega arith) (omega arith))
    (and_read (omega arith) (equal_read (codes "b") 2 _ (omega arith) (omega arith))
    (and_read (omega arith) (equal_read (codes "c") 3 _ (omega arith) (omega arith)) (no_and (λ e. cc)))))
    (no_or (λ e. cc)))

pub returns-clause-any : goal.returns-clause-any
returns-clause-any c = spelled (
    disjunction_read (one_equal (codes "a") 1 _ (omega arith) (omega arith) (λ e. cc))
    (or_read (omega arith) (one_equal (codes "b") 2 _ (omega arith) (omega arith) (λ e. cc))
    (or_read (omega arith) (one_equal (codes "c") 3 _ (omega arith) (omega arith) (λ e. cc))
    (no_or (λ e. cc)))))
