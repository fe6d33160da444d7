use Rattle.std.proofs.Common.{◌<◌, ◌+◌, ◌*◌}
use Rattle.bf_phrase.specs.Cursors.{IsPlace, left, words}
use Rattle.bf_phrase.specs.Follow.{follow_conjunction, follow_disjunction}
use Rattle.bf_phrase.specs.Conditions.{CountedCond, Conjunction, Negations, Disjunction, Conjunctions}
use Rattle.bf_phrase.specs.Reading.{Reading, Fits}
use Rattle.bf_phrase.proofs.condition.+condition.Given as goal

abbrev pub decreases-negation : goal.decreases-negation
decreases-negation l = 4 * left l.cursor

abbrev pub decreases-conjunction : goal.decreases-conjunction
decreases-conjunction l = 4 * left l.cursor + 1

abbrev pub decreases-condition : goal.decreases-condition
decreases-condition l = 4 * left l.cursor + 2

abbrev pub invariant-conjunction-loop-behind : goal.invariant-conjunction-loop-behind
invariant-conjunction-loop-behind l = record {
  place : IsPlace l.rest;
  shorter : left l.rest < left l.fn.cursor;
  fits : (r : Reading CountedCond) → Fits follow_conjunction (Negations (l.total, l.so_far)) (words l.rest) r → Fits follow_conjunction (Conjunction l.fn.count) (words l.fn.cursor) r;
}

abbrev pub decreases-conjunction-loop-behind : goal.decreases-conjunction-loop-behind
decreases-conjunction-loop-behind l = left l.rest

abbrev pub invariant-condition-loop-behind : goal.invariant-condition-loop-behind
invariant-condition-loop-behind l = record {
  place : IsPlace l.rest;
  shorter : left l.rest < left l.fn.cursor;
  fits : (r : Reading CountedCond) → Fits follow_disjunction (Conjunctions (l.total, l.so_far)) (words l.rest) r → Fits follow_disjunction (Disjunction l.fn.count) (words l.fn.cursor) r;
}

abbrev pub decreases-condition-loop-behind : goal.decreases-condition-loop-behind
decreases-condition-loop-behind l = left l.rest
