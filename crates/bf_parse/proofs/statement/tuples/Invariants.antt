use Rattle.std.proofs.Common.{◌<◌, List}
use Rattle.bf_base.specs.declared.value.Value.{Value}
use Rattle.bf_phrase.specs.Cursors.{IsPlace, left, words}
use Rattle.bf_phrase.specs.Reading.{Reading, Fits}
use Rattle.bf_phrase.specs.Follow.{is_comma}
use Rattle.bf_parse.specs.Statements.{Further, Several, TupleRule}
use Rattle.bf_parse.proofs.statement.tuples.Given as goal

abbrev pub invariant-loop-behind : goal.invariant-loop-behind
invariant-loop-behind l = record {
  place : IsPlace l.rest;
  shorter : left l.rest < left l.fn.cursor;
  fits : (r : Reading (List (List Value))) → Fits is_comma (Further TupleRule l.tuples.items) (words l.rest) r → Fits is_comma (Several TupleRule) (words l.fn.cursor) r;
}

abbrev pub decreases-loop-behind : goal.decreases-loop-behind
decreases-loop-behind l = left l.rest
