use Rattle.std.proofs.Common.{◌<◌, suc, List, length}
use Rattle.bf_phrase.specs.Cursors.{IsPlace, left, words}
use Rattle.bf_phrase.specs.Reading.{Reading, Fits}
use Rattle.bf_phrase.specs.Rules.{Listed, Others}
use Rattle.bf_phrase.specs.Follow.{follow_list}
use Rattle.bf_phrase.proofs.list.list.Given as goal

abbrev pub invariant-loop-behind : goal.invariant-loop-behind
invariant-loop-behind g l = record {
  place : IsPlace l.rest;
  shorter : left l.rest < left l.fn.cursor;
  fits : (r : Reading (List g.row.P.Denot)) → Fits (follow_list g.P.Part.follow) (Others g.P.Part.rule (suc (length l.parts.items)) l.parts.items) (words l.rest) r → Fits (follow_list g.P.Part.follow) (Listed g.P.Part.rule) (words l.fn.cursor) r;
}

abbrev pub decreases-loop-behind : goal.decreases-loop-behind
decreases-loop-behind g l = left l.rest
