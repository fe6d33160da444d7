use Rattle.std.proofs.Common.{◌+◌, ◌≤◌}
use Rattle.bf_phrase.specs.Cursors.{IsPlace, left, words}
use Rattle.bf_phrase.specs.Reading.{Reading, Fits}
use Rattle.bf_parse.specs.StatementFollow.{follow_phases}
use Rattle.bf_parse.specs.ScriptParts.{progress_of}
use Rattle.bf_parse.specs.Scripts.{Progress, Phases, nothing_yet}
use Rattle.bf_parse.proofs.session.phases.Given as goal

abbrev pub invariant-phases : goal.invariant-phases
invariant-phases l = record {
  place : IsPlace l.rest;
  few : l.so_far.phases + left l.rest ≤ left l.fn.cursor;
  fits : (r : Reading Progress) → Fits follow_phases (Phases (progress_of l.so_far)) (words l.rest) r → Fits follow_phases (Phases nothing_yet) (words l.fn.cursor) r;
}

abbrev pub decreases-phases : goal.decreases-phases
decreases-phases l = left l.rest
