use Rattle.std.proofs.Common.{◌≡◌, ◌≤◌}
use Rattle.bf_phrase.specs.Cursors.{IsPlace, left, words}
use Rattle.bf_phrase.specs.Reading.{Reading, Fits}
use Rattle.bf_parse.specs.StatementFollow.{follow_sessions}
use Rattle.bf_parse.specs.ScriptParts.{progress_of}
use Rattle.bf_parse.specs.Scripts.{Progress, Sessions}
use Rattle.bf_parse.proofs.session.sessions.Given as goal

abbrev pub invariant-sessions : goal.invariant-sessions
invariant-sessions l = record {
  place : IsPlace l.rest;
  shorter : left l.rest ≤ left l.fn.cursor;
  phases : l.so_far.phases ≡ l.fn.before.phases;
  fits : (r : Reading Progress) → Fits follow_sessions (Sessions (progress_of l.so_far)) (words l.rest) r → Fits follow_sessions (Sessions (progress_of l.fn.before)) (words l.fn.cursor) r;
}

abbrev pub decreases-sessions : goal.decreases-sessions
decreases-sessions l = left l.rest
