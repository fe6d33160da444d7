use Rattle.std.proofs.Common.{◌≤◌, ℕ, List, []}
use Rattle.bf_tree.specs.declared.statement.Statement.{Statement}
use Rattle.bf_phrase.specs.Cursors.{IsPlace, left, words}
use Rattle.bf_phrase.specs.Reading.{Reading, Fits}
use Rattle.bf_parse.specs.StatementFollow.{first_statement}
use Rattle.bf_parse.specs.Scripts.{Statements}
use Rattle.bf_parse.proofs.session.statements.Given as goal

abbrev pub invariant-statements : goal.invariant-statements
invariant-statements l = record {
  place : IsPlace l.rest;
  shorter : left l.rest ≤ left l.fn.cursor;
  fits : (r : Reading (List Statement × ℕ)) → Fits first_statement (Statements l.so_far l.found.items) (words l.rest) r → Fits first_statement (Statements l.fn.migrations []) (words l.fn.cursor) r;
}

abbrev pub decreases-statements : goal.decreases-statements
decreases-statements l = left l.rest
