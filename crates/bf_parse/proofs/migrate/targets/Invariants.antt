use Rattle.std.proofs.Common.{◌<◌, ◌+◌, List, length}
use Rattle.bf_tree.specs.declared.migration.Target.{Target}
use Rattle.bf_phrase.specs.Cursors.{IsPlace, left, words}
use Rattle.bf_parse.specs.MigrationFollow.{TargetsRule, follow_targets}
use Rattle.bf_parse.specs.Migrations.{Targets}
use Rattle.bf_phrase.specs.Reading.{Reading, Fits}
use Rattle.bf_parse.proofs.migrate.targets.Given as goal

abbrev pub invariant-targets : goal.invariant-targets
invariant-targets l = record {
  place : IsPlace l.rest;
  shorter : left l.rest < left l.fn.cursor;
  fits : (r : Reading (List Target)) → Fits follow_targets (Targets (length l.found.items + 1) l.found.items) (words l.rest) r → Fits follow_targets TargetsRule (words l.fn.cursor) r;
}

abbrev pub decreases-targets : goal.decreases-targets
decreases-targets l = left l.rest
