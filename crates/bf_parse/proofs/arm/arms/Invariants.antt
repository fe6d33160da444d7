use Rattle.std.proofs.Common.{◌<◌, List}
use Rattle.bf_tree.specs.declared.migration.Arm.{Arm}
use Rattle.bf_phrase.specs.Cursors.{IsPlace, left, words}
use Rattle.bf_parse.specs.MigrationFollow.{ArmsRule, follow_arms}
use Rattle.bf_parse.specs.Migrations.{Arms}
use Rattle.bf_phrase.specs.Reading.{Reading, Fits}
use Rattle.bf_parse.proofs.arm.arms.Given as goal

abbrev pub invariant-arms : goal.invariant-arms
invariant-arms l = record {
  place : IsPlace l.rest;
  shorter : left l.rest < left l.fn.cursor;
  fits : (r : Reading (List Arm)) → Fits follow_arms (Arms l.found.items) (words l.rest) r → Fits follow_arms ArmsRule (words l.fn.cursor) r;
}

abbrev pub decreases-arms : goal.decreases-arms
decreases-arms l = left l.rest
