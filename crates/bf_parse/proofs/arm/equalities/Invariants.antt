use Rattle.std.proofs.Common.{◌<◌, suc, List, length}
use Rattle.bf_tree.specs.declared.raw.Ref.{Ref}
use Rattle.bf_phrase.specs.Cursors.{IsPlace, left, words}
use Rattle.bf_parse.specs.MigrationFollow.{EqualitiesRule, follow_equalities}
use Rattle.bf_parse.specs.Migrations.{Equalities}
use Rattle.bf_phrase.specs.Reading.{Reading, Fits}
use Rattle.bf_parse.proofs.arm.equalities.Given as goal

abbrev pub invariant-equalities : goal.invariant-equalities
invariant-equalities l = record {
  place : IsPlace l.rest;
  shorter : left l.rest < left l.fn.cursor;
  fits : (r : Reading (List (Ref × Ref))) → Fits follow_equalities (Equalities (suc (length l.found.items)) l.found.items) (words l.rest) r → Fits follow_equalities EqualitiesRule (words l.fn.cursor) r;
}

abbrev pub decreases-equalities : goal.decreases-equalities
decreases-equalities l = left l.rest
