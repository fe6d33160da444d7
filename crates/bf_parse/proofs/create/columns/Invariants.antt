use Rattle.std.proofs.Common.{◌<◌, suc, List, length}
use Rattle.bf_tree.specs.declared.statement.ColumnRule.{ColumnRule}
use Rattle.bf_phrase.specs.Cursors.{IsPlace, left, words}
use Rattle.bf_phrase.specs.Follow.{nothing}
use Rattle.bf_parse.specs.Pieces.{ColumnsRule}
use Rattle.bf_phrase.specs.Reading.{Reading, Fits}
use Rattle.bf_parse.proofs.Tables.{Choice}
use Rattle.bf_parse.proofs.create.columns.Given as goal

abbrev pub invariant-loop-behind : goal.invariant-loop-behind
invariant-loop-behind l = record {
  place : IsPlace l.rest;
  shorter : left l.rest < left l.fn.cursor;
  fits : (r : Reading (List ColumnRule)) → Fits nothing (Choice (suc (length l.columns.items)) l.columns.items) (words l.rest) r → Fits nothing ColumnsRule (words l.fn.cursor) r;
}

abbrev pub decreases-loop-behind : goal.decreases-loop-behind
decreases-loop-behind l = left l.rest
