use Rattle.std.proofs.Common.{◌≡◌, drop, fold}
use Rattle.std.specs.Prelude.{slice_set}
use Rattle.bf_base.specs.Tables.{cell}
use Rattle.bf_tree.specs.Evaluation.{sure_value}
use Rattle.bf_sql.specs.Queries.{changed}
use Rattle.bf_sql.specs.RowObjections.{change_objections}
use Rattle.bf_live.specs.Replies.{admitted_at}
use Rattle.bf_query.proofs.change.changed_row.Given as goal

-- the sets from here on have all objections, and make the rest of the new row
abbrev pub invariant-loop-place : goal.invariant-loop-place
invariant-loop-place l = record {
  objections : change_objections cell (admitted_at l.table) (drop l.place-index l.sets) l.row ≡ change_objections cell (admitted_at l.table) l.sets l.row;
  values : fold (λ new set. slice_set new set.0 (sure_value (cell l.row) set.1)) l.new.items (drop l.place-index l.sets) ≡ changed cell (λ place. place) l.sets l.row;
}
