use Rattle.std.proofs.Common.{◌≡◌, ◌++◌}
use Rattle.std.specs.Vec.Iter.{into_iter_items}
use Rattle.bf_live.specs.Drafts.{with_more}
use Rattle.bf_live.specs.Live.{held_in}
use Rattle.bf_live.proofs.draft.Draft.with_new.Given as goal

-- the draft has the new tables so far
abbrev pub invariant-loop-table : goal.invariant-loop-table
invariant-loop-table l = record {
  can : (goal.iterator-loop-table).can_next l.table-iterator;
  ends : (goal.iterator-loop-table).is_finite l.table-iterator;
  left : l.yielded ++ into_iter_items l.table-iterator ≡ l.fn.new.items;
  drafted : l.draft ≡ record l.initial.draft { tables = with_more l.initial.draft.tables (held_in l.yielded) };
}
