use Rattle.std.proofs.Common.{◌≡◌, ◌++◌, map}
use Rattle.std.specs.Map.Iter.{deref}
use Rattle.bf_live.specs.Drafts.{staying, with_more}
use Rattle.bf_live.proofs.draft.Draft.with_staying.Given as goal

-- the draft has those of the tables so far that stay
abbrev pub invariant-loop-table : goal.invariant-loop-table
invariant-loop-table l = record {
  can : (goal.iterator-loop-table).can_next l.table-iterator;
  ends : (goal.iterator-loop-table).is_finite l.table-iterator;
  left : map deref l.yielded ++ l.table-iterator ≡ l.old.tables;
  drafted : l.draft ≡ record l.initial.draft { tables = with_more l.initial.draft.tables (staying l.gone (map deref l.yielded)) };
}
