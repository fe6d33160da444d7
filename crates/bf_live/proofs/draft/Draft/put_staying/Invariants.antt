use Rattle.std.proofs.Common.{◌≡◌, ◌++◌}
use Rattle.bf_live.specs.Drafts.{staying_rows, with_rows_of}
use Rattle.bf_live.specs.Live.{rows_in}
use Rattle.bf_live.proofs.draft.Draft.put_staying.Given as goal

-- those of the heaps so far that stay are in their places
abbrev pub invariant-loop-name : goal.invariant-loop-name
invariant-loop-name l = record {
  left : l.yielded ++ l.name-iterator ≡ l.fn.heaps.entries;
  put : l.self ≡ record l.initial.self { tables = with_rows_of (staying_rows l.gone (rows_in l.yielded)) l.initial.self.tables };
}
