use Rattle.std.proofs.Common.{◌≡◌, true, ◌++◌}
use Rattle.std.specs.List.{list_all}
use Rattle.std.specs.Vec.Iter.{into_iter_items}
use Rattle.bf_recover.specs.Commits.{is_legal_write, writes_of}
use Rattle.bf_recover.specs.Lookups.{AreKept}
use Rattle.bf_recover.proofs.commits.legal_writes.Given as goal

-- the writes so far are legal
abbrev pub invariant-loop-write : goal.invariant-loop-write
invariant-loop-write l = record {
  left : l.yielded ++ into_iter_items l.write-iterator ≡ into_iter_items l.initial.write-iterator;
  legal : list_all (is_legal_write l.store.lazy) (writes_of l.store.lazy.live l.yielded) ≡ true;
  writes : l.legal.items ≡ writes_of l.store.lazy.live l.yielded;
  kept : AreKept l.store.migration l.indexes;
}
