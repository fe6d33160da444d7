use Rattle.std.proofs.Common.{◌≡◌, ◌++◌}
use Rattle.std.specs.Vec.Iter.{into_iter_items}
use Rattle.bf_recover.proofs.commits.workspace_of.Given as goal

-- the writes so far
abbrev pub invariant-loop-write : goal.invariant-loop-write
invariant-loop-write l = record {
  left : l.yielded ++ into_iter_items l.write-iterator ≡ into_iter_items l.initial.write-iterator;
  written : l.workspace ≡ l.yielded;
}
