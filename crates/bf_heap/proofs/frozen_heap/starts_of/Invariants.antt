use Rattle.std.proofs.Common.{◌≡◌, ◌+◌, ◌++◌, length, drop}
use Rattle.bf_heap.specs.Frozen.{starts_from}
use Rattle.bf_heap.specs.Pages.{rows_of}
use Rattle.bf_heap.proofs.frozen_heap.starts_of.Given as goal

-- the positions so far, and where the pages that are left begin
abbrev pub invariant-loop-page : goal.invariant-loop-page
invariant-loop-page l = record {
  so_far : l.starts.items ++ starts_from l.start (drop l.page-index l.pages) ≡ starts_from 0 l.pages;
  counted : l.start + length (rows_of (drop l.page-index l.pages)) ≡ length (rows_of l.pages);
}
