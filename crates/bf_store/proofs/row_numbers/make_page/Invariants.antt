use Rattle.std.proofs.Common.{◌≡◌, ◌-◌, ◌^◌, length}
use Rattle.bf_store.specs.RowNumbers.{ArePages, from_page}
use Rattle.bf_store.proofs.row_numbers.make_page.Given as goal

-- the numbers are as they were
abbrev pub invariant-loop-alloc : goal.invariant-loop-alloc
invariant-loop-alloc l = record {
  numbers : from_page 0 l.pages.items ≡ from_page 0 l.fn.pages.items;
  pages : ArePages l.pages.items;
}

abbrev pub decreases-loop-alloc : goal.decreases-loop-alloc
decreases-loop-alloc l = 2 ^ 26 - length l.pages.items
