use Rattle.std.proofs.Common.{◌≡◌, ◌≤◌, vec_len, vec_capacity, IsTrue}
use Rattle.std.specs.List.{list_all}
use Rattle.bf_heap.specs.Pages.{is_empty_page}
use Rattle.bf_index.proofs.index.add_pages.Given as goal

-- a page a turn
abbrev pub invariant-loop : goal.invariant-loop
invariant-loop l = (vec_len l.spares ≡ l.counter) × (vec_capacity l.fn.spares ≤ vec_capacity l.spares) × IsTrue (list_all is_empty_page l.spares.items) × (vec_len l.fn.spares ≤ l.counter)
