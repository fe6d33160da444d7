use Rattle.std.proofs.Common.{◌≡◌, Bor, List, map, IfOk, ap, subst, ◌∙◌}
use Rattle.bf_base.specs.declared.row.Key.{Key}
use Rattle.bf_base.specs.declared.row.Row.{Row}
use Rattle.bf_heap.specs.Heaps.{Entry}
use Rattle.bf_index.specs.Pairs.{keys_with}
use Rattle.bf_access.specs.ByIndex.{entries_at, fixed_value}
use Rattle.bf_access.proofs.Listing.{entries_at-index}
use Rattle.bf_access.proofs.by_index.rows_by_index.Goals as goal

pub returns : goal.returns
returns c =
    let entries = c.args.heap.now.entries in
    let value = fixed_value c.args.cond.now c.args.index.now.columns in
    let all = ap (entries_at entries) (c.in_ok-keys_by_index.ensures ∙ ap (λ pairs. keys_with pairs value) c.requires.index) ∙ entries_at-index c.args.index.now.columns value entries c.len.ensures.heap.in_order in
    subst (λ (found : List Entry). IfOk c.rows_at.result (λ rows. map (λ (entry : Key × Bor Row). (entry.0, entry.1.now)) rows.items ≡ found)) all c.rows_at.ensures
