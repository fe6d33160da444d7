use Rattle.std.proofs.Common.{◌≡◌, ℕ, [], List, fold, map, sym, ap, ◌∙◌}
use Rattle.bf_heap.specs.Heaps.{Entry}
use Rattle.bf_index.specs.Edits.{pair_of}
use Rattle.bf_index.specs.Edits as edits
use Rattle.bf_index.specs.Pairs.{with_pair}
use Rattle.bf_index.proofs.Following.{built, none_ahead}
use Rattle.bf_index.proofs.indexed_heap.index_of.Goals as goal

pub returns : goal.returns
returns c =
    let entries = c.args.heap.now.entries in
    let columns = c.args.columns.items in
    let pairs = c.loop-key.index.pairs in
    let none : c.loop-key.ahead ≡ [] = none_ahead c.loop-key.ahead (sym c.in_default.ensures) in
    sym (ap (λ (ahead : List Entry). fold with_pair pairs (map (pair_of columns) ahead)) none)
    ∙ c.loop-key.invariant.pairs
    ∙ built columns entries c.len.ensures.heap.in_order
    ∙ ap (λ (columns : List ℕ). edits.index_of columns entries) (sym c.loop-key.invariant.columns)
