use Rattle.std.proofs.Common.{false, true, rules, ap}
use Rattle.bf_tree.specs.Settling.{first_of}
use Rattle.bf_bind.proofs.Creating.{copied_some, index_free, index_taken}
use Rattle.bf_bind.proofs.create.bind_index.Goals as goal

pub returns-then-is_some : goal.returns-then-is_some
returns-then-is_some c =
    let taken = copied_some c.index.result _ c.index.ensures true c.if-is_some.ensures in
    rw c.in_ok-copy.ensures (ap first_of (index_taken c.args.catalog.now c.args.name.now c.args.table.now c.args.columns.now c.in_ok-places.ensures.0 taken))

pub returns : goal.returns
returns c =
    let free = copied_some c.index.result _ c.index.ensures false c.if-is_some.ensures in
    (index_free c.args.catalog.now c.args.name.now c.args.table.now c.args.columns.now c.in_ok-places.ensures.0 free, search rules)
