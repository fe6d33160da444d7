-- A table or an index rule more than what is seen has makes a database of the live tables.
use Rattle.std.proofs.Common.{sym, ap, subst, ◌∙◌}
use Rattle.bf_machine.specs.interleaving.Answering.{CanSettle}
use Rattle.bf_machine.specs.interleaving.Groups.{NewTable, NewIndex}
use Rattle.bf_machine.specs.interleaving.Seen.{pending_seen}
use Rattle.bf_machine.proofs.keeping.Settling.{index_database, narrow_table, table_database}
use Rattle.bf_machine.proofs.settle.put.Goals as goal

pub create_table-requires-clause-narrow : goal.create_table-requires-clause-narrow
create_table-requires-clause-narrow g c =
    let lazy = c.args.store.now.lazy in
    let copied = c.in_ok-copy-in-NewTable in
    let can = subst (CanSettle lazy) (ap pending_seen c.in-NewTable.is ∙ ap NewTable (sym copied.ensures)) c.requires.can in
    narrow_table lazy copied.field-0 can.narrow

pub create_table-requires-clause-database : goal.create_table-requires-clause-database
create_table-requires-clause-database g c =
    let lazy = c.args.store.now.lazy in
    let copied = c.in_ok-copy-in-NewTable in
    let can = subst (CanSettle lazy) (ap pending_seen c.in-NewTable.is ∙ ap NewTable (sym copied.ensures)) c.requires.can in
    table_database lazy c.live.ensures.lazy_state copied.field-0 can.database

pub create_index-requires : goal.create_index-requires
create_index-requires g c =
    let lazy = c.args.store.now.lazy in
    let copied = c.in_ok-copy-in-NewIndex in
    let can = subst (CanSettle lazy) (ap pending_seen c.in-NewIndex.is ∙ ap NewIndex (sym copied.ensures)) c.requires.can in
    record { database = index_database lazy c.live.ensures.lazy_state copied.field-0 can.database }
