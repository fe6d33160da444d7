use Rattle.std.proofs.Common.{List, [], Option, sym, ap, subst, ◌∙◌, unwrap_or}
use Rattle.bf_txn.specs.Writes.{AreWrites, KeyWrite, key_writes_to}
use Rattle.bf_txn.proofs.Tables.{are_writes, names_rise, written_to}
use Rattle.bf_txn.proofs.workspace.Workspace.of_table.Goals as goal

pub returns-in-Some-clause-writes : goal.returns-in-Some-clause-writes
returns-in-Some-clause-writes c =
    let found = c.in-Some.ensures.value in
    let tables = c.self.inside.tables.entries in
    ap (λ (o : Option (List KeyWrite)). unwrap_or o []) found
    ∙ sym (written_to c.args.table.now tables (names_rise tables c.self.invariant.0))
    ∙ ap (key_writes_to c.args.table.now) c.self.view_is

pub returns-in-Some-clause-sorted : goal.returns-in-Some-clause-sorted
returns-in-Some-clause-sorted c = subst AreWrites c.self.view_is (are_writes c.self.inside.tables.entries c.self.invariant.0)

pub returns-in-None-clause-writes : goal.returns-in-None-clause-writes
returns-in-None-clause-writes c =
    let found = c.in-None.ensures.value in
    let tables = c.self.inside.tables.entries in
    c.self.invariant.1
    ∙ ap (λ (o : Option (List KeyWrite)). unwrap_or o []) found
    ∙ sym (written_to c.args.table.now tables (names_rise tables c.self.invariant.0))
    ∙ ap (key_writes_to c.args.table.now) c.self.view_is

pub returns-in-None-clause-sorted : goal.returns-in-None-clause-sorted
returns-in-None-clause-sorted c = subst AreWrites c.self.view_is (are_writes c.self.inside.tables.entries c.self.invariant.0)
