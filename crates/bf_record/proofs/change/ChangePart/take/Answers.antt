use Rattle.std.proofs.Common.{arith}
use Rattle.std.proofs.lemmas.List.{take_rest}
use Rattle.bf_record.specs.Changes.{HasRecord, record_bytes}
use Rattle.bf_record.proofs.Codes.{none_here, no_commit, no_schema, no_flip, no_move}
use Rattle.bf_record.proofs.change.ChangePart.take.Goals as goal

pub returns-in-None : goal.returns-in-None
returns-in-None c =
    let none = rw (take_rest, c.in-None.is) at c.in_ok-writes-in-1.ensures in
    none_here HasRecord record_bytes c.args.bytes.now 1 (omega arith) (omega arith) (no_commit _ none)

pub returns-in-None-2 : goal.returns-in-None-2
returns-in-None-2 c =
    let none = rw (take_rest, c.in-None-2.is) at c.in_ok-change-in-2.ensures in
    none_here HasRecord record_bytes c.args.bytes.now 2 (omega arith) (omega arith) (no_schema _ none)

pub returns-in-None-3 : goal.returns-in-None-3
returns-in-None-3 c =
    let none = rw (take_rest, c.in-None-3.is) at c.in_ok-migrate-in-3.ensures in
    none_here HasRecord record_bytes c.args.bytes.now 3 (omega arith) (omega arith) (no_flip _ none)

pub returns-in-None-4 : goal.returns-in-None-4
returns-in-None-4 c =
    let none = rw (take_rest, c.in-None-4.is) at c.in_ok-migration-in-4.ensures in
    none_here HasRecord record_bytes c.args.bytes.now 4 (omega arith) (omega arith) (no_move _ none)
