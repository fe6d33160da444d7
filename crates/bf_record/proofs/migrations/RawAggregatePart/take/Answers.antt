use Rattle.std.proofs.Common.{arith}
use Rattle.std.proofs.lemmas.List.{take_rest}
use Rattle.bf_record.specs.Migrations.{IsTotal, total_spelling}
use Rattle.bf_record.proofs.Codes.{none_here, no_sum, no_min, no_max}
use Rattle.bf_record.proofs.migrations.RawAggregatePart.take.Goals as goal

pub returns-in-None : goal.returns-in-None
returns-in-None c =
    let none = rw (take_rest, c.in-None.is) at c.in_ok-expr-in-2.ensures in
    none_here IsTotal total_spelling c.args.bytes.now 2 (omega arith) (omega arith) (no_sum _ none)

pub returns-in-None-2 : goal.returns-in-None-2
returns-in-None-2 c =
    let none = rw (take_rest, c.in-None-2.is) at c.in_ok-expr-in-3.ensures in
    none_here IsTotal total_spelling c.args.bytes.now 3 (omega arith) (omega arith) (no_min _ none)

pub returns-in-None-3 : goal.returns-in-None-3
returns-in-None-3 c =
    let none = rw (take_rest, c.in-None-3.is) at c.in_ok-expr-in-4.ensures in
    none_here IsTotal total_spelling c.args.bytes.now 4 (omega arith) (omega arith) (no_max _ none)
