use Rattle.std.proofs.Common.{arith}
use Rattle.std.proofs.lemmas.List.{take_rest}
use Rattle.bf_record.specs.Conditions.{IsTest, cond_spelling}
use Rattle.bf_record.proofs.Codes.{none_here}
use Rattle.bf_record.proofs.CondCodes.{no_compared, no_between}
use Rattle.bf_record.proofs.conditions.take_test.Goals as goal

pub returns-in-None : goal.returns-in-None
returns-in-None c =
    let none = rw (take_rest, c.in-None.is) at c.in_ok-op-in-1.ensures in
    none_here IsTest cond_spelling c.args.bytes.now 1 (omega arith) (omega arith) (no_compared _ none)

pub returns-in-None-2 : goal.returns-in-None-2
returns-in-None-2 c =
    let none = rw (take_rest, c.in-None-2.is) at c.in_ok-operand-in-2.ensures in
    none_here IsTest cond_spelling c.args.bytes.now 2 (omega arith) (omega arith) (no_between _ none)
