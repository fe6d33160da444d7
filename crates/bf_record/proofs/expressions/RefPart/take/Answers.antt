use Rattle.std.proofs.Common.{arith}
use Rattle.std.proofs.lemmas.List.{take_rest}
use Rattle.bf_record.specs.Expressions.{IsRef, ref_spelling}
use Rattle.bf_record.proofs.Codes.{none_here, no_qualified}
use Rattle.bf_record.proofs.expressions.RefPart.take.Goals as goal

pub returns-in-None-2 : goal.returns-in-None-2
returns-in-None-2 c =
    let none = rw (take_rest, c.in-None-2.is) at c.in_ok-table-in-1.ensures in
    none_here IsRef ref_spelling c.args.bytes.now 1 (omega arith) (omega arith) (no_qualified _ none)
