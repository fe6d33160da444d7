use Rattle.std.proofs.Common.{arith}
use Rattle.std.proofs.lemmas.List.{take_rest}
use Rattle.bf_record.specs.Schema.{IsAdmit, admit_spelling}
use Rattle.bf_record.proofs.Codes.{none_here, no_checked}
use Rattle.bf_record.proofs.schema.AdmitPart.take.Goals as goal

pub returns-in-None : goal.returns-in-None
returns-in-None c =
    let none = rw (take_rest, c.in-None.is) at c.in_ok-low-in-2.ensures in
    none_here IsAdmit admit_spelling c.args.bytes.now 2 (omega arith) (omega arith) (no_checked _ none)
