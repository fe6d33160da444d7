use Rattle.std.proofs.Common.{◌≡◌, ◌++◌, arith, ap}
use Rattle.std.proofs.lemmas.Bool.Decides.{nat_tests}
use Rattle.bf_base.specs.Texts.{first_bad_of}
use Rattle.bf_tree.proofs.Prints.{first_bad_of-append}
use Rattle.bf_tree.proofs.evaluation.concatenation.Goals as goal

pub returns-in-Err-TooLong : goal.returns-in-Err-TooLong
returns-in-Err-TooLong c =
    let long = (c.of.ensures.too_long c.in-Err-TooLong.field-0-0).0 cc in
    grind (arith, nat_tests)

pub unreachable-requires : goal.unreachable-requires
unreachable-requires c =
    let bad = ((c.of.ensures.bad_byte c.in-Err-BadByte.field-0-0).0 cc).1 in
    let none = first_bad_of-append c.bytes-left.result.now c.bytes-right.result.now c.bytes-left.ensures.printable c.bytes-right.ensures.printable in
    let joined : c.as_slice.result.now ≡ c.bytes-left.result.now ++ c.bytes-right.result.now = grind arith in
    let same = ap first_bad_of joined in
    cc
