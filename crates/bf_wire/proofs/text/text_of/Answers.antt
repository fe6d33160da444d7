use Rattle.std.proofs.Common.{◌∙◌, ap, arith}
use Rattle.std.specs.Prelude.{Err}
use Rattle.bf_wire.proofs.text.text_of.Goals as goal

pub returns-in-Err-TooLong : goal.returns-in-Err-TooLong
returns-in-Err-TooLong c = λ is.
    let long = (c.of.ensures.too_long c.in-Err-TooLong.field-0-0).0 (c.in-Err-TooLong.is ∙ ap Err c.in-Err-TooLong.field-0-is) in
    omega (arith, long, is.short)

pub returns-in-Err-BadByte : goal.returns-in-Err-BadByte
returns-in-Err-BadByte c = λ is.
    let bad = (c.of.ensures.bad_byte c.in-Err-BadByte.field-0-0).0 (c.in-Err-BadByte.is ∙ ap Err c.in-Err-BadByte.field-0-is) in
    absurd (cc (bad.1, is.printable))
