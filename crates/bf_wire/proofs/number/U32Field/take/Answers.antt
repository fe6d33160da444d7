use Rattle.std.proofs.Common.{arith}
use Rattle.bf_wire.proofs.Numbers.{word_begins, no_word}
use Rattle.bf_wire.proofs.number.U32Field.take.Goals as goal

pub returns-then-bytes-lt4 : goal.returns-then-bytes-lt4
returns-then-bytes-lt4 c = no_word c.args.bytes.now c.if-bytes-lt4.true

pub returns : goal.returns
returns c = word_begins c.args.bytes.now c.read_u32.result c.if-bytes-lt4.false (λ i. omega (arith, c.type_inv.bytes i)) c.read_u32.ensures
