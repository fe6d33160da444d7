use Rattle.std.proofs.Common.{◌∙◌, SFits, w64, arith}
use Rattle.std.proofs.lemmas.Int.{to_z-of_z}
use Rattle.bf_wire.proofs.Numbers.{int_begins, no_int}
use Rattle.bf_wire.proofs.number.I64Field.take.Goals as goal

pub returns-then-bytes-lt8 : goal.returns-then-bytes-lt8
returns-then-bytes-lt8 c = no_int c.args.bytes.now c.if-bytes-lt8.true

pub returns : goal.returns
returns c =
    let fits : SFits w64 c.read_i64.result = record { sfits = c.read_i64.type_inv } in
    int_begins c.args.bytes.now _ c.if-bytes-lt8.false (λ i. omega (arith, c.type_inv.bytes i)) (to_z-of_z w64 c.read_i64.result fits ∙ c.read_i64.ensures)
