use Rattle.std.proofs.lemmas.List.{take_rest}
use Rattle.bf_wire.proofs.Parts.{none_behind}
use Rattle.bf_record.proofs.lists.Tuple2Part.take.Goals as goal

pub returns-in_default-2 : goal.returns-in_default-2
returns-in_default-2 g c =
    let first = rw c.in-Some.is at c.in_ok-first.ensures in
    let second = rw (take_rest, c.in_default-2.is) at c.in_ok-second.ensures in
    none_behind g.A.Part.HasSpelling g.B.Part.HasSpelling g.A.Part.spelling g.B.Part.spelling g.met.A.Part.apart first second
