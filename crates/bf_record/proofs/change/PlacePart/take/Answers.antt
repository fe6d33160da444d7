use Rattle.std.proofs.Common.{arith}
use Rattle.std.proofs.lemmas.List.{take_rest}
use Rattle.bf_record.specs.Changes.{IsPlace, place_spelling}
use Rattle.bf_record.proofs.Codes.{none_here, no_group}
use Rattle.bf_record.proofs.change.PlacePart.take.Goals as goal

pub returns-in-None-2 : goal.returns-in-None-2
returns-in-None-2 c =
    let none = rw (take_rest, c.in-None-2.is) at c.in_ok-value-in-2.ensures in
    none_here IsPlace place_spelling c.args.bytes.now 2 (omega arith) (omega arith) (no_group _ none)
