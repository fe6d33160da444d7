use Rattle.std.proofs.Common.{arith}
use Rattle.std.proofs.lemmas.Grind.{common_steps}
use Rattle.std.proofs.lemmas.List.{take_rest}
use Rattle.bf_wire.proofs.Lists.{goes_on, none_more}
use Rattle.bf_record.proofs.lists.SequencePart.take.Goals as goal

pub returns-in_default-2 : goal.returns-in_default-2
returns-in_default-2 g c =
    let none = rw (take_rest, c.in_default-2.is) at c.in_ok-item.ensures in
    none_more g.T.Part.HasSpelling g.T.Part.spelling g.met.T.Part.apart c.items.invariant.read (omega arith) none

pub items-preserved : goal.items-preserved
items-preserved g c =
    let one = rw (take_rest, c.in-Some-2.is) at c.in_ok-item.ensures in
    record {
      counted = grind (arith, common_steps);
      read = rw c.in_ok-push.ensures.items (goes_on g.T.Part.HasSpelling g.T.Part.spelling c.items.invariant.read one);
    }
