use Rattle.std.proofs.Common.{◌≡◌, length}
use Rattle.bf_wire.proofs.Lists.{IsReadTo}
use Rattle.bf_record.proofs.lists.SequencePart.take.Given as goal

abbrev pub invariant-items : goal.invariant-items
invariant-items g l = record {
  counted : length l.items.items ≡ l.counter;
  read : IsReadTo g.T.Part.HasSpelling g.T.Part.spelling l.bytes l.count l.items.items l.taken;
}
