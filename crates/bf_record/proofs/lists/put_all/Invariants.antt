use Rattle.std.proofs.Common.{◌≡◌, ◌++◌, length, take, All}
use Rattle.std.specs.List.{flat_map}
use Rattle.bf_wire.specs.Spellings.{word_spelling}
use Rattle.bf_record.proofs.lists.put_all.Given as goal

abbrev pub invariant-items : goal.invariant-items
invariant-items g l = record {
  all : All g.T.Part.IsShallow l.items → All g.T.Part.HasSpelling (take l.item-index l.items);
  written : l.out.items ≡ (l.fn.out.items ++ word_spelling (length l.items)) ++ flat_map g.T.Part.spelling (take l.item-index l.items);
}
