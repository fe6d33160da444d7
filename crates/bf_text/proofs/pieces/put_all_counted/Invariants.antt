use Rattle.std.proofs.Common.{◌≡◌, ◌++◌, take}
use Rattle.bf_text.specs.Report.{texts_from}
use Rattle.bf_text.proofs.pieces.put_all_counted.Given as goal

abbrev pub invariant-loop-index : goal.invariant-loop-index
invariant-loop-index g l = l.out.items ≡ l.fn.out.items ++ texts_from (g.T.Counted.text l.whole) 1 (take l.index l.things)
