use Rattle.std.proofs.Common.{◌≡◌, map}
use Rattle.std.specs.List.{range_with_len}
use Rattle.bf_demo.specs.Script.{account}
use Rattle.bf_demo.proofs.script.opened.Given as goal

abbrev pub invariant-loop-k : goal.invariant-loop-k
invariant-loop-k l = l.rows.items ≡ map account (range_with_len l.first l.k)
