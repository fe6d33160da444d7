use Rattle.std.proofs.Common.{◌≡◌, ◌+◌, flat_map}
use Rattle.std.specs.List.{range_with_len}
use Rattle.bf_demo.specs.Script.{credit}
use Rattle.bf_demo.proofs.script.credits.Given as goal

abbrev pub invariant-loop-j : goal.invariant-loop-j
invariant-loop-j l = l.statements.items ≡ flat_map (λ j. credit l.s (l.before + j)) (range_with_len 1 l.j)
