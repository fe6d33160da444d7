use Rattle.std.proofs.Common.{length}
use Rattle.bf_lex.proofs.Gaps.{Passed}
use Rattle.bf_lex.proofs.gap.behind_gap.Given as goal

abbrev pub invariant-loop-rest : goal.invariant-loop-rest
invariant-loop-rest l = Passed l.text l.rest

abbrev pub decreases-loop-rest : goal.decreases-loop-rest
decreases-loop-rest l = length l.rest
