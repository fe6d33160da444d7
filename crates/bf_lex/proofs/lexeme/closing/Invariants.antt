use Rattle.std.proofs.Common.{length}
use Rattle.bf_lex.proofs.Quotes.{Written}
use Rattle.bf_lex.proofs.lexeme.closing.Given as goal

abbrev pub invariant-loop-rest : goal.invariant-loop-rest
invariant-loop-rest l = Written l.text l.rest l.count

abbrev pub decreases-loop-rest : goal.decreases-loop-rest
decreases-loop-rest l = length l.rest
