use Rattle.std.proofs.Common.{length}
use Rattle.bf_lex.proofs.Contents.{Copied}
use Rattle.bf_lex.proofs.lexer.content.Given as goal

abbrev pub invariant-loop-rest : goal.invariant-loop-rest
invariant-loop-rest l = Copied l.bytes l.inner l.rest l.length

abbrev pub decreases-loop-rest : goal.decreases-loop-rest
decreases-loop-rest l = length l.rest
