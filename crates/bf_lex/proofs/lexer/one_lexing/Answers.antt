use Rattle.bf_lex.proofs.OneLexing.{one_lexing}
use Rattle.bf_lex.proofs.lexer.one_lexing.Goals as goal

pub returns : goal.returns
returns c = one_lexing
