use Rattle.std.proofs.Common.{sym, arith}
use Rattle.bf_lex.proofs.Signs.{sign_token_at}
use Rattle.bf_lex.proofs.Firsts.{bad_byte}
use Rattle.bf_lex.proofs.lexeme.sign.Goals as goal

pub returns-in-Some : goal.returns-in-Some
returns-in-Some c = sign_token_at c.args.text.now c.in-Some.sign c.in-Some.length c.requires.no_gap (sym c.in-Some.ensures)

pub returns-in-None : goal.returns-in-None
returns-in-None c = (bad_byte c.args.text.now c.requires.some c.requires.no_gap c.requires.no_word c.requires.no_number c.requires.no_quote (sym c.in-None.ensures), omega arith)
