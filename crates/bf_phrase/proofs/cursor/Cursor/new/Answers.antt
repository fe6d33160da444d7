use Rattle.bf_phrase.proofs.Lexed.{lexed_tokens}
use Rattle.bf_phrase.proofs.cursor.Cursor.new.Goals as goal

pub returns-clause-place : goal.returns-clause-place
returns-clause-place c = lexed_tokens c.args.text.now c.args.tokens.now c.requires
