use Rattle.bf_phrase.proofs.Places.{not_behind}
use Rattle.bf_phrase.proofs.cursor.Cursor.expect_keyword.Goals as goal

pub returns-in-None-clause-found : goal.returns-in-None-clause-found
returns-in-None-clause-found c = not_behind _ c.args.self.text.now c.args.self.tokens.now c.in-None.ensures.found
