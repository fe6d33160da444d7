use Rattle.bf_phrase.proofs.Places.{text_front}
use Rattle.bf_phrase.proofs.cursor.Cursor.front.Goals as goal

pub returns-in-Text-clause-front : goal.returns-in-Text-clause-front
returns-in-Text-clause-front c = text_front c.args.self c.in-Some.behind c.in-Some.first c.bytes_of.result c.in-Some.ensures.next c.in-Some.ensures.token c.in-Text.is c.bytes_of.ensures
