use Rattle.std.proofs.Common.{sym}
use Rattle.bf_words.proofs.words.read_words.Goals as goal

pub returns-in-Some-clause-read : goal.returns-in-Some-clause-read
returns-in-Some-clause-read c = sym c.in-Some.ensures
