use Rattle.bf_phrase.proofs.Names.{name_fits}
use Rattle.bf_phrase.proofs.part.NamePart.read.Goals as goal

pub returns-clause-fits : goal.returns-clause-fits
returns-clause-fits c = name_fits _ _ c.name.ensures.found
