use Rattle.bf_wire.specs.Spellings.{IsName}
use Rattle.bf_wire.proofs.Texts.{none_there}
use Rattle.bf_wire.proofs.text.NameField.take.Goals as goal

pub returns-in-None : goal.returns-in-None
returns-in-None c = none_there IsName _ _ _ c.in-Some.ensures.some (rw c.in-None.is at c.in_ok-name.ensures)
