use Rattle.bf_base.specs.Texts.{IsText}
use Rattle.bf_wire.proofs.Texts.{none_there}
use Rattle.bf_wire.proofs.text.TextField.take.Goals as goal

pub returns-in-None : goal.returns-in-None
returns-in-None c = none_there IsText _ _ _ c.in-Some.ensures.some (rw c.in-None.is at c.in_ok-text.ensures)
