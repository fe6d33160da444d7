use Rattle.bf_image.proofs.finding.Owned.{image_rises}
use Rattle.bf_image_laws.proofs.laws.an_image_has_each_key_once.Goals as goal

pub returns : goal.returns
returns c = λ old m t lawful among. image_rises old m lawful t among
