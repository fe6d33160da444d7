use Rattle.bf_image.proofs.finding.Owner.{looked_up, few_places}
use Rattle.bf_image_laws.proofs.laws.an_owner_is_looked_up.Goals as goal

pub returns : goal.returns
returns c = record { owner = λ old m t key lawful among. looked_up old m lawful t among key; few = few_places }
