use Rattle.bf_image.proofs.finding.Owned.{one_owner}
use Rattle.bf_image_laws.proofs.laws.a_key_has_one_owner.Goals as goal

pub returns : goal.returns
returns c = λ old m t key lawful among. one_owner old m lawful t among key
