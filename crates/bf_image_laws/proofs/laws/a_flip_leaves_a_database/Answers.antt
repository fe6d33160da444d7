use Rattle.bf_image.proofs.admitting.Flip.{flip_keeps}
use Rattle.bf_image_laws.proofs.laws.a_flip_leaves_a_database.Goals as goal

pub returns : goal.returns
returns c = λ old m lawful. flip_keeps old m lawful
