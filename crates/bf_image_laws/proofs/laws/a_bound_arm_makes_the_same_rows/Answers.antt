use Rattle.bf_image.proofs.making.PlacedArms.{placed_alike}
use Rattle.bf_image_laws.proofs.laws.a_bound_arm_makes_the_same_rows.Goals as goal

pub returns : goal.returns
returns c = placed_alike
