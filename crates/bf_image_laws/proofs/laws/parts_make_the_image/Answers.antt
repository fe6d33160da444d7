use Rattle.bf_image.proofs.cutting.Made.{as_often}
use Rattle.bf_image.proofs.finding.Owned.{same_table}
use Rattle.bf_image_laws.proofs.laws.parts_make_the_image.Goals as goal

pub returns : goal.returns
returns c = record { as_often = λ old m t test lawful among. as_often old m lawful t among test; in_order = λ old m t lawful among. same_table old m lawful t among }
