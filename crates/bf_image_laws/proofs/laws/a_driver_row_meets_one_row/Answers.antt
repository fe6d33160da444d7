use Rattle.std.proofs.Common.{refl}
use Rattle.bf_sql.specs.migrations.Targets.{arm_kind}
use Rattle.bf_image.proofs.finding.Owner.{its_arm_two_sided}
use Rattle.bf_image.proofs.finding.Meets.{driven_met}
use Rattle.bf_image_laws.proofs.laws.a_driver_row_meets_one_row.Goals as goal

pub returns : goal.returns
returns c = λ old m t arm driver at lawful among within. driven_met old lawful.database arm (its_arm_two_sided old m lawful t among arm within) (arm_kind old arm) refl driver at
