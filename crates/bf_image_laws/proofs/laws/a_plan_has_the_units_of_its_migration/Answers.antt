use Rattle.bf_image.proofs.planning.Planned.{units_planned}
use Rattle.bf_image_laws.proofs.laws.a_plan_has_the_units_of_its_migration.Goals as goal

pub returns : goal.returns
returns c = units_planned
