use Rattle.bf_image.proofs.finding.Owned.{sweep_meets}
use Rattle.bf_image_laws.proofs.laws.a_sweep_meets_each_granule.Goals as goal

pub returns : goal.returns
returns c = sweep_meets
