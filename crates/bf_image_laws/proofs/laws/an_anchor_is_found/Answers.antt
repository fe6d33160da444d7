use Rattle.bf_image.proofs.cutting.Anchors.{count_is, place_is}
use Rattle.bf_image_laws.proofs.laws.an_anchor_is_found.Goals as goal

pub returns : goal.returns
returns c = record { count = count_is; place = place_is }
