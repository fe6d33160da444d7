use Rattle.bf_store.proofs.changing.Flipping.{flips}
use Rattle.bf_store.proofs.laws.a_lazy_flip_is_seen_as_the_flip.Goals as goal

pub returns : goal.returns
returns c = flips
