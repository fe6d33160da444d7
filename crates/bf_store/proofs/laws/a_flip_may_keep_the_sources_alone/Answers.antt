use Rattle.bf_store.proofs.changing.Keeping.{flips_frozen}
use Rattle.bf_store.proofs.laws.a_flip_may_keep_the_sources_alone.Goals as goal

pub returns : goal.returns
returns c = flips_frozen
