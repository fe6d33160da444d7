use Rattle.std.proofs.Common.{ap, ◌∙◌}
use Rattle.bf_recover.specs.Flips.{says_complete}
use Rattle.bf_recover.proofs.Completing.{sweep_tells}
use Rattle.bf_recover.proofs.flips.is_complete.Goals as goal

pub returns : goal.returns
returns c = c.says_complete.ensures ∙ (ap says_complete c.sweep.ensures ∙ sweep_tells c.args.store.now.lazy.last)
