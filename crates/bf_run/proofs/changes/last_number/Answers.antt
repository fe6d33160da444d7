use Rattle.std.proofs.Common.{ap, ◌∙◌}
use Rattle.bf_run.specs.Records.{number_in}
use Rattle.bf_run.proofs.Moved.{last_counted}
use Rattle.bf_run.proofs.changes.last_number.Goals as goal

pub returns : goal.returns
returns c = c.number_in.ensures ∙ ap number_in c.sweep.ensures ∙ last_counted c.args.store.now.lazy.last
