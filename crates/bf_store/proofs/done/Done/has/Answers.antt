use Rattle.std.proofs.Common.{is_some, ap, ◌∙◌}
use Rattle.bf_store.proofs.Marking.{is_some-number_in}
use Rattle.bf_store.proofs.done.Done.has.Goals as goal

pub returns : goal.returns
returns c = c.is_some.ensures ∙ ap is_some c.number.ensures ∙ is_some-number_in c.args.self.now c.args.granule.now
