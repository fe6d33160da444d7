use Rattle.std.proofs.Common.{sym, ◌∙◌}
use Rattle.bf_store.proofs.Groups.{groups_here}
use Rattle.bf_store.proofs.unit_marks.UnitMarks.groups.Goals as goal

pub returns : goal.returns
returns c = λ unit. c.len.ensures.len ∙ sym (groups_here unit c.args.self.now)
