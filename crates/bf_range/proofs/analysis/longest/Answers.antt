use Rattle.std.proofs.Common.{Some, rules}
use Rattle.bf_range.proofs.Told.{within_most}
use Rattle.bf_range.proofs.analysis.longest.Goals as goal

pub returns-in-Some-Texts-clause-within : goal.returns-in-Some-Texts-clause-within
returns-in-Some-Texts-clause-within c = within_most c.args.columns.now c.args.expr.now (Some c.in-Some-Texts.most) (search rules)
