use Rattle.std.proofs.Common.{rules}
use Rattle.bf_range.proofs.Told.{never_fails}
use Rattle.bf_range.proofs.analysis.cannot_fail.Goals as goal

pub returns-clause-never : goal.returns-clause-never
returns-clause-never c = never_fails c.args.columns.now c.args.expr.now c.is_some.result (search rules)
