use Rattle.std.proofs.Common.{Some, w64, to_z, of_z, rules}
use Rattle.bf_range.proofs.Told.{within_ends}
use Rattle.bf_range.proofs.analysis.interval.Goals as goal

pub returns-in-Some-Numbers-clause-within : goal.returns-in-Some-Numbers-clause-within
returns-in-Some-Numbers-clause-within c =
    within_ends c.args.columns.now c.args.expr.now (Some (to_z w64 (of_z w64 c.in-Some-Numbers.low), to_z w64 (of_z w64 c.in-Some-Numbers.high))) (search rules)
