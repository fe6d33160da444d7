use Rattle.bf_tree.proofs.Renamed.{holds_on-cond_over}
use Rattle.bf_tree.proofs.laws.a_condition_over_other_columns.Goals as goal

pub returns : goal.returns
returns g c = holds_on-cond_over
