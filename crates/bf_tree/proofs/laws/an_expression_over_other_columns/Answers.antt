use Rattle.bf_tree.proofs.Renamed.{value_of-expr_over}
use Rattle.bf_tree.proofs.laws.an_expression_over_other_columns.Goals as goal

pub returns : goal.returns
returns g c = value_of-expr_over
