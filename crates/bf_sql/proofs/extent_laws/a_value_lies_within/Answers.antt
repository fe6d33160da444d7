use Rattle.bf_sql.proofs.extents.Within.{value_within}
use Rattle.bf_sql.proofs.extent_laws.a_value_lies_within.Goals as goal

pub returns : goal.returns
returns g c = λ admitted read held e safe. value_within admitted read held e safe
