use Rattle.bf_sql.proofs.extents.Totals.{total_within, total_unobjected}
use Rattle.bf_sql.proofs.extent_laws.a_total_lies_within.Goals as goal

pub returns-clause-within : goal.returns-clause-within
returns-clause-within g c = λ admitted read rows each few total. total_within admitted read rows each few total

pub returns-clause-unobjected : goal.returns-clause-unobjected
returns-clause-unobjected g c = λ admitted read rows each few total safe. total_unobjected admitted read rows each few total safe
