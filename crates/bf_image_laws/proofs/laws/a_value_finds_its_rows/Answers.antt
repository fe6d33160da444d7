use Rattle.bf_index.proofs.Indexed.{values_are, under_is, rows_are}
use Rattle.bf_image_laws.proofs.laws.a_value_finds_its_rows.Goals as goal

pub returns-clause-values : goal.returns-clause-values
returns-clause-values c = values_are

pub returns-clause-positions : goal.returns-clause-positions
returns-clause-positions c = under_is

pub returns-clause-rows : goal.returns-clause-rows
returns-clause-rows c = λ rows made value. rows_are made value rows
