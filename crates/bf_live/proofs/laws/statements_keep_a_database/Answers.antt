use Rattle.bf_live.proofs.keeps.Statements.{empty_is_database, keeps_plain}
use Rattle.bf_live.proofs.laws.statements_keep_a_database.Goals as goal

pub returns : goal.returns
returns c = record { empty = empty_is_database; next = keeps_plain }
