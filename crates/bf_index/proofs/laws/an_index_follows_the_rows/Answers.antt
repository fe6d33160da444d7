use Rattle.bf_index.proofs.Upkeep.{edited_is, length-index_of, unchanged}
use Rattle.bf_index.proofs.laws.an_index_follows_the_rows.Goals as goal

pub returns-clause-edits : goal.returns-clause-edits
returns-clause-edits c = edited_is

pub returns-clause-unchanged : goal.returns-clause-unchanged
returns-clause-unchanged c = λ columns entries key row former h. unchanged columns entries h key row former

pub returns-clause-size : goal.returns-clause-size
returns-clause-size c = length-index_of
