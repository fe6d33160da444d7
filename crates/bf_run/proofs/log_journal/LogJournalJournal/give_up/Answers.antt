use Rattle.bf_run.proofs.Telling.{given_up, goes_given_up}
use Rattle.bf_run.proofs.log_journal.LogJournalJournal.give_up.Goals as goal

pub returns : goal.returns
returns g c = λ lazy next older answered. (
  given_up lazy next older.log _ _ answered.0 (c.give_up.ensures.fails lazy next older.log) (c.give_up.ensures.stands lazy next older.log),
  goes_given_up older.log _ _ answered.1 c.give_up.ensures.spent,
  tt,
)
