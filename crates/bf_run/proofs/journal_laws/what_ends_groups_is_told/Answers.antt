use Rattle.bf_run.specs.Answers.{HasAnswered}
use Rattle.bf_run.specs.declared.log_journal.LogJournal.{LogJournal}
use Rattle.bf_run.proofs.Ending.{events_told}
use Rattle.bf_run.proofs.Replied.{told_their_causes}
use Rattle.bf_run.proofs.journal_laws.what_ends_groups_is_told.Goals as goal

pub returns-clause-causes : goal.returns-clause-causes
returns-clause-causes g c = λ start m next j k keeps ready. events_told (λ j. j.log) start m j next k keeps ready

pub returns-clause-replies : goal.returns-clause-replies
returns-clause-replies g c = λ start m next j k keeps kept. told_their_causes (λ lazy next (old : LogJournal g.row.D.Denot g.D.Disk) new answer. HasAnswered lazy next old.log new.log answer) start m j next k kept keeps
