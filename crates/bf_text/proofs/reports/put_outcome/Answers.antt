use Rattle.bf_text.proofs.reports.put_outcome.Goals as goal

pub returns-in-RolledBack : goal.returns-in-RolledBack
returns-in-RolledBack c = rw c.in-RolledBack.is c.put.ensures
