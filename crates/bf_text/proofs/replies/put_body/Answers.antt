use Rattle.bf_text.proofs.replies.put_body.Goals as goal

pub returns-in-RolledBack : goal.returns-in-RolledBack
returns-in-RolledBack c = rw c.in-RolledBack.is c.put-in-RolledBack.ensures
