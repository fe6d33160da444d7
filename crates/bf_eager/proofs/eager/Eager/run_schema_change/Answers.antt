use Rattle.bf_eager.proofs.eager.Eager.run_schema_change.Goals as goal

pub invariant_of-self-2 : goal.invariant_of-self-2
invariant_of-self-2 c = (c.in_ok-reply.ensures.database, c.in_ok-reply.ensures.tables)
