-- A group that has begun is one of its session's.
use Rattle.bf_machine.proofs.interleaving.EndsAs.{ended_by, ends_as}
use Rattle.bf_machine.proofs.interleaving_laws.a_group_ends_in_the_history_or_by_a_cause.Goals as goal

pub returns : goal.returns
returns c = λ start m s group n kept has.
    let whole = (kept.locks_consistent.begun s group n has).whole in
    (ends_as start m kept s group whole, ended_by start m kept s group whole)
