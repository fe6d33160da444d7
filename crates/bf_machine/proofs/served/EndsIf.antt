-- A commit as it ends a turn, and a group as it ends behind its last reply.
use Rattle.std.proofs.Common.{◌≡◌, ℕ, true, refl, inl, inr}
use Rattle.bf_sql.specs.Database.{Database}
use Rattle.bf_machine.specs.declared.stand.Turn.{Turn}
use Rattle.bf_machine.specs.declared.stand.Turn.TheVariants as turn
use Rattle.bf_machine.specs.interleaving.Events.{Aborts}
use Rattle.bf_machine.specs.interleaving.Kept.{IsKept}
use Rattle.bf_machine.specs.interleaving.Machines.{Machine}
use Rattle.bf_machine.specs.interleaving.Serving.{EndsIfAnswered, HasMore, HasReply, IsCommit, IsEndIfAnswered, IsTurn, is_answered}
use Rattle.bf_machine.proofs.served.Events.{serves_not}
use Rattle.bf_machine.proofs.served.Failing.{failed_here}
use Rattle.bf_machine.proofs.served.Goes.{abort_adds_none, abort_ends, abort_goes_on, abort_settles, commit_adds_none, commit_ends, commit_goes_on, commit_settles, more_settles}

module _ {start : Database} (m : Machine) (kept : IsKept start m) (s : ℕ) where
  pub commit_turn : (t : Turn) (next : Machine) → IsCommit m s t next → IsTurn m s start t next
  commit_turn turn.Served next by = commit_goes_on m kept s next by
  commit_turn (turn.Ended cause) next by = failed_here m s next by.0 kept cause by.1
  commit_turn turn.Passed next by = absurd by
  commit_turn turn.Waited next by = absurd by
  commit_turn turn.Died next by = absurd by

  -- it goes on
  pub goes_on_if : HasMore m s → HasReply m s → EndsIfAnswered m s m
  goes_on_if more has_reply = record {
    serves = serves_not m s;
    replies = refl;
    more = more;
    has_reply = has_reply;
    settled = more_settles m kept s more;
    ended = inl refl;
  }

  -- or ends
  module _ (answered : is_answered m s ≡ true) where
    pub commit_if : (t : Turn) (next : Machine) → IsCommit m s t next → IsEndIfAnswered m s t next
    commit_if turn.Served next by = let gone = commit_goes_on m kept s next by in record {
      serves = gone.serves;
      replies = commit_adds_none m kept s answered next by;
      more = gone.more;
      has_reply = gone.has_reply;
      settled = commit_settles m kept s next by;
      ended = inr (commit_ends m kept s answered next by);
    }
    commit_if (turn.Ended cause) next by = by
    commit_if turn.Passed next by = absurd by
    commit_if turn.Waited next by = absurd by
    commit_if turn.Died next by = absurd by

    pub abort_if : (next : Machine) → Aborts m s next → EndsIfAnswered m s next
    abort_if next by = let gone = abort_goes_on m kept s next by in record {
      serves = gone.serves;
      replies = abort_adds_none m kept s answered next by;
      more = gone.more;
      has_reply = gone.has_reply;
      settled = abort_settles m kept s next by;
      ended = inr (abort_ends m kept s answered next by);
    }
