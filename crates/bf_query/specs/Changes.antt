-- Parts of the contracts of changes.
use Rattle.std.specs.Prelude.{ℕ, length, List, Option, Some, None}
use Rattle.bf_tree.specs.declared.bound.Action.{Action}
use Rattle.bf_tree.specs.declared.bound.Action.TheVariants as action
use Rattle.bf_tree.specs.declared.reply.Reply.{Reply}
use Rattle.bf_tree.specs.declared.reply.Reply.TheVariants as reply
use Rattle.bf_txn.specs.declared.write.Write.{Write}
use Rattle.bf_txn.specs.Writes.{gathered}
use Rattle.bf_query.specs.declared.change.Planned.{Planned}

-- the plan of a change that makes these writes
abbrev pub planned : List Write → Planned
planned writes = record { count = length writes; writes = gathered writes }

-- the reply to a change of so many rows
abbrev pub counted : Action → ℕ → Option Reply
counted (action.Insert table tuples) count = Some (reply.Inserted count)
counted (action.Update table sets cond fixed) count = Some (reply.Updated count)
counted (action.Delete table cond fixed) count = Some (reply.Deleted count)
counted other count = None
