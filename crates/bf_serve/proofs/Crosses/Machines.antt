-- A machine may go to another thread, whatever names what its run began with. A session so far is too large for one search, by its plan.
use denote.RattleType.{RattleType}
use denote.Param.Send.{IsSend, sendable}
use Rattle.std.proofs.Crossing as std
use Rattle.bf_base.proofs.sequence.Sequence.TheSendSync as sequence
use Rattle.bf_base.proofs.table.Table.TheSendSync as table
use Rattle.bf_tree.proofs.catalog.IndexRule.TheSendSync as index
use Rattle.bf_tree.proofs.history.Entry.TheSendSync as entry
use Rattle.bf_tree.proofs.reply.Reply.TheSendSync as reply
use Rattle.bf_locks.proofs.table.LockTable.TheSendSync as locks
use Rattle.bf_txn.proofs.workspace.Workspace.TheSendSync as workspace
use Rattle.bf_store.proofs.store.Store.TheSendSync as store
use Rattle.bf_machine.proofs.so_far.Began.TheSendSync as began
use Rattle.bf_machine.specs.contracts.machine.Machine as Machine
use Rattle.bf_machine.specs.contracts.so_far.OpenGroup as OpenGroup
use Rattle.bf_machine.specs.contracts.so_far.Pending as Pending
use Rattle.bf_machine.specs.contracts.so_far.SessionSoFar as SessionSoFar
use Rattle.bf_machine.specs.declared.opened.Opened as Opened
use Rattle.bf_serve.proofs.Crosses.Plans.{Plan-send}
use Rattle.bf_serve.proofs.Crosses.Scripts.{Script-send, Script-sync}

Pending-send : IsSend Pending.the_field.row
Pending-send = search (sendable, workspace.the_send, table.the_field_send, index.the_field_send, Plan-send) depth 60 fits 30000

OpenGroup-send : IsSend OpenGroup.the_field.row
OpenGroup-send = search (sendable, Pending-send) depth 60 fits 30000

SessionSoFar-send : IsSend SessionSoFar.the_field.row
SessionSoFar-send = search (sendable, std.crosses, reply.the_field_send, OpenGroup-send) depth 60 fits 30000

pub Machine-send : (N : RattleType) (o : Opened.Ghosts N.Denot) → IsSend N → IsSend (Machine.the_row N o)
Machine-send N o s = search (sendable, std.crosses, Script-send, Script-sync, store.the_send, locks.the_send, began.the_field_send, SessionSoFar-send, entry.the_field_send, sequence.the_send, reply.the_field_send) depth 60 fits 30000
