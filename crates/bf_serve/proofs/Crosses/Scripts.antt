-- A script may cross threads. It is too large for one search, by the statement that is a MIGRATE.
use denote.Param.Send.{IsSend, IsSync, sendable}
use Rattle.bf_base.proofs.name.Name.TheSendSync as name
use Rattle.bf_base.proofs.row.Row.TheSendSync as row
use Rattle.bf_base.proofs.sequence.Sequence.TheSendSync as sequence
use Rattle.bf_tree.proofs.statement.ColumnRule.TheSendSync as rule
use Rattle.bf_tree.specs.contracts.script.Script as Script
use Rattle.bf_tree.specs.contracts.script.Session as Session
use Rattle.bf_tree.specs.contracts.statement.Statement as Statement
use Rattle.bf_serve.proofs.Crosses.Migrates.{Migrate-send, Migrate-sync, as_written}

Statement-send : IsSend Statement.the_field.row
Statement-send = search (as_written, name.the_send, row.the_send, sequence.the_send, rule.the_field_send, Migrate-send) depth 60 fits 30000

Statement-sync : IsSync Statement.the_field.row
Statement-sync = search (as_written, name.the_sync, row.the_sync, sequence.the_sync, rule.the_field_sync, Migrate-sync) depth 60 fits 30000

Session-send : IsSend Session.the_field.row
Session-send = search (sendable, sequence.the_send, Statement-send) depth 60 fits 30000

Session-sync : IsSync Session.the_field.row
Session-sync = search (sendable, sequence.the_sync, Statement-sync) depth 60 fits 30000

pub Script-send : IsSend Script.the_field.row
Script-send = search (sendable, sequence.the_send, Session-send) depth 60 fits 30000

pub Script-sync : IsSync Script.the_field.row
Script-sync = search (sendable, sequence.the_sync, Session-sync) depth 60 fits 30000
