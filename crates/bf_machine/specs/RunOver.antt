-- A run over a database by sessions that a log may end.
use Rattle.std.specs.Prelude.{◌≡◌, ℕ, true, List, Contains}
use Rattle.bf_tree.specs.Answered.{IsAllAnswered}
use Rattle.bf_tree.specs.declared.history.Entry.{Entry}
use Rattle.bf_tree.specs.declared.history.Sweep.{Sweep}
use Rattle.bf_tree.specs.declared.reply.Cause.{Cause}
use Rattle.bf_tree.specs.declared.reply.Reply.{Reply}
use Rattle.bf_tree.specs.declared.script.Script.{Script}
use Rattle.bf_sql.specs.Database.{Database}
use Rattle.bf_sql.specs.History.{IsLegalHistory, replayed}
use Rattle.bf_sql.specs.migrations.Lazy.{LazyState, sweep_of, view_of}
use Rattle.bf_machine.specs.InOrder.{none_open}
use Rattle.bf_machine.specs.interleaving.Kept.{is_of_log}
use Rattle.bf_machine.specs.interleaving.Machines.{EndedGroup}

-- a group ends by a cause of a log, as one of those that it has ended, and none dies
abbrev pub EndsByLogAlone : List EndedGroup → ℕ → ℕ × ℕ → Cause → Type 0
EndsByLogAlone ended session group cause = (is_of_log cause ≡ true) × Contains ended (record { session = session; group = group; cause = cause })

-- RUN of a script over a database, some of whose groups a log has ended: transcripts and history are legal from it, every statement has
-- its reply, and the sweep is that of a state that is seen as the last database
pub record IsRunOver (start : Database) (script : Script) (ended : List EndedGroup) (transcripts : List (List Reply)) (history : List Entry) (sweep : Sweep) : Type 0 where
  pub history_legal : IsLegalHistory script (EndsByLogAlone ended) none_open start transcripts history
  pub all_answered : IsAllAnswered script transcripts
  pub last : LazyState
  pub seen_as : view_of last ≡ (replayed script start history).1
  pub swept : sweep ≡ sweep_of last.last
