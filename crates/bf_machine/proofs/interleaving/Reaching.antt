-- What events keep, in whatever order they come.
use Rattle.std.proofs.Common.{ℕ, sym, subst}
use Rattle.bf_locks.specs.declared.answer.LockAnswer.{LockAnswer}
use Rattle.bf_locks.specs.declared.answer.LockAnswer.TheVariants.{Granted, Wait, Die}
use Rattle.bf_locks.specs.declared.mode.Mode.{Mode}
use Rattle.bf_locks.specs.declared.name.LockName.{LockName}
use Rattle.bf_tree.specs.declared.script.Script.{Script}
use Rattle.bf_sql.specs.Database.{Database}
use Rattle.bf_sql.specs.migrations.Lazy.{view_of}
use Rattle.bf_store.specs.Stores.{Store}
use Rattle.bf_machine.specs.interleaving.Events.{Asks, Event, Reaches, asks, aborts, at_once, begins, commits_now, ends_by_log, executes, finishes, moves, one_more, refuses}
use Rattle.bf_machine.specs.interleaving.Kept.{IsKept, IsOpening, IsWithinLimits, fresh_with}
use Rattle.bf_machine.specs.interleaving.Machines.{Machine, MayEnd}
use Rattle.bf_machine.proofs.interleaving.Beginning.{begins_keeps_all}
use Rattle.bf_machine.proofs.interleaving.Dying.{death_keeps_all}
use Rattle.bf_machine.proofs.interleaving.Ends.{abort_keeps_all, commit_keeps_all}
use Rattle.bf_machine.proofs.interleaving.Failing.{log_keeps_all}
use Rattle.bf_machine.proofs.interleaving.Going.{exec_keeps_all, grant_keeps_all, wait_keeps_all}
use Rattle.bf_machine.proofs.interleaving.New.{new_is_kept}
use Rattle.bf_machine.proofs.interleaving.Refusing.{refuse_keeps_all}
use Rattle.bf_machine.proofs.interleaving.Stirring.{moves_keep_all}
use Rattle.bf_machine.proofs.interleaving.Texts.{are_texts}

module _ (start : Database) where
  answer_keeps_all : (m : Machine) (kept : IsKept start m) (s : ℕ) (name : LockName) (mode : Mode) (answer : LockAnswer) (next : Machine) → Asks m s start name mode answer next → IsKept start next
  answer_keeps_all m kept s name mode Granted next by = grant_keeps_all start m kept s name mode next by
  answer_keeps_all m kept s name mode (Wait owners) next by = wait_keeps_all start m kept s name mode owners next by
  answer_keeps_all m kept s name mode (Die older) next by = death_keeps_all start m kept (are_texts m.script) s name mode older next by

  event_keeps_all : (m next : Machine) → IsKept start m → Event start m next → IsKept start next
  event_keeps_all m next kept (begins s by) = begins_keeps_all start m kept (are_texts m.script) s next by
  event_keeps_all m next kept (asks s name mode answer by) = answer_keeps_all m kept s name mode answer next by
  event_keeps_all m next kept (executes s by) = exec_keeps_all start m kept s (are_texts m.script) next by
  event_keeps_all m next kept (refuses s by) = refuse_keeps_all start m kept (are_texts m.script) s next by
  event_keeps_all m next kept (commits_now s by) = commit_keeps_all start m kept (are_texts m.script) s next by
  event_keeps_all m next kept (aborts s by) = abort_keeps_all start m kept (are_texts m.script) s next by
  event_keeps_all m next kept (moves granules by) = moves_keep_all start m kept granules next by
  event_keeps_all m next kept (ends_by_log s by) = log_keeps_all start m kept (are_texts m.script) s next by
  event_keeps_all m next kept (finishes s same) = subst (IsKept start) (sym same) kept

  pub reached_keeps_all : (m now : Machine) → IsKept start m → Reaches start m now → IsKept start now
  reached_keeps_all m _ kept at_once = kept
  reached_keeps_all m _ kept (one_more {now = now} {next = next} before event) = event_keeps_all now next (reached_keeps_all m now kept before) event

pub reached_is_kept : (may_end : MayEnd) (store : Store) (script : Script) (retries : ℕ) (m : Machine) → IsOpening store → IsWithinLimits script → Reaches (view_of store.lazy) (fresh_with may_end store script retries) m
    → IsKept (view_of store.lazy) m
reached_is_kept may_end store script retries m is within reached = reached_keeps_all (view_of store.lazy) (fresh_with may_end store script retries) m (new_is_kept may_end store script retries is within) reached
