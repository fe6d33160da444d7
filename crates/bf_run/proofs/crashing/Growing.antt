-- The history of a machine grows by an entry at a commit and at an abort, and at no other event.
use Rattle.std.proofs.Common.{◌≡◌, ◌⊎◌, inl, inr, ⊎_elim, ℕ, [], ◌∷◌, ◌++◌, ◌+◌, refl, ◌∙◌, ap}
use Rattle.bf_locks.specs.declared.answer.LockAnswer.{LockAnswer}
use Rattle.bf_locks.specs.declared.answer.LockAnswer.TheVariants.{Granted, Wait, Die}
use Rattle.bf_locks.specs.declared.mode.Mode.{Mode}
use Rattle.bf_locks.specs.declared.name.LockName.{LockName}
use Rattle.bf_sql.specs.Database.{Database}
use Rattle.bf_tree.specs.declared.history.Entry.{Entry}
use Rattle.bf_tree.specs.declared.history.Outcome.TheVariants.{Committed, RolledBack}
use Rattle.bf_machine.specs.interleaving.Events.{Event, asked, asks, aborts, begins, commits_behind, commits_now, ends_by_log, entry_of, executes, finishes, moves, refuses}
use Rattle.bf_machine.specs.interleaving.Machines.{Machine, Open}

-- the script stays, and the history stays or has one entry more
abbrev pub Grows : Machine → Machine → Type 0
Grows now next = (next.script ≡ now.script) × ((next.history ≡ now.history) ⊎ ((entry : Entry) × (next.history ≡ now.history ++ entry ∷ [])))

module _ (now next : Machine) where
  rests : (made : Machine) → next ≡ made → made.script ≡ now.script → made.history ≡ now.history → Grows now next
  rests made is script history = (ap (λ (m : Machine). m.script) is ∙ script, inl (ap (λ (m : Machine). m.history) is ∙ history))

  enters : (made : Machine) (entry : Entry) → next ≡ made → made.script ≡ now.script → made.history ≡ now.history ++ entry ∷ [] → Grows now next
  enters made entry is script history = (ap (λ (m : Machine). m.script) is ∙ script, inr (entry, ap (λ (m : Machine). m.history) is ∙ history))

  answered : (s : ℕ) (o : Open) (name : LockName) (mode : Mode) (answer : LockAnswer) → next ≡ asked now s o name mode answer → Grows now next
  answered s o name mode Granted is = rests _ is refl refl
  answered s o name mode (Wait owners) is = rests _ is refl refl
  answered s o name mode (Die older) is = rests _ is refl refl

  pub grows_by : (start : Database) → Event start now next → Grows now next
  grows_by start (begins s by) = ⊎_elim (λ first. rests _ first.1 refl refl) (λ again. rests _ again.3 refl refl) by.goes
  grows_by start (asks s name mode answer by) = answered s by.o name mode answer by.goes
  grows_by start (executes s by) = rests _ by.goes refl refl
  grows_by start (refuses s by) = rests _ by.goes refl refl
  grows_by start (commits_now s by) = enters _ (entry_of now s by.can.o (Committed (commits_behind 0 now.history + 1))) by.goes refl refl
  grows_by start (aborts s by) = enters _ (entry_of now s by.o RolledBack) by.goes refl refl
  grows_by start (moves granules by) = rests _ by.goes refl refl
  grows_by start (ends_by_log s by) = rests _ by.goes refl refl
  grows_by start (finishes s same) = rests now same refl refl
