-- Further events, behind those before.
use Rattle.std.proofs.Common.{◌≡◌, ◌≢◌, ℕ, Result, Ok, Err, IfOk, OnErr, refl, sym, ap, subst, inl}
use Rattle.bf_base.specs.declared.memory.Memory.{Memory}
use Rattle.bf_sql.specs.Database.{Database}
use Rattle.bf_sql.specs.migrations.Lazy.{LazyState}
use Rattle.bf_tree.specs.declared.reply.Cause.{Cause}
use Rattle.bf_machine.specs.declared.journal.KeepError.{KeepError}
use Rattle.bf_machine.specs.declared.stand.Ending.{Ending}
use Rattle.bf_machine.specs.declared.stand.Ending.TheVariants.{Committed, Ended}
use Rattle.bf_locks.specs.declared.answer.LockAnswer.{LockAnswer}
use Rattle.bf_locks.specs.declared.mode.Mode.{Mode}
use Rattle.bf_locks.specs.declared.name.LockName.{LockName}
use Rattle.bf_tree.specs.declared.bound.Bound.{Bound}
use Rattle.bf_machine.specs.interleaving.Calls.{HasReplied, IsEnding}
use Rattle.bf_machine.specs.interleaving.Events.{Aborts, Asks, Begins, aborts, commits_now}
use Rattle.bf_machine.specs.interleaving.Journals.{IsBeside, IsChangeOf, IsLeftFor, IsRefused, Keeps, nothing_yet, one_beside}
use Rattle.bf_machine.specs.interleaving.Machines.{Machine}
use Rattle.bf_machine.specs.interleaving.Serving.{LeavesStore}
use Rattle.bf_machine.proofs.keeping.Beside.{beside_weaker}
use Rattle.bf_machine.proofs.served.Keeping.{keeps_both, keeps_end, keeps_leaves, keeps_reply, keeps_still, leaves_asking, leaves_beginning, leaves_not}
use Rattle.bf_serve.specs.Come.{HasCome}

-- the store stays where nothing happens, where a lock is asked for, and where a statement has its reply
pub leaves_same : (start : Database) (m next : Machine) → next ≡ m → LeavesStore start m next
leaves_same start m next same = leaves_not start m next same

pub leaves_asked : (start : Database) (m next : Machine) (s : ℕ) (name : LockName) (mode : Mode) (answer : LockAnswer) → Asks m s start name mode answer next → LeavesStore start m next
leaves_asked start m next s name mode answer by = leaves_asking start m m next (leaves_not start m m refl) s name mode answer by

pub leaves_replied : (start : Database) (m next : Machine) (s : ℕ) (bound : Bound) → HasReplied m s bound next → LeavesStore start m next
leaves_replied start m next s bound by = keeps_reply {J = Unit {0}} (λ lazy then before after answer. ⊥) start m tt m tt s bound next nothing_yet by

module _ {J : Type 0} (Answers : LazyState → LazyState → J → J → Result (Unit {0}) KeepError → Type 0) (start : Database) where
  -- one call each
  pub keeps_by_abort : (m next : Machine) (j : J) (s : ℕ) → Aborts m s next → Keeps Answers start m j next j
  keeps_by_abort m next j s by = one_beside nothing_yet (aborts s by) (inl (ap (λ (k : Machine). k.lazy) by.goes, refl))

  of_session : (j k : J) (s : ℕ) (m next : Machine) → IsBeside Answers (IsLeftFor m s) m.lazy next.lazy j k → IsBeside Answers (IsChangeOf m) m.lazy next.lazy j k
  of_session j k s m next beside = beside_weaker Answers (IsLeftFor m s) m.lazy next.lazy j k (IsChangeOf m) (λ change is. (s, inl is)) beside

  pub keeps_by_commit : (m next : Machine) (j k : J) (s : ℕ) (r : Result Ending Memory) → IfOk r (λ ending. IsEnding m s next ending) → OnErr r (next ≡ m)
      → (((cause : Cause) → r ≢ Ok (Ended cause)) → IsBeside Answers (IsLeftFor m s) m.lazy next.lazy j k)
      → ((cause : Cause) → r ≡ Ok (Ended cause) → IsRefused Answers (IsLeftFor m s) m.lazy j k cause)
      → Keeps Answers start m j next k
  keeps_by_commit m next j k s (Ok (Committed n)) ending err beside refused = one_beside nothing_yet (commits_now s ending.0) (of_session j k s m next (beside (λ cause same. cc)))
  keeps_by_commit m next j k s (Ok (Ended cause)) ending err beside refused =
      let not = refused cause refl in
      keeps_end Answers start m j m j k s next cause nothing_yet ending.0 ending.1 (not.0, inl not.1, not.2)
  keeps_by_commit m next j k s (Err memory) ending err beside refused = keeps_still Answers start m j m j next k nothing_yet err (of_session j k s m next (beside (λ cause same. cc)))

module _ {J : Type 0} (Answers : LazyState → LazyState → J → J → Result (Unit {0}) KeepError → Type 0) (start : Database) (begins : Machine → J → Type 0) where
  pub comes_at_once : (m : Machine) (j : J) → begins m j → HasCome Answers start begins m j
  comes_at_once m j began = record { m = m; j = j; began = began; keeps = nothing_yet }

  pub comes_on : (now : Machine) (k : J) (next : Machine) (l : J) → HasCome Answers start begins now k → Keeps Answers start now k next l → HasCome Answers start begins next l
  comes_on now k next l come more = record { m = come.m; j = come.j; began = come.began; keeps = keeps_both Answers start come.m come.j now k next l come.keeps more }

  pub comes_still : (now : Machine) (k : J) (next : Machine) → HasCome Answers start begins now k → next ≡ now → HasCome Answers start begins next k
  comes_still now k next come same = subst (λ (n : Machine). HasCome Answers start begins n k) (sym same) come

  pub comes_leaving : (now : Machine) (k : J) (next : Machine) → HasCome Answers start begins now k → LeavesStore start now next → HasCome Answers start begins next k
  comes_leaving now k next come left = comes_on now k next k come (keeps_leaves Answers start now next k left)

  pub comes_by_begin : (now : Machine) (k : J) (next : Machine) (s : ℕ) → HasCome Answers start begins now k → Begins now s next → HasCome Answers start begins next k
  comes_by_begin now k next s come by = comes_leaving now k next come (leaves_beginning start now next s by)

  pub comes_by_abort : (now : Machine) (k : J) (next : Machine) (s : ℕ) → HasCome Answers start begins now k → Aborts now s next → HasCome Answers start begins next k
  comes_by_abort now k next s come by = comes_on now k next k come (keeps_by_abort Answers start now next k s by)

module _ {J : Type 0} (Answers : LazyState → LazyState → J → J → Result (Unit {0}) KeepError → Type 0) (start : Database) where
  -- where the beginning is one machine beside one journal
  pub from_beginning : (m : Machine) (j : J) (next : Machine) (l : J) → HasCome Answers start (λ n k. (n ≡ m) × (k ≡ j)) next l → Keeps Answers start m j next l
  from_beginning m j next l come =
      subst (λ (n : Machine). Keeps Answers start n j next l) come.began.0 (subst (λ (k : J). Keeps Answers start come.m k next l) come.began.1 come.keeps)
