-- Events beside a journal, one after the other.
use Rattle.std.proofs.Common.{◌≡◌, ◌⊎◌, ℕ, [], refl, sym, ap, subst, ◌∙◌, inl, inr}
use Rattle.std.specs.Prelude.{Bool, Result, Ok, Err}
use Rattle.bf_locks.specs.declared.answer.LockAnswer.{LockAnswer}
use Rattle.bf_locks.specs.declared.answer.LockAnswer.TheVariants.{Die, Granted, Wait}
use Rattle.bf_locks.specs.declared.mode.Mode.{Mode}
use Rattle.bf_locks.specs.declared.name.LockName.{LockName}
use Rattle.bf_tree.specs.declared.bound.Bound.{Bound}
use Rattle.bf_sql.specs.Database.{Database}
use Rattle.bf_sql.specs.migrations.Lazy.{LazyState}
use Rattle.bf_tree.specs.declared.reply.Cause.{Cause}
use Rattle.bf_machine.specs.declared.journal.KeepError.{KeepError}
use Rattle.bf_machine.specs.declared.journal.KeepError.TheVariants.{Ended, Memory}
use Rattle.bf_machine.specs.interleaving.Events.{Asks, Begins, EndsByLog, Event, Reaches, aborts, asked, asks, at_once, begins, commits_now, ends_by_log, executes, finishes, moves, one_more, refuses}
use Rattle.bf_machine.specs.interleaving.Journals.{IsBeside, IsChangeOf, IsEventBeside, IsRefused, IsUnkeptFor, Keeps, KeepsOrIsRefused, ended_by, nothing_yet, one_beside, unkept_move}
use Rattle.bf_machine.specs.interleaving.Calls.{HasReplied}
use Rattle.bf_machine.specs.interleaving.Machines.{Machine, Open}
use Rattle.bf_machine.specs.interleaving.Serving.{LeavesStore}

module _ {J : Type 0} (Answers : LazyState → LazyState → J → J → Result (Unit {0}) KeepError → Type 0) (start : Database) where
  pub keeps_both : (m : Machine) (j : J) (now : Machine) (k : J) (next : Machine) (l : J) → Keeps Answers start m j now k → Keeps Answers start now k next l → Keeps Answers start m j next l
  keeps_both m j now k _ _ one nothing_yet = one
  keeps_both m j now k _ _ one (one_beside {now = then} {next = next} {k = h} {l = l} before event beside) =
      one_beside (keeps_both m j now k then h one before) event beside
  keeps_both m j now k _ _ one (unkept_move {now = then} {k = h} {l = l} before cause refused) =
      unkept_move (keeps_both m j now k then h one before) cause refused

  -- where neither changes
  pub keeps_not : (m next : Machine) (j k : J) → next ≡ m → k ≡ j → Keeps Answers start m j next k
  keeps_not m next j k same unmoved = subst (λ (n : Machine). Keeps Answers start m j n k) (sym same) (subst (Keeps Answers start m j m) (sym unmoved) nothing_yet)

  -- where the machine stays, and the journal does or had no memory
  pub keeps_still : (m : Machine) (j : J) (now : Machine) (k : J) (next : Machine) (l : J) → Keeps Answers start m j now k → next ≡ now → IsBeside Answers (IsChangeOf now) now.lazy next.lazy k l → Keeps Answers start m j next l
  keeps_still m j now k next l before same beside = one_beside before (finishes 0 same) beside

  -- an event with its journal: the store changes beside it, and no group ends by a cause; or one does, for which a change was refused
  pub event_beside : {now next : Machine} (event : Event start now next) (k l : J) → IsEventBeside Answers event k l
      → ((ended_by event ≡ []) × IsBeside Answers (IsChangeOf now) now.lazy next.lazy k l)
      ⊎ ((s : ℕ) × (by : EndsByLog now s next) × (event ≡ ends_by_log s by) × IsRefused Answers (IsUnkeptFor now s by.cause) now.lazy k l by.cause)
  event_beside (ends_by_log s by) k l refused = inr (s, by, refl, refused)
  event_beside (begins s by) k l beside = inl (refl, beside)
  event_beside (asks s name mode answer by) k l beside = inl (refl, beside)
  event_beside (executes s by) k l beside = inl (refl, beside)
  event_beside (refuses s by) k l beside = inl (refl, beside)
  event_beside (commits_now s by) k l beside = inl (refl, beside)
  event_beside (aborts s by) k l beside = inl (refl, beside)
  event_beside (moves granules by) k l beside = inl (refl, beside)
  event_beside (finishes s same) k l beside = inl (refl, beside)

  -- a group ends by the cause for which the journal does not keep a change
  pub keeps_end : (m : Machine) (j : J) (now : Machine) (k l : J) (s : ℕ) (next : Machine) (cause : Cause) → Keeps Answers start m j now k → (by : EndsByLog now s next) → by.cause ≡ cause → IsRefused Answers (IsUnkeptFor now s cause) now.lazy k l cause
      → Keeps Answers start m j next l
  keeps_end m j now k l s next cause before by is refused = one_beside before (ends_by_log s by) (subst (λ (d : Cause). IsRefused Answers (IsUnkeptFor now s d) now.lazy k l d) (sym is) refused)

  -- a call behind other events
  pub keeps_behind : (ends : Bool) (m : Machine) (j : J) (now : Machine) (k : J) (next : Machine) (l : J) (r : Result (Unit {0}) KeepError) → Keeps Answers start m j now k
      → KeepsOrIsRefused Answers ends start now k next l r → KeepsOrIsRefused Answers ends start m j next l r
  keeps_behind ends m j now k next l (Ok done) before own = keeps_both m j now k next l before own
  keeps_behind ends m j now k next l (Err (Ended cause)) before refused =
      let last = refused.2 in
      (refused.0, refused.1, (last.0, keeps_both m j now k next last.0 before last.1, last.2))
  keeps_behind ends m j now k next l (Err Memory) before own = keeps_both m j now k next l before own

  -- a call that has no memory
  pub keeps_without_memory : (ends : Bool) (m : Machine) (j : J) (next : Machine) (l : J) (r : Result (Unit {0}) KeepError) → r ≡ Err Memory → Keeps Answers start m j next l → KeepsOrIsRefused Answers ends start m j next l r
  keeps_without_memory ends m j next l r is own = subst (KeepsOrIsRefused Answers ends start m j next l) (sym is) own

  -- events of which no journal is asked
  none_asked : (Change : LazyState → Type 0) (lazy next : LazyState) (u v : Unit {0}) (k : J) → IsBeside {J = Unit {0}} (λ lazy then before after answer. ⊥) Change lazy next u v → IsBeside Answers Change lazy next k k
  none_asked Change lazy next u v k (inl same) = inl (same.0, refl)
  none_asked Change lazy next u v k (inr (inl answered)) = absurd answered
  none_asked Change lazy next u v k (inr (inr failed)) = absurd failed.1.2

  not_asked : {now next : Machine} (event : Event start now next) (u v : Unit {0}) → IsEventBeside {J = Unit {0}} (λ lazy then before after answer. ⊥) event u v → (k : J) → IsEventBeside Answers event k k
  not_asked (ends_by_log s by) u v refused k = absurd refused.2
  not_asked {now} {next} (begins s by) u v beside k = none_asked (IsChangeOf now) now.lazy next.lazy u v k beside
  not_asked {now} {next} (asks s name mode answer by) u v beside k = none_asked (IsChangeOf now) now.lazy next.lazy u v k beside
  not_asked {now} {next} (executes s by) u v beside k = none_asked (IsChangeOf now) now.lazy next.lazy u v k beside
  not_asked {now} {next} (refuses s by) u v beside k = none_asked (IsChangeOf now) now.lazy next.lazy u v k beside
  not_asked {now} {next} (commits_now s by) u v beside k = none_asked (IsChangeOf now) now.lazy next.lazy u v k beside
  not_asked {now} {next} (aborts s by) u v beside k = none_asked (IsChangeOf now) now.lazy next.lazy u v k beside
  not_asked {now} {next} (moves granules by) u v beside k = none_asked (IsChangeOf now) now.lazy next.lazy u v k beside
  not_asked {now} {next} (finishes s same) u v beside k = none_asked (IsChangeOf now) now.lazy next.lazy u v k beside

  leaves : (m next : Machine) (u v : Unit {0}) (j : J) → Keeps {J = Unit {0}} (λ lazy then before after answer. ⊥) start m u next v → Keeps Answers start m j next j
  leaves m _ u _ j nothing_yet = nothing_yet
  leaves m _ u _ j (one_beside {now = now} {next = next} {k = k} {l = l} before event beside) = one_beside (leaves m now u k j before) event (not_asked event k l beside j)
  leaves m _ u _ j (unkept_move before cause refused) = absurd refused.2

  pub keeps_leaves : (m next : Machine) (j : J) → LeavesStore start m next → Keeps Answers start m j next j
  keeps_leaves m next j left = leaves m next tt tt j left

  -- they are reached
  pub keeps_reach : (m : Machine) (j : J) (next : Machine) (l : J) → Keeps Answers start m j next l → Reaches start m next
  keeps_reach m j _ _ nothing_yet = at_once
  keeps_reach m j _ _ (one_beside {now = now} {next = next} {k = k} {l = l} before event beside) = one_more (keeps_reach m j now k before) event
  keeps_reach m j _ _ (unkept_move {now = now} {k = k} {l = l} before cause refused) = keeps_reach m j now k before

  -- also where the call is refused
  pub reach_still : (ends : Bool) (m : Machine) (j : J) (next : Machine) (l : J) (r : Result (Unit {0}) KeepError) → KeepsOrIsRefused Answers ends start m j next l r → Reaches start m next
  reach_still ends m j next l (Ok done) own = keeps_reach m j next l own
  reach_still ends m j next l (Err (Ended cause)) refused =
      let last = refused.2 in
      keeps_reach m j next last.0 last.1
  reach_still ends m j next l (Err Memory) own = keeps_reach m j next l own

module _ (start : Database) where
  pub leaves_not : (m next : Machine) → next ≡ m → LeavesStore start m next
  leaves_not m next same = subst (LeavesStore start m) (sym same) nothing_yet

  -- a lock is asked for, or a group begins
  asked_lazy : (m : Machine) (s : ℕ) (answer : LockAnswer) (o : Open) (name : LockName) (mode : Mode) → (asked m s o name mode answer).lazy ≡ m.lazy
  asked_lazy m s Granted o name mode = refl
  asked_lazy m s (Wait others) o name mode = refl
  asked_lazy m s (Die older) o name mode = refl

  pub leaves_asking : (m now next : Machine) → LeavesStore start m now → (s : ℕ) (name : LockName) (mode : Mode) (answer : LockAnswer) → Asks now s start name mode answer next → LeavesStore start m next
  leaves_asking m now next before s name mode answer by =
      one_beside before (asks s name mode answer by) (inl (ap (λ (k : Machine). k.lazy) by.goes ∙ asked_lazy now s answer by.o name mode, refl))

  pub leaves_beginning : (m next : Machine) (s : ℕ) → Begins m s next → LeavesStore start m next
  leaves_beginning m next s by =
      one_beside nothing_yet (begins s by)
      (inl (elim by.goes as (λ _. next.lazy ≡ m.lazy) [ inl first ↦ ap (λ (k : Machine). k.lazy) first.1 | inr again ↦ ap (λ (k : Machine). k.lazy) again.3 ], refl))

-- a reply leaves the store
pub replied_lazy : (m : Machine) (s : ℕ) (bound : Bound) (next : Machine) → HasReplied m s bound next → next.lazy ≡ m.lazy
replied_lazy m s bound next by = elim by as (λ _. next.lazy ≡ m.lazy) [ inl executed ↦ ap (λ (k : Machine). k.lazy) executed.0.goes | inr refused ↦ ap (λ (k : Machine). k.lazy) refused.goes ]

module _ {J : Type 0} (Answers : LazyState → LazyState → J → J → Result (Unit {0}) KeepError → Type 0) (start : Database) where
  pub keeps_reply : (m : Machine) (j : J) (now : Machine) (k : J) (s : ℕ) (bound : Bound) (next : Machine) → Keeps Answers start m j now k → HasReplied now s bound next → Keeps Answers start m j next k
  keeps_reply m j now k s bound next before by =
      let same = replied_lazy now s bound next by in
      elim by as (λ _. Keeps Answers start m j next k) [
        | inl executed ↦ one_beside before (executes s executed.0) (inl (same, refl))
        | inr refused ↦ one_beside before (refuses s refused) (inl (same, refl))
      ]
