-- The groups that a log has ended are told what it can tell.
use Rattle.std.proofs.Common.{◌≡◌, ◌⊎◌, ℕ, ◌≤◌, Bool, true, false, List, [], ◌∷◌, ◌++◌, length, filter, Option, None, Some, Result, Ok, Err, refl, sym, ap, subst, ◌∙◌, inl, inr, arith, append-nil}
use Rattle.std.specs.List.{AllByRecursion}
use Rattle.std.proofs.lemmas.Bool.{cases_Bool}
use Rattle.std.proofs.lemmas.List.Elements.{filter-append}
use Rattle.bf_disk.specs.declared.disk.Disk.{Ghosts}
use Rattle.bf_log.specs.Append.{disk_of, halted_of, standing_of}
use Rattle.bf_log.specs.declared.log.Log.{Log}
use Rattle.bf_log.specs.declared.log.Standing.{Standing}
use Rattle.bf_log.specs.declared.log.Standing.TheVariants.{Ready, Halted as Stopped, Spent}
use Rattle.bf_machine.specs.declared.journal.KeepError.{KeepError}
use Rattle.bf_machine.specs.declared.journal.KeepError.TheVariants.{Ended, Memory}
use Rattle.bf_machine.specs.interleaving.Events.{Event, aborts, asks, begins, commits_now, ends_by_log, executes, finishes, moves, refuses}
use Rattle.bf_machine.specs.interleaving.Journals.{IsBeside, IsChangeOf, IsEventBeside, Keeps, ended_by, ended_in, nothing_yet, one_beside, unkept_move}
use Rattle.bf_machine.specs.interleaving.Machines.{EndedGroup, Machine}
use Rattle.bf_sql.specs.Database.{Database}
use Rattle.bf_sql.specs.migrations.Lazy.{LazyState}
use Rattle.bf_tree.specs.declared.reply.Cause.{Cause}
use Rattle.bf_tree.specs.declared.reply.Cause.TheVariants.{Died, DiskFault, Halted, LogFull, TooLarge}
use Rattle.bf_run.specs.Answers.{CausesMatchLog, GoesOn, HasAnswered, Tells, TellsNow, is_disk_fault, is_ready}

-- a group that is told of a fault
abbrev faulted : EndedGroup → Bool
faulted group = is_disk_fault group.cause

fault_is : (cause : Cause) → is_disk_fault cause ≡ true → cause ≡ DiskFault
fault_is (Died h) is = absurd cc
fault_is DiskFault is = refl
fault_is (Halted faults) is = absurd cc
fault_is (LogFull end need) is = absurd cc
fault_is (TooLarge size) is = absurd cc

filter_more : (groups : List EndedGroup) (group : EndedGroup) → filter faulted (groups ++ group ∷ []) ≡ filter faulted groups ++ filter faulted (group ∷ [])
filter_more groups group = filter-append faulted groups (group ∷ [])

module _ {D : Type 0} {g : Ghosts D} where
  -- a log that is halted takes no records
  at_rest : (log : Log D g) (faults : ℕ) → halted_of log ≡ Some faults → is_ready (standing_of log) ≡ false
  at_rest log faults some = on log.standing refl
    where
      on : (s : Standing) → log.standing ≡ s → is_ready s ≡ false
      on Ready at =
          let none : halted_of log ≡ None = rw at refl in
          let clash : None ≡ Some faults = sym none ∙ some in
          absurd cc
      on (Stopped n) at = refl
      on Spent at = refl

  -- what a log can tell it can tell from then on
  tells_still : (old new : Log D g) (answer : Result (Unit {0}) KeepError) → GoesOn old new answer → (cause : Cause) → Tells old cause → Tells new cause
  tells_still old new answer goes (Died h) tells = absurd tells
  tells_still old new answer goes DiskFault tells = subst (λ (log : Log D g). Tells log DiskFault) (sym (goes.stays (at_rest old tells.0 tells.1))) tells
  tells_still old new answer goes (Halted faults) tells = subst (λ (log : Log D g). Tells log (Halted faults)) (sym (goes.stays (at_rest old faults tells))) tells
  tells_still old new answer goes (LogFull end need) tells = (omega (arith, tells.0, goes.rises), tells.1, tells.2)
  tells_still old new answer goes (TooLarge size) tells = tells

  tells_later : (old new : Log D g) (cause : Cause) → TellsNow old new cause → Tells new cause
  tells_later old new (Died h) tells = absurd tells
  tells_later old new DiskFault tells = tells.1
  tells_later old new (Halted faults) tells = tells
  tells_later old new (LogFull end need) tells = tells
  tells_later old new (TooLarge size) tells = tells

  -- a log that has not halted has told of no fault
  no_fault : (log : Log D g) → halted_of log ≡ None → (cause : Cause) → Tells log cause → is_disk_fault cause ≡ false
  no_fault log none (Died h) tells = absurd tells
  no_fault log none DiskFault tells =
      let clash : None ≡ Some tells.0 = sym none ∙ tells.1 in
      absurd cc
  no_fault log none (Halted faults) tells = refl
  no_fault log none (LogFull end need) tells = refl
  no_fault log none (TooLarge size) tells = refl

  none_faulted : (log : Log D g) → halted_of log ≡ None → (groups : List EndedGroup) → AllByRecursion (λ (group : EndedGroup). Tells log group.cause) groups → filter faulted groups ≡ []
  none_faulted log none [] each = refl
  none_faulted log none (group ∷ groups) each = rw (no_fault log none group.cause each.0) (none_faulted log none groups each.1)

  -- A STEP of the log, with the groups that end in it
  abbrev Steps : Log D g → Log D g → Type 0
  Steps old new = (new ≡ old) ⊎ ((answer : Result (Unit {0}) KeepError) × GoesOn old new answer)

  each_still : (old new : Log D g) → Steps old new → (groups : List EndedGroup) → AllByRecursion (λ (group : EndedGroup). Tells old group.cause) groups → AllByRecursion (λ (group : EndedGroup). Tells new group.cause) groups
  each_still old new steps [] each = tt
  each_still old new steps (group ∷ groups) each = (
    elim steps as (λ _. Tells new group.cause) [
      | inl same ↦ subst (λ (log : Log D g). Tells log group.cause) (sym same) each.0
      | inr goes ↦ tells_still old new goes.0 goes.1 group.cause each.0
    ],
    each_still old new steps groups each.1,
  )

  counted_then : (old new : Log D g) → Steps old new → ((faults : ℕ) → halted_of old ≡ Some faults → g.fault_count (disk_of old) ≡ faults) → (faults : ℕ) → halted_of new ≡ Some faults → g.fault_count (disk_of new) ≡ faults
  counted_then old new (inl same) was faults some =
      subst (λ (log : Log D g). g.fault_count (disk_of log) ≡ faults) (sym same) (was faults (subst (λ (log : Log D g). halted_of log ≡ Some faults) same some))
  counted_then old new (inr (answer, goes)) was faults some = on (halted_of old) refl
    where
      on : (before : Option ℕ) → halted_of old ≡ before → g.fault_count (disk_of new) ≡ faults
      on None none = goes.counted faults none some
      on (Some n) halted =
          let same : new ≡ old = goes.stays (at_rest old n halted) in
          subst (λ (log : Log D g). g.fault_count (disk_of log) ≡ faults) (sym same) (was faults (subst (λ (log : Log D g). halted_of log ≡ Some faults) same some))

  still_told : (old new : Log D g) (groups : List EndedGroup) → Steps old new → CausesMatchLog old groups → CausesMatchLog new groups
  still_told old new groups steps told = record {
    each = each_still old new steps groups told.each;
    one_fault = told.one_fault;
    counted = counted_then old new steps told.counted;
  }

  each_more : (log : Log D g) (groups : List EndedGroup) (group : EndedGroup) → AllByRecursion (λ (group : EndedGroup). Tells log group.cause) groups → Tells log group.cause
      → AllByRecursion (λ (group : EndedGroup). Tells log group.cause) (groups ++ group ∷ [])
  each_more log [] group each last = (last, tt)
  each_more log (first ∷ groups) group each last = (each.0, each_more log groups group each.1 last)

  -- one group more
  one_more_told : (old new : Log D g) (groups : List EndedGroup) (group : EndedGroup) (answer : Result (Unit {0}) KeepError) → GoesOn old new answer → TellsNow old new group.cause → CausesMatchLog old groups
      → CausesMatchLog new (groups ++ group ∷ [])
  one_more_told old new groups group answer goes now told = record {
    each = each_more new groups group (each_still old new (inr (answer, goes)) groups told.each) (tells_later old new group.cause now);
    one_fault = elim (cases_Bool (is_disk_fault group.cause)) as (λ _. length (filter faulted (groups ++ group ∷ [])) ≤ 1) [
      | inl fault ↦
          let is : group.cause ≡ DiskFault = fault_is group.cause fault in
          let first : halted_of old ≡ None = (subst (TellsNow old new) is now).0 in
          let none : filter faulted groups ≡ [] = none_faulted old first groups told.each in
          let last : filter faulted (group ∷ []) ≡ group ∷ [] = rw fault refl in
          let all : filter faulted (groups ++ group ∷ []) ≡ group ∷ [] = filter_more groups group ∙ (ap (λ (gs : List EndedGroup). gs ++ filter faulted (group ∷ [])) none ∙ last) in
          let size : length (filter faulted (groups ++ group ∷ [])) ≡ 1 = ap (λ (gs : List EndedGroup). length gs) all in
          omega (arith, size)
      | inr not ↦
          let last : filter faulted (group ∷ []) ≡ [] = rw not refl in
          let all : filter faulted (groups ++ group ∷ []) ≡ filter faulted groups = filter_more groups group ∙ (ap (λ (gs : List EndedGroup). filter faulted groups ++ gs) last ∙ append-nil (filter faulted groups)) in
          let size : length (filter faulted (groups ++ group ∷ [])) ≡ length (filter faulted groups) = ap (λ (gs : List EndedGroup). length gs) all in
          omega (arith, size, told.one_fault)
    ];
    counted = counted_then old new (inr (answer, goes)) told.counted;
  }

  module _ {J : Type 0} (log_of : J → Log D g) where
    abbrev Answers : LazyState → LazyState → J → J → Result (Unit {0}) KeepError → Type 0
    Answers lazy next old new answer = HasAnswered lazy next (log_of old) (log_of new) answer

    steps_beside : (Change : LazyState → Type 0) (lazy next : LazyState) (j k : J) → IsBeside Answers Change lazy next j k → Steps (log_of j) (log_of k)
    steps_beside Change lazy next j k (inl same) = inl (ap log_of same.1)
    steps_beside Change lazy next j k (inr (inl kept)) = inr (Ok tt, kept.1)
    steps_beside Change lazy next j k (inr (inr not)) = inr (Err Memory, not.1.2.1)

    none_more : (now next : Machine) (j k : J) → IsBeside Answers (IsChangeOf now) now.lazy next.lazy j k → (groups : List EndedGroup) → CausesMatchLog (log_of j) groups → CausesMatchLog (log_of k) (groups ++ [])
    none_more now next j k beside groups told =
        subst (CausesMatchLog (log_of k)) (sym (append-nil groups)) (still_told (log_of j) (log_of k) groups (steps_beside (IsChangeOf now) now.lazy next.lazy j k beside) told)

    event_told : {start : Database} {now next : Machine} (event : Event start now next) (j k : J) → IsEventBeside Answers event j k → (groups : List EndedGroup) → CausesMatchLog (log_of j) groups
        → CausesMatchLog (log_of k) (groups ++ ended_by event)
    event_told (ends_by_log s by) j k refused groups told = one_more_told (log_of j) (log_of k) groups (record { session = s; group = by.o.group; cause = by.cause }) (Err (Ended by.cause)) refused.2.1 refused.2.1.stands told
    event_told {now = now} {next = next} (begins s by) j k beside groups told = none_more now next j k beside groups told
    event_told {now = now} {next = next} (asks s name mode answer by) j k beside groups told = none_more now next j k beside groups told
    event_told {now = now} {next = next} (executes s by) j k beside groups told = none_more now next j k beside groups told
    event_told {now = now} {next = next} (refuses s by) j k beside groups told = none_more now next j k beside groups told
    event_told {now = now} {next = next} (commits_now s by) j k beside groups told = none_more now next j k beside groups told
    event_told {now = now} {next = next} (aborts s by) j k beside groups told = none_more now next j k beside groups told
    event_told {now = now} {next = next} (moves granules by) j k beside groups told = none_more now next j k beside groups told
    event_told {now = now} {next = next} (finishes s same) j k beside groups told = none_more now next j k beside groups told

    pub events_told : (start : Database) (m : Machine) (j : J) (next : Machine) (k : J) (keeps : Keeps Answers start m j next k) → standing_of (log_of j) ≡ Ready → CausesMatchLog (log_of k) (ended_in Answers keeps)
    events_told start m j _ _ nothing_yet ready = record {
      each = tt;
      one_fault = omega arith;
      counted = λ faults some.
          let none : halted_of (log_of j) ≡ None = rw ready refl in
          let clash : None ≡ Some faults = sym none ∙ some in
          absurd cc;
    }
    events_told start m j _ _ (one_beside {now = now} {next = next} {k = k} {l = l} before event beside) ready =
        event_told event k l beside (ended_in Answers before) (events_told start m j now k before ready)
    events_told start m j _ _ (unkept_move {now = now} {k = k} {l = l} before cause refused) ready =
        still_told (log_of k) (log_of l) (ended_in Answers before) (inr (Err (Ended cause), refused.2.1)) (events_told start m j now k before ready)
