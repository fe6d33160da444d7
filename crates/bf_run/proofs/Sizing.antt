-- A group that is told a size or a need has a record of that size or need.
use Rattle.std.proofs.Common.{◌≡◌, ℕ, true, false, List, [], ◌∷◌, ◌++◌, Some, Result, Err, inl, inr, sym, ap, subst, ◌∙◌, append_assoc, append-nil}
use Rattle.bf_disk.specs.declared.disk.Disk.{Ghosts}
use Rattle.bf_log.specs.declared.log.Log.{Log}
use Rattle.bf_machine.specs.declared.journal.KeepError.{KeepError}
use Rattle.bf_machine.specs.declared.journal.KeepError.TheVariants.{Ended}
use Rattle.bf_machine.specs.interleaving.Events.{Event, aborts, asks, at_once, begins, commits_now, ends_by_log, executes, finishes, moves, refuses}
use Rattle.bf_machine.specs.interleaving.Events as events
use Rattle.bf_machine.specs.interleaving.Journals.{IsEventBeside, IsUnkeptFor, Keeps, ended_by, ended_in, nothing_yet, one_beside, unkept_move}
use Rattle.bf_machine.specs.interleaving.Kept.{IsKept}
use Rattle.bf_machine.specs.interleaving.Machines.{EndedGroup, Machine, Open, open_at}
use Rattle.bf_machine.proofs.interleaving.Reaching.{reached_keeps_all}
use Rattle.bf_sql.specs.Database.{Database}
use Rattle.bf_sql.specs.migrations.Lazy.{LazyState, view_of}
use Rattle.bf_tree.specs.declared.history.Entry.{Entry}
use Rattle.bf_tree.specs.declared.reply.Cause.{Cause}
use Rattle.bf_tree.specs.declared.reply.Cause.TheVariants.{Died, DiskFault, Halted, LogFull, TooLarge}
use Rattle.bf_tree.specs.declared.script.Script.{Script}
use Rattle.bf_run.specs.Answers.{AreSizesOf, GroupMakes, HasAnswered, HasOwnRecordOf, HasRecordOf, IsBehind, IsSizeOf, IsSizeTold, MakesOf}
use Rattle.bf_run.proofs.crashing.Growing.{Grows, grows_by}
use Rattle.bf_run.proofs.crashing.Makes.{group_makes_of, makes_of}

-- what holds behind a history holds when it grows
behind_later : (start : Database) (script : Script) (history more : List Entry) (Makes : Database → Database → Type 0) (HasRecord : LazyState → LazyState → Type 0)
    → IsBehind start script history Makes HasRecord → IsBehind start script (history ++ more) Makes HasRecord
behind_later start script history more Makes HasRecord is = record {
  prefix = is.prefix;
  later = is.later ++ more;
  of_history = sym (append_assoc is.prefix is.later more) ∙ ap (λ (es : List Entry). es ++ more) is.of_history;
  lazy = is.lazy;
  next = is.next;
  seen_as = is.seen_as;
  makes = is.makes;
  has_record = is.has_record;
}

size_later : (start : Database) (script : Script) (history more : List Entry) (group : EndedGroup) (cause : Cause) → IsSizeOf start script history group cause → IsSizeOf start script (history ++ more) group cause
size_later start script history more group (Died h) is = tt
size_later start script history more group DiskFault is = tt
size_later start script history more group (Halted faults) is = tt
size_later start script history more group (LogFull end need) is = (is.0, is.1, behind_later start script history more (MakesOf script group) (λ lazy next. HasRecordOf lazy next is.0) is.2)
size_later start script history more group (TooLarge size) is = behind_later start script history more (GroupMakes script group) (λ lazy next. HasOwnRecordOf lazy next size) is

sizes_later : (start : Database) (script : Script) (history more : List Entry) (groups : List EndedGroup) → AreSizesOf start script history groups → AreSizesOf start script (history ++ more) groups
sizes_later start script history more [] all = tt
sizes_later start script history more (group ∷ groups) all = (size_later start script history more group group.cause all.0, sizes_later start script history more groups all.1)

sizes_then : (start : Database) (now next : Machine) (groups : List EndedGroup) → Grows now next → AreSizesOf start now.script now.history groups → AreSizesOf start next.script next.history groups
sizes_then start now next groups (script, inl same) all =
    subst (λ (k : Script). AreSizesOf start k next.history groups) (sym script) (subst (λ (es : List Entry). AreSizesOf start now.script es groups) (sym same) all)
sizes_then start now next groups (script, inr (entry, grew)) all =
    subst (λ (k : Script). AreSizesOf start k next.history groups) (sym script)
    (subst (λ (es : List Entry). AreSizesOf start now.script es groups) (sym grew) (sizes_later start now.script now.history (entry ∷ []) groups all))

one_more : (start : Database) (script : Script) (history : List Entry) (groups : List EndedGroup) (group : EndedGroup) → AreSizesOf start script history groups → IsSizeOf start script history group group.cause
    → AreSizesOf start script history (groups ++ group ∷ [])
one_more start script history [] group all last = (last, tt)
one_more start script history (first ∷ groups) group all last = (all.0, one_more start script history groups group all.1 last)

module _ {D : Type 0} {g : Ghosts D} {J : Type 0} (log_of : J → Log D g) (start : Database) where
  abbrev Answers : LazyState → LazyState → J → J → Result (Unit {0}) KeepError → Type 0
  Answers lazy next old new answer = HasAnswered lazy next (log_of old) (log_of new) answer

  behind_now : (m : Machine) → IsKept start m → (Makes : Database → Database → Type 0) (HasRecord : LazyState → LazyState → Type 0) (other : LazyState) → Makes (view_of m.lazy) (view_of other) → HasRecord m.lazy other
      → IsBehind start m.script m.history Makes HasRecord
  behind_now m kept Makes HasRecord other makes has = record {
    prefix = m.history;
    later = [];
    of_history = append-nil m.history;
    lazy = m.lazy;
    next = other;
    seen_as = record { lazy_state = kept.store_valid.seen_as.lazy_state; view = kept.store_valid.seen_as.view ∙ kept.history_legal.replay };
    makes = makes;
    has_record = has;
  }

  -- a move is not told to be too large
  size_now : (m : Machine) → IsKept start m → (s : ℕ) (o : Open) → open_at m s ≡ Some o → (cause : Cause) (other : LazyState) → IsUnkeptFor m s cause other → IsSizeTold m.lazy other (Err (Ended cause))
      → IsSizeOf start m.script m.history (record { session = s; group = o.group; cause = cause }) cause
  size_now m kept s o is (Died h) other unkept told = tt
  size_now m kept s o is DiskFault other unkept told = tt
  size_now m kept s o is (Halted faults) other unkept told = tt
  size_now m kept s o is (LogFull end need) other unkept told =
      let group : EndedGroup = record { session = s; group = o.group; cause = LogFull end need } in
      (told.0, told.2, behind_now m kept (MakesOf m.script group) (λ lazy next. HasRecordOf lazy next told.0) other (makes_of start m kept s o is (LogFull end need) other unkept) told.1)
  size_now m kept s o is (TooLarge size) other (inl own) told =
      let group : EndedGroup = record { session = s; group = o.group; cause = TooLarge size } in
      behind_now m kept (GroupMakes m.script group) (λ lazy next. HasOwnRecordOf lazy next size) other (group_makes_of start m kept s o is (TooLarge size) other own) told
  size_now m kept s o is (TooLarge size) other (inr (of_move, move)) told = absurd (let clash : false ≡ true = of_move in cc)

  none_more : (now next : Machine) (groups : List EndedGroup) → Grows now next → AreSizesOf start now.script now.history groups → AreSizesOf start next.script next.history (groups ++ [])
  none_more now next groups grows all = subst (AreSizesOf start next.script next.history) (sym (append-nil groups)) (sizes_then start now next groups grows all)

  event_sized : (now next : Machine) (event : Event start now next) (j k : J) → IsKept start now → IsEventBeside Answers event j k → (groups : List EndedGroup) → AreSizesOf start now.script now.history groups
      → AreSizesOf start next.script next.history (groups ++ ended_by event)
  event_sized now next (ends_by_log s by) j k kept refused groups all =
      sizes_then start now next (groups ++ record { session = s; group = by.o.group; cause = by.cause } ∷ []) (grows_by now next start (ends_by_log s by))
      (one_more start now.script now.history groups (record { session = s; group = by.o.group; cause = by.cause }) all
      (size_now now kept s by.o by.is by.cause refused.0 refused.1 refused.2.2))
  event_sized now next (begins s by) j k kept beside groups all = none_more now next groups (grows_by now next start (begins s by)) all
  event_sized now next (asks s name mode answer by) j k kept beside groups all = none_more now next groups (grows_by now next start (asks s name mode answer by)) all
  event_sized now next (executes s by) j k kept beside groups all = none_more now next groups (grows_by now next start (executes s by)) all
  event_sized now next (refuses s by) j k kept beside groups all = none_more now next groups (grows_by now next start (refuses s by)) all
  event_sized now next (commits_now s by) j k kept beside groups all = none_more now next groups (grows_by now next start (commits_now s by)) all
  event_sized now next (aborts s by) j k kept beside groups all = none_more now next groups (grows_by now next start (aborts s by)) all
  event_sized now next (moves granules by) j k kept beside groups all = none_more now next groups (grows_by now next start (moves granules by)) all
  event_sized now next (finishes s same) j k kept beside groups all = none_more now next groups (grows_by now next start (finishes s same)) all

  pub events_sized : (m : Machine) (j : J) (next : Machine) (k : J) (keeps : Keeps Answers start m j next k) → IsKept start m → IsKept start next × AreSizesOf start next.script next.history (ended_in Answers keeps)
  events_sized m j _ _ nothing_yet kept = (kept, tt)
  events_sized m j _ _ (one_beside {now = now} {next = next} {k = k} {l = l} before event beside) kept =
      let so_far = events_sized m j now k before kept in
      (reached_keeps_all start now next so_far.0 (events.one_more at_once event), event_sized now next event k l so_far.0 beside (ended_in Answers before) so_far.1)
  events_sized m j _ _ (unkept_move {now = now} {k = k} {l = l} before cause refused) kept = events_sized m j now k before kept
