-- What a change of a machine makes of the database.
use Rattle.std.proofs.Common.{◌≡◌, ◌⊎◌, inl, inr, ℕ, ◌+◌, Bool, false, List, [], ◌∷◌, ◌++◌, append-nil, length, map, Some, refl, sym, ◌∙◌, ap, subst}
use Rattle.std.proofs.lemmas.List.{map-append}
use Rattle.std.proofs.lemmas.Option.{same_Some}
use Rattle.bf_base.specs.declared.granule.Granule.{Granule}
use Rattle.bf_journal.specs.Crashes.{replayed}
use Rattle.bf_journal.proofs.Runs.{replayed_more}
use Rattle.bf_machine.specs.interleaving.Events.{IsToCommit, at_once, commits_behind, moves, one_more, rest_of, text_of}
use Rattle.bf_machine.specs.interleaving.Events as events
use Rattle.bf_machine.specs.interleaving.Journals.{IsChangeOf, IsLeftFor, IsMoveIn, IsPutInto, IsUnkeptFor}
use Rattle.bf_machine.specs.interleaving.Kept.{IsKept}
use Rattle.bf_machine.specs.interleaving.Groups.{left_by}
use Rattle.bf_machine.specs.interleaving.Machines.{Machine, Open, answered_in, open_at}
use Rattle.bf_machine.proofs.interleaving.Ends.{would_make}
use Rattle.bf_machine.proofs.interleaving.Entries.{length-run_group}
use Rattle.bf_machine.proofs.interleaving.Legal.{end_keeps_legal}
use Rattle.bf_machine.proofs.interleaving.Reaching.{reached_keeps_all}
use Rattle.bf_machine.proofs.interleaving.Running.{run_is_database, text_means}
use Rattle.bf_machine.proofs.interleaving.Texts.{are_texts}
use Rattle.bf_recover.specs.Steps.{entry_of, run_entry}
use Rattle.bf_recover.proofs.Replaying.{runs_entries}
use Rattle.bf_sql.specs.Database.{Database}
use Rattle.bf_sql.specs.Groups.{outcome_by}
use Rattle.bf_sql.specs.History as history
use Rattle.bf_sql.specs.migrations.Lazy.{LazyState, view_of}
use Rattle.bf_store.specs.States.{AreGranulesIfAny, with_moved}
use Rattle.bf_tree.specs.declared.history.Entry.{Entry}
use Rattle.bf_tree.specs.declared.history.Outcome.{Outcome}
use Rattle.bf_tree.specs.declared.history.Outcome.TheVariants.{Committed}
use Rattle.bf_tree.specs.declared.reply.Cause.{Cause}
use Rattle.bf_tree.specs.declared.reply.Reply.{Reply}
use Rattle.bf_tree.specs.declared.reply.Reply.TheVariants as reply
use Rattle.bf_tree.specs.declared.statement.Statement.{Statement}
use Rattle.bf_tree.specs.declared.statement.Statement.TheVariants.{Commit}
use Rattle.bf_run.specs.Answers.{GroupMakes, MakesOf, if_committed}
use Rattle.bf_run.specs.Crashing.{AreGroupsInOrder, EntryMakes, IsOneGroup}

-- the entries of the history of a machine, each with the statements of its group
abbrev pub entries : Machine → List (List Statement × Outcome)
entries m = map (entry_of m.script) m.history

-- what is seen of the store of a machine is what its history makes of the opening database
pub seen : (start : Database) (m : Machine) → IsKept start m → view_of m.lazy ≡ replayed run_entry start (entries m)
seen start m kept = kept.store_valid.seen_as.view ∙ kept.history_legal.replay ∙ runs_entries 0 m.script start m.history

-- what the entry of a group that is to commit makes of a database
abbrev pub own_entry : (m : Machine) (s : ℕ) → IsToCommit m s → Entry
own_entry m s can = events.entry_of m s can.o (Committed (commits_behind 0 m.history + 1))

abbrev pub IsMadeBy : (m : Machine) (s : ℕ) → IsToCommit m s → Database → Database → Type 0
IsMadeBy m s can now db = db ≡ run_entry now (entry_of m.script (own_entry m s can))

-- that is what it would make of the database of its machine
pub group_is_one : (start : Database) (m : Machine) → IsKept start m → (s : ℕ) (can : IsToCommit m s) (other : LazyState) → IsPutInto m.lazy can.o.pending other → IsMadeBy m s can (view_of m.lazy) (view_of other)
group_is_one start m kept s can other is =
    let entry = own_entry m s can in
    let made = would_make start m kept (are_texts m.script) s can in
    let whole : (history.replayed m.script start (m.history ++ entry ∷ [])).1 ≡ run_entry (view_of m.lazy) (entry_of m.script entry) =
    runs_entries 0 m.script start (m.history ++ entry ∷ [])
    ∙ ap (replayed run_entry start) (map-append (entry_of m.script) m.history (entry ∷ []))
    ∙ replayed_more run_entry (entries m) (entry_of m.script entry) start
    ∙ ap (λ (db : Database). run_entry db (entry_of m.script entry)) (sym (seen start m kept)) in
    ap view_of is ∙ made ∙ whole

-- and may follow those of the history
group_in_order : (start : Database) (m : Machine) → IsKept start m → (s : ℕ) (can : IsToCommit m s) → AreGroupsInOrder m.script (m.history ++ own_entry m s can ∷ [])
group_in_order start m kept s can =
    let o = can.o in
    let count = commits_behind 0 m.history + 1 in
    let texts = are_texts m.script in
    let own = kept.open_groups_replay.each s o can.is in
    let answers = o.replies ++ map (λ _. reply.Committed count) (rest_of m s o) in
    let ran = text_means m.locks o.start m.db count o.pending o.replies (text_of m s o) (texts.shape s o.group own.whole) own.within own.run Commit (reply.Committed count) refl (λ view. refl) can.left in
    let sizes : length answers ≡ length (text_of m s o) = sym (ap (λ (ran : List Reply × Database). length ran.0) ran) ∙ length-run_group count false m.db (text_of m s o) in
    let is_next = run_is_database m.locks o.start m.db (answered_in m.script s o) o.pending kept.history_legal.database own.run in
    let legal = end_keeps_legal start m kept texts s o can.is (Committed count) answers (left_by m.db o.pending) is_next can.current
    (sym (ap (λ (b : Bool). (outcome_by b count).0) can.commits_so)) ran sizes in
    (legal.legal.whole_groups, legal.legal.in_order)

group_makes : (start : Database) (m : Machine) → IsKept start m → (s : ℕ) (can : IsToCommit m s) (other : LazyState) → IsPutInto m.lazy can.o.pending other
    → EntryMakes start m.script m.history (own_entry m s can) (view_of m.lazy) (view_of other)
group_makes start m kept s can other is = (
  record {
    prefix = m.history;
    later = [];
    of_history = append-nil m.history;
    unchanged = kept.store_valid.seen_as.view ∙ kept.history_legal.replay;
    in_order = group_in_order start m kept s can;
  },
  group_is_one start m kept s can other is,
)

-- and what a move makes of it is not seen
pub move_unseen : (start : Database) (m : Machine) → IsKept start m → (granules : List Granule) → AreGranulesIfAny m.lazy.last granules → view_of (with_moved m.lazy granules) ≡ view_of m.lazy
move_unseen start m kept granules are =
    let next : Machine = record m { lazy = with_moved m.lazy granules } in
    let kept_next : IsKept start next = reached_keeps_all start m next kept (one_more at_once (moves granules (record { granules_of_it = are; goes = refl }))) in
    kept_next.store_valid.seen_as.view ∙ sym kept.store_valid.seen_as.view

pub move_makes_nothing : (start : Database) (m : Machine) → IsKept start m → (other : LazyState) → IsMoveIn m.lazy other → view_of other ≡ view_of m.lazy
move_makes_nothing start m kept other move = ap view_of move.2 ∙ move_unseen start m kept move.0 move.1

-- a change makes what one group makes, or nothing
pub one_makes : (start : Database) (m : Machine) → IsKept start m → (other : LazyState) → IsChangeOf m other → (view_of other ≡ view_of m.lazy) ⊎ IsOneGroup start m.script m.history (view_of m.lazy) (view_of other)
one_makes start m kept other (s, inl own) =
    inr (own_entry m s own.0, group_makes start m kept s own.0 other own.1)
one_makes start m kept other (s, inr move) = inl (move_makes_nothing start m kept other move)

-- what the open group of a session is to leave is what that group makes
pub group_makes_of : (start : Database) (m : Machine) → IsKept start m → (s : ℕ) (o : Open) → open_at m s ≡ Some o → (cause : Cause) (other : LazyState) → IsLeftFor m s other
    → GroupMakes m.script (record { session = s; group = o.group; cause = cause }) (view_of m.lazy) (view_of other)
group_makes_of start m kept s o is cause other own =
    let can = own.0 in
    let same : can.o ≡ o = same_Some can.o o (sym can.is ∙ is) in
    subst (λ (p : Open). GroupMakes m.script (record { session = s; group = p.group; cause = cause }) (view_of m.lazy) (view_of other)) same
    (commits_behind 0 m.history + 1, group_is_one start m kept s can other own.1)

-- and what is not kept for it makes that, or nothing
pub makes_of : (start : Database) (m : Machine) → IsKept start m → (s : ℕ) (o : Open) → open_at m s ≡ Some o → (cause : Cause) (other : LazyState) → IsUnkeptFor m s cause other
    → MakesOf m.script (record { session = s; group = o.group; cause = cause }) (view_of m.lazy) (view_of other)
makes_of start m kept s o is cause other (inl own) = inr (group_makes_of start m kept s o is cause other own)
makes_of start m kept s o is cause other (inr (of_move, move)) = inl (move_makes_nothing start m kept other move)

-- with its place behind the history
pub makes_behind : (start : Database) (m : Machine) → IsKept start m → (s : ℕ) (o : Open) → open_at m s ≡ Some o → (cause : Cause) (other : LazyState) → IsUnkeptFor m s cause other
    → (view_of other ≡ view_of m.lazy)
    ⊎ ((n : ℕ) × EntryMakes start m.script m.history (if_committed (record { session = s; group = o.group; cause = cause }) n) (view_of m.lazy) (view_of other))
makes_behind start m kept s o is cause other (inl own) =
    let can = own.0 in
    let same : can.o ≡ o = same_Some can.o o (sym can.is ∙ is) in
    inr (
      commits_behind 0 m.history + 1,
      subst (λ (p : Open). EntryMakes start m.script m.history (if_committed (record { session = s; group = p.group; cause = cause }) (commits_behind 0 m.history + 1)) (view_of m.lazy) (view_of other)) same
          (group_makes start m kept s can other own.1),
    )
makes_behind start m kept s o is cause other (inr (of_move, move)) = inl (move_makes_nothing start m kept other move)
