-- Commit and abort keep all.
use Rattle.std.proofs.Common.{◌≡◌, ◌⊎◌, ℕ, ◌+◌, Bool, true, false, List, [], ◌∷◌, ◌++◌, length, map, Option, Some, refl, sym, ap, subst, ◌∙◌, arith, inr}
use Rattle.boxcar.specs.Table.{Where}
use Rattle.bf_image.specs.declared.migration.Migration.{Migration}
use Rattle.bf_tree.specs.declared.history.Outcome.{Outcome}
use Rattle.bf_tree.specs.declared.history.Outcome.TheVariants.{Committed, RolledBack}
use Rattle.bf_tree.specs.declared.history.Entry.{Entry}
use Rattle.bf_tree.specs.declared.reply.Reply.{Reply}
use Rattle.bf_tree.specs.declared.reply.Reply.TheVariants as reply
use Rattle.bf_tree.specs.declared.statement.Statement.{Statement}
use Rattle.bf_tree.specs.declared.statement.Statement.TheVariants.{Commit, Rollback}
use Rattle.bf_sql.specs.Database.{Database}
use Rattle.bf_sql.specs.Groups.{ends_block, outcome_by, session_at}
use Rattle.bf_sql.specs.History.{replayed, run_group}
use Rattle.bf_sql.specs.Meaning.{executed}
use Rattle.bf_sql.specs.migrations.Lazy.{LazyState, view_of}
use Rattle.bf_store.specs.States.{IsSeenAs}
use Rattle.bf_store.specs.Stores.{IsByPass}
use Rattle.bf_machine.specs.interleaving.Groups.{HasRun, left_by}
use Rattle.bf_machine.specs.interleaving.Machines.{Open, Machine, open_at, told_at, answered_in}
use Rattle.bf_machine.specs.interleaving.Kept.{IsKept, HistoryLegal, OpenGroupsReplay, StoreValid}
use Rattle.bf_machine.specs.interleaving.Events.{Commits, Aborts, IsToCommit, ended, entry_of, commits_behind, put_into, rolled_back, text_of, rest_of}
use Rattle.bf_machine.proofs.interleaving.Entries.{length-run_group}
use Rattle.bf_machine.proofs.interleaving.Legal.{died_more, end_keeps_legal, replay_with}
use Rattle.bf_machine.proofs.interleaving.Narrow.{IsNarrow, narrow_in}
use Rattle.bf_machine.proofs.interleaving.Opens.{commit_keeps_open, unchanged_keeps_open}
use Rattle.bf_machine.proofs.interleaving.Others.{has_place, starts_differ}
use Rattle.bf_machine.proofs.interleaving.Rest.{StaysAtEnd, deaths_then, end_keeps, join_more}
use Rattle.bf_machine.proofs.interleaving.Running.{run_is_database, text_means}
use Rattle.bf_machine.proofs.interleaving.Settled.{left_narrow, narrow_live, narrow_view, others_put, settles}
use Rattle.bf_machine.proofs.interleaving.Storing.{KeepsRest, each_without, kept_with, puts_without, stored_kept}
use Rattle.bf_machine.proofs.interleaving.Telling.{length-part}
use Rattle.bf_machine.proofs.interleaving.Texts.{AreTexts}

module _ (start : Database) (m : Machine) (kept : IsKept start m) (texts : AreTexts m.script) (s : ℕ) (o : Open) (there : open_at m s ≡ Some o) where
  -- the whole text, as the replay runs it
  whole_run : (n : ℕ) (c : Statement) (r : Reply) → ends_block c ≡ true → ((view : Database) → executed n view true c ≡ (r, view))
      → (rest_of m s o ≡ []) ⊎ (rest_of m s o ≡ c ∷ [])
      → run_group n false m.db (text_of m s o) ≡ (o.replies ++ map (λ _. r) (rest_of m s o), left_by m.db o.pending)
  whole_run n c r ends ending left =
      let own = kept.open_groups_replay.each s o there in
      text_means m.locks o.start m.db n o.pending o.replies (text_of m s o) (texts.shape s o.group own.whole) own.within own.run c r ends ending left

  -- an entry more leaves start numbers, wishes and deaths
  with_entry : (e : Entry) → StaysAtEnd start m m.began (m.history ++ e ∷ [])
  with_entry e = record {
    start_then = λ t g n has. has;
    start_was = λ t g n has. has;
    join_then = λ t g name mode join. join_more start m.script m.history e t g name mode join;
    died_then = λ t g h died. died_more start m.script m.history e m.began t g h died;
  }

  all_told : (answers : List Reply) → length answers ≡ length (text_of m s o) → o.group.1 ≡ length (told_at m s) + length answers
  all_told answers sizes =
      let own = kept.open_groups_replay.each s o there in
      let bounds = texts.bounds s o.group own.whole in
      let whole = length-part o.group.0 o.group.1 (session_at m.script s).statements in
      omega (arith, own.next, sizes, whole, bounds.0, bounds.1, bounds.2)

  end_with : (outcome : Outcome) (answers : List Reply) (db : Database) → length answers ≡ length (text_of m s o)
      → let after = record (ended m s o answers) { db = db; history = m.history ++ entry_of m s o outcome ∷ [] } in
      HistoryLegal start after → OpenGroupsReplay start after → KeepsRest start after
  end_with outcome answers db sizes legal replay =
      let e = entry_of m s o outcome in
      let history = m.history ++ e ∷ [] in
      let closes = inr (all_told answers sizes) in
      end_keeps start m kept s o there answers closes db m.began history (with_entry e) legal replay
      (record { deaths = λ n b is. deaths_then start m kept s o there answers closes db m.began history (with_entry e) n b (kept.causes_allowed.deaths n b is) })

-- the store behind a commit
settled_valid : (start : Database) (m : Machine) (kept : IsKept start m) (s : ℕ) (o : Open) (there : open_at m s ≡ Some o) (answers : List Reply) (history : List Entry) (pass : Option (Where Migration))
    → IsByPass (put_into m.lazy o.pending).last pass
    → StoreValid start (record (ended m s o answers) { db = left_by m.db o.pending; history = history; lazy = put_into m.lazy o.pending; pass = pass })
settled_valid start m kept s o there answers history pass by =
    let place = has_place m s o there in
    let valid = kept.store_valid in
    let lazily = valid.seen_as.lazy_state in
    let own = kept.open_groups_replay.each s o there in
    let on_view : (t : ℕ) (q : Open) → HasRun m.locks q.start m.db (answered_in m.script t q) q.pending → HasRun m.locks q.start (view_of m.lazy) (answered_in m.script t q) q.pending =
    λ t q run. subst (λ (db : Database). HasRun m.locks q.start db (answered_in m.script t q) q.pending) (sym valid.seen_as.view) run in
    let seen : IsSeenAs (left_by m.db o.pending) (put_into m.lazy o.pending) =
    subst (λ (db : Database). IsSeenAs (left_by db o.pending) (put_into m.lazy o.pending)) valid.seen_as.view
    (settles m.lazy lazily m.locks o.start (answered_in m.script s o) o.pending (on_view s o own.run) (valid.puts s o there)) in
    let narrow = subst IsNarrow valid.seen_as.view (narrow_view m.lazy lazily valid.narrow) in
    record {
      seen_as = seen;
      narrow = narrow_live (left_by m.db o.pending) (put_into m.lazy o.pending) seen
          (left_narrow m.locks o.start m.db o.replies (text_of m s o) o.pending (narrow_in m.script kept.within s o.group) own.run narrow);
      by_pass = by;
      puts = λ t q is_open.
          let was = each_without m.opens s place.0 place.1 t q is_open in
          let other = kept.open_groups_replay.each t q was.1 in
          let starts = starts_differ m.began s t o.group q.group o.start q.start was.0 (kept.locks_consistent.starts t q was.1) (kept.locks_consistent.starts s o there) in
          others_put m.lazy lazily m.locks kept.locks_consistent.apart q.start o.start starts (answered_in m.script t q) (answered_in m.script s o) o.pending q.pending
          (on_view s o own.run) (valid.puts s o there) (on_view t q other.run) (valid.puts t q was.1) seen.lazy_state;
    }

-- WOULD MAKE: what a group that is to commit is to leave makes of the database what a replay of the history makes with its entry
pub would_make : (start : Database) (m : Machine) (kept : IsKept start m) (texts : AreTexts m.script) (s : ℕ) (can : IsToCommit m s)
    → view_of (put_into m.lazy can.o.pending) ≡ (replayed m.script start (m.history ++ entry_of m s can.o (Committed (commits_behind 0 m.history + 1)) ∷ [])).1
would_make start m kept texts s can =
    let o = can.o in
    let count = commits_behind 0 m.history + 1 in
    let valid = kept.store_valid in
    let own = kept.open_groups_replay.each s o can.is in
    let ran = whole_run start m kept texts s o can.is count Commit (reply.Committed count) refl (λ view. refl) can.left in
    let on_view : HasRun m.locks o.start (view_of m.lazy) (answered_in m.script s o) o.pending =
    subst (λ (db : Database). HasRun m.locks o.start db (answered_in m.script s o) o.pending) (sym valid.seen_as.view) own.run in
    let left : view_of (put_into m.lazy o.pending) ≡ left_by m.db o.pending =
    (settles m.lazy valid.seen_as.lazy_state m.locks o.start (answered_in m.script s o) o.pending on_view (valid.puts s o can.is)).view ∙ ap (λ (db : Database). left_by db o.pending) valid.seen_as.view in
    left ∙ sym (ap (λ (t : List (List Reply) × Database). t.1) (replay_with start m kept s o (Committed count) (o.replies ++ map (λ _. reply.Committed count) (rest_of m s o)) (left_by m.db o.pending) ran))

-- COMMIT KEEPS ALL
pub commit_keeps_all : (start : Database) (m : Machine) (kept : IsKept start m) (texts : AreTexts m.script) (s : ℕ) (next : Machine) → Commits m s next → IsKept start next
commit_keeps_all start m kept texts s next by =
    let o = by.can.o in
    let count = commits_behind 0 m.history + 1 in
    let answers = o.replies ++ map (λ _. reply.Committed count) (rest_of m s o) in
    let own = kept.open_groups_replay.each s o by.can.is in
    let ran = whole_run start m kept texts s o by.can.is count Commit (reply.Committed count) refl (λ view. refl) by.can.left in
    let sizes : length answers ≡ length (text_of m s o) = sym (ap (λ (ran : List Reply × Database). length ran.0) ran) ∙ length-run_group count false m.db (text_of m s o) in
    let is_next = run_is_database m.locks o.start m.db (answered_in m.script s o) o.pending kept.history_legal.database own.run in
    let legal = end_keeps_legal start m kept texts s o by.can.is (Committed count) answers (left_by m.db o.pending) is_next by.can.current
    (sym (ap (λ (b : Bool). (outcome_by b count).0) by.can.commits_so)) ran sizes in
    let history = m.history ++ entry_of m s o (Committed count) ∷ [] in
    let rest = end_with start m kept texts s o by.can.is (Committed count) answers (left_by m.db o.pending) sizes legal (commit_keeps_open start m kept s o by.can.is answers m.began history) in
    let by_pass : IsByPass (put_into m.lazy o.pending).last next.pass = subst (λ (lazy : LazyState). IsByPass lazy.last next.pass) (ap (λ (m : Machine). m.lazy) by.goes) by.by_pass in
    subst (IsKept start) (sym by.goes)
    (stored_kept start (record (ended m s o answers) { db = left_by m.db o.pending; history = history }) rest (put_into m.lazy o.pending) next.pass
    (settled_valid start m kept s o by.can.is answers history next.pass by_pass))

-- ABORT KEEPS ALL
pub abort_keeps_all : (start : Database) (m : Machine) (kept : IsKept start m) (texts : AreTexts m.script) (s : ℕ) (next : Machine) → Aborts m s next → IsKept start next
abort_keeps_all start m kept texts s next by =
    let o = by.o in
    let count = commits_behind 0 m.history in
    let answers = o.replies ++ map (λ _. reply.RolledBack) (rest_of m s o) in
    let ran = whole_run start m kept texts s o by.is count Rollback reply.RolledBack refl (λ view. refl) by.left in
    let sizes : length answers ≡ length (text_of m s o) = sym (ap (λ (ran : List Reply × Database). length ran.0) ran) ∙ length-run_group count false m.db (text_of m s o) in
    let legal = end_keeps_legal start m kept texts s o by.is RolledBack answers m.db kept.history_legal.database by.current
    (sym (ap (λ (b : Bool). (outcome_by b (count + 1)).0) by.commits_so)) (ap (λ (ran : List Reply × Database). (ran.0, m.db)) ran) sizes in
    let place = has_place m s o by.is in
    subst (IsKept start) (sym by.goes)
    (kept_with start (rolled_back m s o)
    (end_with start m kept texts s o by.is RolledBack answers m.db sizes legal
    (unchanged_keeps_open start m kept s o by.is answers m.began (m.history ++ entry_of m s o RolledBack ∷ [])))
    (record {
      seen_as = kept.store_valid.seen_as;
      narrow = kept.store_valid.narrow;
      by_pass = kept.store_valid.by_pass;
      puts = puts_without start m kept.store_valid s place.0 place.1;
    }))
