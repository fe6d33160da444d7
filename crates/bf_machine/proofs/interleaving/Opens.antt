-- What each open group has come to stays through each event.
use Rattle.std.proofs.Common.{◌≡◌, ◌≢◌, ℕ, ◌+◌, ◌-◌, ◌≤◌, false, List, [], ◌∷◌, ◌++◌, length, Option, Some, None, refl, sym, ap, subst, ◌∙◌, arith, inl, inr, length-append}
use Rattle.std.specs.Prelude.{slice_set, Contains}
use Rattle.std.proofs.lemmas.Bool.{cases_eq}
use Rattle.std.proofs.lemmas.List.{length-drop}
use Rattle.bf_locks.specs.declared.answer.LockAnswer.{LockAnswer}
use Rattle.bf_locks.specs.declared.mode.Mode.{Mode}
use Rattle.bf_locks.specs.declared.name.LockName.{LockName}
use Rattle.bf_locks.specs.Locks.{Locks, without_owner, after as locks_after}
use Rattle.bf_tree.specs.declared.bound.Bound.{Bound}
use Rattle.bf_tree.specs.declared.history.Entry.{Entry}
use Rattle.bf_tree.specs.declared.reply.Reply.{Reply}
use Rattle.bf_tree.specs.declared.statement.Statement.{Statement}
use Rattle.bf_sql.specs.Database.{Database}
use Rattle.bf_sql.specs.Footprints.{footprint_of}
use Rattle.bf_sql.specs.Groups.{ends_block, groups_in}
use Rattle.bf_sql.specs.migrations.Plans.{prepared_of}
use Rattle.bf_live.specs.OpenGroups.{Holds}
use Rattle.bf_live.proofs.locking.Granting.{answer_keeps, freeing_keeps}
use Rattle.bf_machine.specs.interleaving.Groups.{HasRun, left_by}
use Rattle.bf_machine.specs.interleaving.Machines.{Group, Began, Open, Machine, open_at, told_at, answered_in}
use Rattle.bf_machine.specs.interleaving.Kept.{IsKept, IsOpenGroup, OpenGroupsReplay}
use Rattle.bf_machine.specs.interleaving.Events.{ended, with_open, stepped, opened, stands_inside, text_of, rest_of}
use Rattle.bf_machine.proofs.interleaving.Others.{has_place, starts_differ}
use Rattle.bf_machine.proofs.interleaving.Places.{set_same, set_other}
use Rattle.bf_machine.proofs.interleaving.Running.{run_beside, run_next, run_under}
use Rattle.bf_machine.proofs.interleaving.Texts.{AreTexts}

-- an open group of a session in which nothing is told, where the rest may change
module _ (start : Database) (m : Machine) (db : Database) (locks : Locks) (began : List Began) (opens : List (Option Open)) (all_told : List (List Reply)) (history : List Entry) where
  abbrev moved : Machine
  moved = record m { db = db; locks = locks; began = began; opens = opens; told = all_told; history = history }

  pub stays : (t : ℕ) (p : Open) → told_at moved t ≡ told_at m t → HasRun locks p.start db (answered_in m.script t p) p.pending
      → IsOpenGroup start m t p → IsOpenGroup start moved t p
  stays t p same run group = record {
    whole = group.whole;
    next = group.next ∙ ap (λ (told : List Reply). length told + 1) (sym same);
    within = group.within;
    run = run;
  }

module _ (start : Database) (m : Machine) (kept : IsKept start m) (s : ℕ) where
  -- one more open group in session s
  module _ (o : Open) (low : 1 ≤ s) (high : s ≤ length m.opens) (began : List Began) where
    abbrev with_one : Machine
    with_one = record (with_open m s (Some o)) { began = began }

    pub one_keeps_open : IsOpenGroup start with_one s o → OpenGroupsReplay start with_one
    one_keeps_open new = record {
      each = λ t p is_open.
          elim (cases_eq t s) as (λ _. IsOpenGroup start with_one t p) [
            | inl same ↦
                let now : Some o ≡ Some p = sym (set_same None None m.opens s (Some o) low high) ∙ (ap (open_at with_one) (sym same) ∙ is_open) in
                let it : o ≡ p = cc in
                subst (λ (t : ℕ). IsOpenGroup start with_one t p) (sym same) (subst (λ (p : Open). IsOpenGroup start with_one s p) it new)
            | inr apart ↦
                let was : open_at m t ≡ Some p = sym (set_other None None m.opens s t (Some o) low apart) ∙ is_open in
                let other = kept.open_groups_replay.each t p was in
                stays start m m.db m.locks began (slice_set m.opens (s - 1) (Some o)) m.told m.history t p refl other.run other
          ];
    }

  -- EXEC
  module _ (texts : AreTexts m.script) (o : Open) (there : open_at m s ≡ Some o) (statement : Statement) (later : List Statement) (left : rest_of m s o ≡ statement ∷ later)
      (goes_on : ends_block statement ≡ false) (bound : Bound) (is_bound : prepared_of m.db (stands_inside o.replies) statement ≡ Some bound)
      (held : Holds m.locks o.start (footprint_of bound)) where
    abbrev now : Open
    now = stepped m s o statement bound

    abbrev own : IsOpenGroup start m s o
    own = kept.open_groups_replay.each s o there

    room : length now.replies ≤ length (text_of m s o)
    room =
        let sizes = ap (λ (ss : List Statement). length ss) left in
        omega (arith, length-drop (length o.replies) (text_of m s o), sizes, size_now)
      where
        size_now : length now.replies ≡ length o.replies + 1
        size_now = length-append o.replies _

    stepped_stays : IsOpenGroup start (with_open m s (Some now)) s now
    stepped_stays = record {
      whole = own.whole;
      next = own.next;
      within = room;
      run = run_next m.locks o.start m.db kept.history_legal.database (text_of m s o) (texts.shape s o.group own.whole) statement later goes_on bound held o.pending o.replies left is_bound own.run;
    }

    pub exec_keeps_open : OpenGroupsReplay start (with_open m s (Some now))
    exec_keeps_open = let place = has_place m s o there in one_keeps_open now place.0 place.1 m.began stepped_stays

  -- AN ANSWER to a request: all groups hold what they held
  pub answer_keeps_open : (owner : ℕ) (name : LockName) (mode : Mode) (answer : LockAnswer) → OpenGroupsReplay start (record m { locks = locks_after m.locks owner name mode answer })
  answer_keeps_open owner name mode answer = record {
    each = λ t p is_open.
        let group = kept.open_groups_replay.each t p is_open in
        let locks = locks_after m.locks owner name mode answer in
        stays start m m.db locks m.began m.opens m.told m.history t p refl
        (run_under m.locks locks p.start m.db (answered_in m.script t p) p.pending (λ at mode_held holds. answer_keeps m.locks owner p.start name at mode mode_held answer holds) group.run) group;
  }

  -- ENDED, by a commit, an abort or a death: the others stay, where what they have come to is right on the next database
  module _ (o : Open) (there : open_at m s ≡ Some o) (answers : List Reply) (db : Database) (began : List Began) (history : List Entry)
      (others : (t : ℕ) (p : Open) → p.start ≢ o.start → open_at m t ≡ Some p → HasRun m.locks p.start db (answered_in m.script t p) p.pending) where
    abbrev after : Machine
    after = record (ended m s o answers) { db = db; began = began; history = history }

    pub end_keeps_open : OpenGroupsReplay start after
    end_keeps_open = record {
      each = λ t p is_open.
          let place = has_place m s o there in
          elim (cases_eq t s) as (λ _. IsOpenGroup start after t p) [
            | inl same ↦
                let none : open_at after t ≡ None = ap (open_at after) same ∙ set_same None None m.opens s None place.0 place.1 in
                let clash : None ≡ Some p = sym none ∙ is_open in
                absurd cc
            | inr apart ↦
                let was : open_at m t ≡ Some p = sym (set_other None None m.opens s t None place.0 apart) ∙ is_open in
                let group = kept.open_groups_replay.each t p was in
                let starts : p.start ≢ o.start = starts_differ m.began s t o.group p.group o.start p.start apart (kept.locks_consistent.starts t p was) (kept.locks_consistent.starts s o there) in
                let locks = without_owner m.locks o.start in
                stays start m db locks began (slice_set m.opens (s - 1) None) (slice_set m.told (s - 1) (told_at m s ++ answers)) history t p
                (set_other [] [] m.told s t (told_at m s ++ answers) place.0 apart)
                (run_under m.locks locks p.start db (answered_in m.script t p) p.pending (λ name mode holds. freeing_keeps m.locks o.start p.start name mode starts holds) (others t p starts was)) group
          ];
    }

  module _ (o : Open) (there : open_at m s ≡ Some o) (answers : List Reply) (began : List Began) (history : List Entry) where
    -- without a change of the database
    pub unchanged_keeps_open : OpenGroupsReplay start (record (ended m s o answers) { began = began; history = history })
    unchanged_keeps_open = end_keeps_open o there answers m.db began history (λ t p starts was. (kept.open_groups_replay.each t p was).run)

    -- and with what the group leaves
    pub commit_keeps_open : OpenGroupsReplay start (record (ended m s o answers) { db = left_by m.db o.pending; began = began; history = history })
    commit_keeps_open =
        end_keeps_open o there answers (left_by m.db o.pending) began history
        (λ t p starts was. run_beside m.locks kept.locks_consistent.apart p.start o.start starts m.db kept.history_legal.database
        (answered_in m.script t p) (answered_in m.script s o) p.pending o.pending (kept.open_groups_replay.each t p was).run (kept.open_groups_replay.each s o there).run)

  -- BEGUN, for the first time or again: nothing is answered yet
  pub begin_keeps_open : (n : ℕ) (group : Group) → 1 ≤ s → s ≤ length m.opens → Contains (groups_in m.script s) group → group.0 ≡ length (told_at m s) + 1
      → (began : List Began) → OpenGroupsReplay start (record (with_open m s (Some (opened m s n group))) { began = began })
  begin_keeps_open n group low high whole first began =
      one_keeps_open (opened m s n group) low high began (record { whole = whole; next = first; within = omega arith; run = refl })
