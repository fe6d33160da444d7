-- The commit of a session's open group: what it is to leave can be settled, and the machine behind it keeps what it kept.
use Rattle.std.proofs.Common.{◌≡◌, ◌⊎◌, ℕ, ◌+◌, ◌-◌, ◌≤◌, Bool, true, cond, ltb, List, [], ◌∷◌, ◌++◌, length, map, Option, Some, None, refl, sym, ap, ap₂, subst, ◌∙◌, arith, vec_capacity}
use Rattle.std.specs.Prelude.{slice_index_or, slice_set}
use Rattle.std.specs.Global.{Vec}
use Rattle.std.proofs.lemmas.List.{set-get_or}
use Rattle.std.proofs.lemmas.Option.{same_Some}
use Rattle.bf_locks.specs.Locks.{Locks, without_owner}
use Rattle.bf_tree.specs.declared.history.Entry.{Entry}
use Rattle.bf_tree.specs.declared.history.Outcome.{Outcome}
use Rattle.bf_tree.specs.declared.history.Outcome.TheVariants.{Committed, RolledBack}
use Rattle.bf_tree.specs.declared.plan.Plan.{Plan}
use Rattle.bf_tree.specs.declared.reply.Reply.{Reply}
use Rattle.bf_tree.specs.declared.reply.Reply.TheVariants as reply
use Rattle.bf_tree.specs.declared.script.Script.{Script}
use Rattle.bf_tree.specs.declared.statement.Statement.{Statement}
use Rattle.bf_tree.specs.declared.statement.Statement.TheVariants.{Commit}
use Rattle.bf_sql.specs.Database.{Database}
use Rattle.bf_sql.specs.Groups.{commits as commits_text}
use Rattle.bf_sql.specs.History.{commits_with}
use Rattle.bf_sql.specs.migrations.Lazy.{LazyState, view_of}
use Rattle.bf_image.specs.Registries.{Registry}
use Rattle.bf_store.specs.Stores.{IsByPass, IsOf, Store}
use Rattle.bf_machine.specs.declared.so_far.Began.{Began as BeganGroup}
use Rattle.bf_machine.specs.declared.so_far.OpenGroup.{OpenGroup}
use Rattle.bf_machine.specs.declared.so_far.Pending.{Pending as PendingChange}
use Rattle.bf_machine.specs.declared.so_far.Pending.TheVariants as change
use Rattle.bf_machine.specs.declared.so_far.SessionSoFar.{SessionSoFar}
use Rattle.bf_machine.specs.interleaving.Answering.{CanSettle}
use Rattle.bf_machine.specs.interleaving.Events.{Commits, IsToCommit, commits_behind, committed, entry_of, put_into, rest_of, text_of}
use Rattle.bf_machine.specs.interleaving.Groups.{Flip, left_by}
use Rattle.bf_machine.specs.interleaving.Journals.{AreSaid, IsLeftFor, IsPutInto, IsStated}
use Rattle.bf_machine.specs.interleaving.Kept.{IsKept, IsOpenGroup, StoreValid}
use Rattle.bf_machine.specs.interleaving.Machines.{Machine, Open, answered_in, open_at}
use Rattle.bf_machine.specs.interleaving.Seen.{IsSound, group_seen, pending_seen, seen}
use Rattle.bf_machine.proofs.interleaving.Ends.{commit_keeps_all}
use Rattle.bf_machine.proofs.interleaving.Narrow.{narrow_in}
use Rattle.bf_machine.proofs.interleaving.Running.{run_is_database}
use Rattle.bf_machine.proofs.interleaving.Settled.{left_narrow, narrow_view, settles}
use Rattle.bf_machine.proofs.interleaving.Stated.{said_in, stated}
use Rattle.bf_machine.proofs.interleaving.Texts.{are_texts}
use Rattle.bf_machine.proofs.keeping.Ending.{ended_sound, last_told, room_for_entry, seen_ended, there}

-- no more entries are committed than there are
one_commit : (n : ℕ) (o : Outcome) → commits_with n o ≤ n + 1
one_commit n (Committed number) = omega arith
one_commit n RolledBack = omega arith

commits_within : (n : ℕ) (es : List Entry) → commits_behind n es ≤ n + length es
commits_within n [] = omega arith
commits_within n (e ∷ es) = omega (arith, commits_within (commits_with n e.outcome) es, one_commit n e.outcome)

-- what is pending is seen whole
same_pending : (p q : PendingChange) → pending_seen p ≡ pending_seen q → p ≡ q
same_pending (change.Rows a) (change.Rows b) same = cc
same_pending (change.Rows a) (change.NewTable b) same = cc
same_pending (change.Rows a) (change.NewIndex b) same = cc
same_pending (change.Rows a) (change.Flip b) same = cc
same_pending (change.Rows a) change.Nothing same = cc
same_pending (change.NewTable a) (change.Rows b) same = cc
same_pending (change.NewTable a) (change.NewTable b) same = cc
same_pending (change.NewTable a) (change.NewIndex b) same = cc
same_pending (change.NewTable a) (change.Flip b) same = cc
same_pending (change.NewTable a) change.Nothing same = cc
same_pending (change.NewIndex a) (change.Rows b) same = cc
same_pending (change.NewIndex a) (change.NewTable b) same = cc
same_pending (change.NewIndex a) (change.NewIndex b) same = cc
same_pending (change.NewIndex a) (change.Flip b) same = cc
same_pending (change.NewIndex a) change.Nothing same = cc
same_pending (change.Flip a) (change.Rows b) same = cc
same_pending (change.Flip a) (change.NewTable b) same = cc
same_pending (change.Flip a) (change.NewIndex b) same = cc
same_pending (change.Flip a) (change.Flip b) same = cc
same_pending (change.Flip a) change.Nothing same = cc
same_pending change.Nothing (change.Rows b) same = cc
same_pending change.Nothing (change.NewTable b) same = cc
same_pending change.Nothing (change.NewIndex b) same = cc
same_pending change.Nothing (change.Flip b) same = cc
same_pending change.Nothing change.Nothing same = refl

-- so where it is seen as before, the sessions are as before
pub sessions_stay : (sessions : List SessionSoFar) (i : ℕ) (x : SessionSoFar) → slice_index_or sessions i x ≡ x → (g : OpenGroup) → x.«open» ≡ Some g
    → (p : PendingChange) → pending_seen p ≡ pending_seen g.pending
    → slice_set sessions i (record x { «open» = Some (record g { pending = p }) }) ≡ sessions
sessions_stay sessions i x at g is p same =
    let one : p ≡ g.pending = same_pending p g.pending same in
    let group : record g { pending = p } ≡ g = ap (λ (q : PendingChange). record g { pending = q }) one in
    let session : record x { «open» = Some (record g { pending = p }) } ≡ x =
    ap (λ (h : OpenGroup). record x { «open» = Some h }) group ∙ ap (λ (o : Option OpenGroup). record x { «open» = o }) (sym is) in
    ap (slice_set sessions i) (session ∙ sym at) ∙ set-get_or sessions i x

module _ {opening : Database} {registry : Registry} {given : Script} (logged : Bool) (script : Script) (retries : ℕ) (store : Store) (locks : Locks) (began : List BeganGroup) (sessions : List SessionSoFar) (history : Vec Entry) (commits : ℕ) (transcripts : Vec (List Reply))
    (sound : IsSound opening registry given logged script retries store locks began sessions history commits transcripts)
    (s : ℕ) (low : 1 ≤ s) (high : s ≤ length sessions) (x : SessionSoFar) (at : slice_index_or sessions (s - 1) x ≡ x) (g : OpenGroup) (is : x.«open» ≡ Some g) where
  abbrev m : Machine
  m = seen logged script retries store locks began sessions history.items

  abbrev o : Open
  o = group_seen x.replies.items g

  here : open_at m s ≡ Some o
  here = there logged script retries store locks began sessions history commits transcripts sound s low high x at g is

  abbrev db : Database
  db = view_of store.lazy

  valid : StoreValid opening m
  valid = sound.kept.store_valid

  own : IsOpenGroup opening m s o
  own = sound.kept.open_groups_replay.each s o here

  pub can_settle : CanSettle store.lazy (pending_seen g.pending)
  can_settle = record {
    puts = valid.puts s o here;
    database = run_is_database locks g.start db (answered_in script s o) (pending_seen g.pending) sound.kept.history_legal.database own.run;
    narrow = left_narrow locks g.start db o.replies (text_of m s o) (pending_seen g.pending) (narrow_in script sound.kept.within s o.group) own.run
        (narrow_view store.lazy valid.seen_as.lazy_state valid.narrow);
  }

  pub is_stated : (Says : Statement → Type 0) → AreSaid Says script → IsStated Says db (pending_seen g.pending)
  is_stated Says said = stated Says locks g.start db o.replies (text_of m s o) (said_in Says script said s o.group) (pending_seen g.pending) own.run

  pub number_fits : commits + 1 ≤ vec_capacity history
  number_fits =
      let space = room_for_entry logged script retries store locks began sessions history commits transcripts sound s low high x at g is in
      let within = commits_within 0 history.items in
      omega (arith, sound.counted, space, within)

  module _ (by : IsToCommit m s) where
    same_group : by.o ≡ o
    same_group = same_Some by.o o (sym by.is ∙ here)

    -- and what the code has it leave is what it is to leave
    pub left_for : (next : LazyState) → IsPutInto store.lazy (pending_seen g.pending) next → IsLeftFor m s next
    left_for next is = (by, is ∙ ap (λ (p : Open). put_into store.lazy p.pending) (sym same_group))

    left_to_commit : (rest_of m s o ≡ []) ⊎ (rest_of m s o ≡ Commit ∷ [])
    left_to_commit = subst (λ (p : Open). (rest_of m s p ≡ []) ⊎ (rest_of m s p ≡ Commit ∷ [])) same_group by.left

    commits_so : (next : Machine) → IsByPass next.lazy.last next.pass → (((plan : Plan) → pending_seen g.pending ≡ Flip plan → ⊥) → next.pass ≡ store.migration)
        → next ≡ record (committed m s o) { pass = next.pass } → Commits m s next
    commits_so next by_pass same_pass goes = record {
      can = record {
        current = by.current;
        o = o;
        is = here;
        commits_so = subst (λ (p : Open). commits_text (text_of m s p) ≡ true) same_group by.commits_so;
        left = left_to_commit;
      };
      by_pass = by_pass;
      same_pass = same_pass;
      goes = goes;
    }

    abbrev n : ℕ
    n = commits_behind 0 history.items + 1

    count : commits + 1 ≡ n
    count = ap (λ (k : ℕ). k + 1) sound.counted

    -- the machine behind it
    module _ (y : SessionSoFar) (closed : y.«open» ≡ None) (latest : y.latest ≡ x.latest) (capacity : vec_capacity y.replies ≡ vec_capacity x.replies)
        (told : y.replies.items ≡ cond (ltb (length x.replies.items) g.last) (x.replies.items ++ reply.Committed (commits + 1) ∷ []) x.replies.items)
        (free : Locks) (freed : free ≡ without_owner locks g.start)
        (after : Store) (settled : after.lazy ≡ put_into store.lazy (pending_seen g.pending)) (by_pass : IsByPass after.lazy.last after.migration)
        (one : IsOf registry after.migration) (same_pass : ((plan : Plan) → pending_seen g.pending ≡ Flip plan → ⊥) → after.migration ≡ store.migration)
        (entries : Vec Entry) (items : entries.items ≡ history.items ++ entry_of m s o (Committed (commits + 1)) ∷ []) (space : vec_capacity entries ≡ vec_capacity history) where
      abbrev answers : List Reply
      answers = map (λ _. reply.Committed n) (rest_of m s o)

      told_number : y.replies.items ≡ cond (ltb (length x.replies.items) g.last) (x.replies.items ++ reply.Committed n ∷ []) x.replies.items
      told_number = subst (λ (k : ℕ). y.replies.items ≡ cond (ltb (length x.replies.items) g.last) (x.replies.items ++ reply.Committed k ∷ []) x.replies.items) count told

      with_entry : entries.items ≡ history.items ++ entry_of m s o (Committed n) ∷ []
      with_entry = subst (λ (k : ℕ). entries.items ≡ history.items ++ entry_of m s o (Committed k) ∷ []) count items

      replies : y.replies.items ≡ x.replies.items ++ answers
      replies =
          last_told logged script retries store locks began sessions history commits transcripts sound s low high x at g is
          Commit (reply.Committed n) left_to_commit y.replies.items told_number

      -- what is seen of the store is what the group leaves
      left_seen : view_of after.lazy ≡ left_by db (pending_seen g.pending)
      left_seen = ap view_of settled ∙ (settles store.lazy valid.seen_as.lazy_state locks g.start (answered_in script s o) (pending_seen g.pending) own.run (valid.puts s o here)).view

      abbrev then : Machine
      then = record (committed m s o) { pass = after.migration }

      as_committed : record then { db = view_of after.lazy; lazy = after.lazy } ≡ then
      as_committed = ap₂ (λ (db : Database) (lazy : LazyState). record then { db = db; lazy = lazy }) left_seen settled

      commit_kept : IsKept opening then
      commit_kept =
          commit_keeps_all opening m sound.kept (are_texts script) s then
          (commits_so then (subst (λ (lazy : LazyState). IsByPass lazy.last after.migration) settled by_pass) same_pass refl)

      pub commit_sound : IsSound opening registry given logged script retries after free began (slice_set sessions (s - 1) y) entries (commits + 1) transcripts
      commit_sound =
          subst (λ (locks : Locks). IsSound opening registry given logged script retries after locks began (slice_set sessions (s - 1) y) entries (commits + 1) transcripts) (sym freed)
          (ended_sound logged script retries store locks began sessions history commits transcripts sound s low high x at g is
          answers y closed replies after (entry_of m s o (Committed n)) (commits + 1) latest (omega (arith, capacity)) entries with_entry space
          (subst (IsKept opening) (sym as_committed) commit_kept) one count)

      pub commit_seen : Commits m s (seen logged script retries after free began (slice_set sessions (s - 1) y) entries.items)
      commit_seen =
          commits_so (seen logged script retries after free began (slice_set sessions (s - 1) y) entries.items) by_pass same_pass
          (ap₂ (λ (locks : Locks) (es : List Entry). seen logged script retries after locks began (slice_set sessions (s - 1) y) es) freed with_entry
          ∙ (seen_ended logged script retries store locks began sessions history commits transcripts sound s low high x at g is
          answers y closed replies after (entry_of m s o (Committed n))
          ∙ as_committed))
