-- The end of a session's open group: its replies, and what is seen of it.
use Rattle.std.proofs.Common.{◌≡◌, ◌⊎◌, ℕ, ◌+◌, ◌-◌, ◌<◌, ◌≤◌, Bool, false, cond, ltb, List, [], ◌∷◌, ◌++◌, length, map, take, drop, Option, Some, None, refl, sym, ap, ap₂, subst, ◌∙◌, arith, inl, inr, option_map, append_assoc, append-nil, length-append, vec_capacity}
use Rattle.std.specs.Prelude.{is_some, slice_index_or, slice_set}
use Rattle.std.specs.Global.{Vec}
use Rattle.std.proofs.lemmas.Bool.{cases_lt, cond_above, cond_below}
use Rattle.std.proofs.lemmas.List.{length-drop, length-set, take-append-drop}
use Rattle.std.proofs.lemmas.Option.{same_Some}
use Rattle.bf_locks.specs.Locks.{Locks, without_owner}
use Rattle.bf_tree.specs.declared.history.Entry.{Entry}
use Rattle.bf_tree.specs.declared.history.Outcome.TheVariants.{RolledBack}
use Rattle.bf_tree.specs.declared.reply.Reply.{Reply}
use Rattle.bf_tree.specs.declared.reply.Reply.TheVariants as reply
use Rattle.bf_tree.specs.declared.script.Script.{Script}
use Rattle.bf_tree.specs.declared.statement.Statement.{Statement}
use Rattle.bf_tree.specs.declared.statement.Statement.TheVariants.{Rollback}
use Rattle.bf_sql.specs.Groups.{commits as commits_text, session_at}
use Rattle.bf_sql.specs.History.{commits_with}
use Rattle.bf_sql.specs.Database.{Database}
use Rattle.bf_sql.specs.migrations.Lazy.{view_of}
use Rattle.bf_image.specs.Registries.{Registry}
use Rattle.bf_store.specs.Stores.{IsOf, Store}
use Rattle.bf_machine.specs.declared.so_far.Began.{Began as BeganGroup}
use Rattle.bf_machine.specs.declared.so_far.OpenGroup.{OpenGroup}
use Rattle.bf_machine.specs.declared.so_far.SessionSoFar.{SessionSoFar}
use Rattle.bf_machine.specs.interleaving.Events.{Aborts, commits_behind, ended, entry_of, rest_of, rolled_back, text_of}
use Rattle.bf_machine.specs.interleaving.Kept.{IsKept, IsOpenGroup}
use Rattle.bf_machine.specs.interleaving.Machines.{Machine, Open, open_at, told_at}
use Rattle.bf_machine.specs.interleaving.Seen.{IsLatest, IsSound, began_seen, group_seen, open_seen, seen, told_before, told_seen}
use Rattle.bf_machine.proofs.interleaving.Ends.{abort_keeps_all}
use Rattle.bf_machine.proofs.interleaving.Telling.{length-part}
use Rattle.bf_machine.proofs.interleaving.Texts.{are_texts}
use Rattle.bf_machine.proofs.keeping.Places.{one_closed, roomy_then, open_there, opens_then, told_then, told_there}

-- one entry more
commits_more : (n : ℕ) (es : List Entry) (e : Entry) → commits_behind n (es ++ e ∷ []) ≡ commits_with (commits_behind n es) e.outcome
commits_more n [] e = refl
commits_more n (d ∷ es) e = commits_more (commits_with n d.outcome) es e

module _ {opening : Database} {registry : Registry} {given : Script} (logged : Bool) (script : Script) (retries : ℕ) (store : Store) (locks : Locks) (began : List BeganGroup) (sessions : List SessionSoFar) (history : Vec Entry) (commits : ℕ) (transcripts : Vec (List Reply))
    (sound : IsSound opening registry given logged script retries store locks began sessions history commits transcripts)
    (s : ℕ) (low : 1 ≤ s) (high : s ≤ length sessions) (x : SessionSoFar) (at : slice_index_or sessions (s - 1) x ≡ x) (g : OpenGroup) (is : x.«open» ≡ Some g) where
  abbrev m : Machine
  m = seen logged script retries store locks began sessions history.items

  abbrev o : Open
  o = group_seen x.replies.items g

  pub there : open_at m s ≡ Some o
  there = open_there logged script retries store locks began sessions history.items x s low high at ∙ ap (option_map (group_seen x.replies.items)) is

  told_is : told_at m s ≡ take (g.first - 1) x.replies.items
  told_is = told_there logged script retries store locks began sessions history.items x s low high at ∙ ap (told_before x.replies.items) is

  pub all_told : told_at m s ++ o.replies ≡ x.replies.items
  all_told = ap (λ (rs : List Reply). rs ++ drop (g.first - 1) x.replies.items) told_is ∙ take-append-drop (g.first - 1) x.replies.items

  own : IsOpenGroup opening m s o
  own = sound.kept.open_groups_replay.each s o there

  bounds : (1 ≤ g.first) × (g.first ≤ g.last) × (g.last ≤ length (session_at script s).statements)
  bounds = (are_texts script).bounds s o.group own.whole

  -- so many statements are left
  pub left_size : length (rest_of m s o) + length x.replies.items ≡ g.last
  left_size =
      let sizes : length (told_at m s) + length o.replies ≡ length x.replies.items = sym (length-append (told_at m s) o.replies) ∙ ap (λ (rs : List Reply). length rs) all_told in
      omega (arith, sizes, length-drop (length o.replies) (text_of m s o), length-part g.first g.last (session_at script s).statements, own.within, own.next, bounds.0, bounds.1, bounds.2)

  -- there is room for a reply where one is left
  pub room_for_reply : length x.replies.items < g.last → length x.replies.items < vec_capacity x.replies
  room_for_reply less =
      let next : s - 1 + 1 ≡ s = omega (arith, low) in
      let room = (sound.roomy (s - 1) x (omega (arith, low, high)) at).room in
      let here : length (session_at script s).statements ≤ vec_capacity x.replies = rw next at room in
      omega (arith, less, here, bounds.2)

  -- and for the group's entry
  pub room_for_entry : length history.items < vec_capacity history
  room_for_entry =
      let y : SessionSoFar = record x { «open» = None } in
      let count = one_closed sessions (s - 1) x y (omega (arith, low, high)) at (ap is_some is) refl in
      omega (arith, sound.room, count)

  module _ (c : Statement) (r : Reply) (left : (rest_of m s o ≡ []) ⊎ (rest_of m s o ≡ c ∷ [])) where
    abbrev more : List Reply
    more = map (λ _. r) (rest_of m s o)

    pub one_more : length x.replies.items < g.last → x.replies.items ++ r ∷ [] ≡ x.replies.items ++ more
    one_more less = elim left as (λ _. x.replies.items ++ r ∷ [] ≡ x.replies.items ++ more) [
      | inl nothing ↦
          let none : length (rest_of m s o) ≡ 0 = ap (λ (ss : List Statement). length ss) nothing in
          absurd (omega (arith, left_size, none, less))
      | inr one ↦ ap (λ (ss : List Statement). x.replies.items ++ map (λ _. r) ss) (sym one)
    ]

    pub no_more : g.last ≤ length x.replies.items → x.replies.items ≡ x.replies.items ++ more
    no_more full = elim left as (λ _. x.replies.items ≡ x.replies.items ++ more) [
      | inl nothing ↦ sym (ap (λ (ss : List Statement). x.replies.items ++ map (λ _. r) ss) nothing ∙ append-nil x.replies.items)
      | inr one ↦
          let some : length (rest_of m s o) ≡ 1 = ap (λ (ss : List Statement). length ss) one in
          absurd (omega (arith, left_size, some, full))
    ]

    -- so the replies are as the end tells them
    pub last_told : (replies : List Reply) → replies ≡ cond (ltb (length x.replies.items) g.last) (x.replies.items ++ r ∷ []) x.replies.items
        → replies ≡ x.replies.items ++ more
    last_told replies told = elim (cases_lt (length x.replies.items) g.last) as (λ _. replies ≡ x.replies.items ++ more) [
      | inl less ↦ told ∙ (sym (cond_below (length x.replies.items) g.last (x.replies.items ++ r ∷ []) x.replies.items less) ∙ one_more less)
      | inr full ↦ told ∙ (sym (cond_above (length x.replies.items) g.last (x.replies.items ++ r ∷ []) x.replies.items x.replies.items full refl)
          ∙ no_more full)
    ]

  -- what is seen once the group is closed, with such replies
  module _ (answers : List Reply) (y : SessionSoFar) (closed : y.«open» ≡ None) (replies : y.replies.items ≡ x.replies.items ++ answers) (next : Store) (e : Entry) where
    abbrev after : Machine
    after = record (ended m s o (o.replies ++ answers)) { db = view_of next.lazy; lazy = next.lazy; pass = next.migration; history = history.items ++ e ∷ [] }

    told_then_is : told_seen y ≡ told_at m s ++ (o.replies ++ answers)
    told_then_is =
        ap (told_before y.replies.items) closed
        ∙ (replies ∙ (ap (λ (rs : List Reply). rs ++ answers) (sym all_told) ∙ append_assoc (told_at m s) o.replies answers))

    pub seen_ended : seen logged script retries next (without_owner locks g.start) began (slice_set sessions (s - 1) y) (history.items ++ e ∷ [])
        ≡ after
    seen_ended =
        ap₂ (λ (opens : List (Option Open)) (told : List (List Reply)). record after { opens = opens; told = told })
        (opens_then sessions (s - 1) y ∙ ap (λ (p : Option Open). slice_set (map open_seen sessions) (s - 1) p) (ap (option_map (group_seen y.replies.items)) closed))
        (told_then sessions (s - 1) y ∙ ap (λ (rs : List Reply). slice_set (map told_seen sessions) (s - 1) rs) told_then_is)

    -- and the machine keeps what it kept
    module _ (commits_then : ℕ) (latest : y.latest ≡ x.latest) (capacity : vec_capacity x.replies ≤ vec_capacity y.replies) (entries : Vec Entry) (items : entries.items ≡ history.items ++ e ∷ [])
        (space : vec_capacity entries ≡ vec_capacity history) (kept : IsKept opening after) (one : IsOf registry next.migration)
        (counted : commits_then ≡ commits_with (commits_behind 0 history.items) e.outcome) where
      pub ended_sound : IsSound opening registry given logged script retries next (without_owner locks g.start) began (slice_set sessions (s - 1) y) entries commits_then transcripts
      ended_sound =
          let below : s - 1 < length sessions = omega (arith, low, high) in
          let was = sound.roomy (s - 1) x below at in
          let count = one_closed sessions (s - 1) x y below at (ap is_some is) (ap is_some closed) in
          let sizes : length entries.items ≡ length history.items + 1 = ap (λ (es : List Entry). length es) items ∙ length-append history.items (e ∷ []) in record {
            is_given = sound.is_given;
            narrow = sound.narrow;
            one = one;
            kept = subst (λ (es : List Entry). IsKept opening (seen logged script retries next (without_owner locks g.start) began (slice_set sessions (s - 1) y) es)) (sym items)
                (subst (IsKept opening) (sym seen_ended) kept);
            counted = counted ∙ (sym (commits_more 0 history.items e) ∙ ap (commits_behind 0) (sym items));
            sessions_numbered = sound.sessions_numbered;
            roomy = roomy_then script (map began_seen began) sessions (s - 1) x y below at sound.roomy capacity (subst (IsLatest (map began_seen began) (s - 1 + 1)) (sym latest) was.latest);
            room = omega (arith, sound.room, count, sizes, space);
            no_transcripts = sound.no_transcripts;
            transcripts_room = omega (arith, length-set sessions (s - 1) y, sound.transcripts_room);
          }

  -- ABORT
  module _ (before : Machine) (by : Aborts m s before) where
    same_group : by.o ≡ o
    same_group = same_Some by.o o (sym by.is ∙ there)

    pub left_to_abort : (rest_of m s o ≡ []) ⊎ (rest_of m s o ≡ Rollback ∷ [])
    left_to_abort = subst (λ (p : Open). (rest_of m s p ≡ []) ⊎ (rest_of m s p ≡ Rollback ∷ [])) same_group by.left

    pub aborted : (next : Machine) → next ≡ rolled_back m s o → Aborts m s next
    aborted next goes = record {
      current = by.current;
      o = o;
      is = there;
      commits_so = subst (λ (p : Open). commits_text (text_of m s p) ≡ false) same_group by.commits_so;
      left = left_to_abort;
      goes = goes;
    }

    pub abort_kept : IsKept opening (rolled_back m s o)
    abort_kept = abort_keeps_all opening m sound.kept (are_texts script) s (rolled_back m s o) (aborted (rolled_back m s o) refl)

    -- so does the machine behind it
    module _ (y : SessionSoFar) (closed : y.«open» ≡ None) (latest : y.latest ≡ x.latest) (capacity : vec_capacity y.replies ≡ vec_capacity x.replies)
        (told : y.replies.items ≡ cond (ltb (length x.replies.items) g.last) (x.replies.items ++ reply.RolledBack ∷ []) x.replies.items)
        (free : Locks) (freed : free ≡ without_owner locks g.start)
        (entries : Vec Entry) (items : entries.items ≡ history.items ++ entry_of m s o RolledBack ∷ []) (space : vec_capacity entries ≡ vec_capacity history) where
      abbrev answers : List Reply
      answers = map (λ _. reply.RolledBack) (rest_of m s o)

      replies : y.replies.items ≡ x.replies.items ++ answers
      replies = last_told Rollback reply.RolledBack left_to_abort y.replies.items told

      pub abort_sound : IsSound opening registry given logged script retries store free began (slice_set sessions (s - 1) y) entries commits transcripts
      abort_sound =
          subst (λ (locks : Locks). IsSound opening registry given logged script retries store locks began (slice_set sessions (s - 1) y) entries commits transcripts) (sym freed)
          (ended_sound answers y closed replies store (entry_of m s o RolledBack) commits latest (omega (arith, capacity)) entries items space abort_kept sound.one sound.counted)

      pub abort_seen : Aborts m s (seen logged script retries store free began (slice_set sessions (s - 1) y) entries.items)
      abort_seen =
          aborted (seen logged script retries store free began (slice_set sessions (s - 1) y) entries.items)
          (ap₂ (λ (locks : Locks) (es : List Entry). seen logged script retries store locks began (slice_set sessions (s - 1) y) es) freed items
          ∙ seen_ended answers y closed replies store (entry_of m s o RolledBack))
