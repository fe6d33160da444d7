-- The next statement of a session: it is answered in the open group, or a COMMIT or ROLLBACK is refused in none.
use Rattle.std.proofs.Common.{◌≡◌, ℕ, suc, ◌+◌, ◌-◌, ◌<◌, ◌≤◌, Bool, true, false, not, List, [], ◌∷◌, ◌++◌, length, take, drop, Option, Some, None, refl, sym, ap, ap₂, subst, ◌∙◌, arith, inl, inr, option_map, length-append, vec_capacity}
use Rattle.std.specs.Prelude.{Err, IfSome, Ok, OnErr, Result, is_some, slice_index_or, slice_set}
use Rattle.std.specs.Global.{Vec}
use Rattle.std.specs.List.{list_any}
use Rattle.std.proofs.lemmas.Bool.{and_parts, false≢true}
use Rattle.std.proofs.lemmas.List.{drop-append-le, take-append-le}
use Rattle.std.proofs.lemmas.Option.{same_Some}
use Rattle.bf_locks.specs.Locks.{Locks}
use Rattle.bf_tree.specs.declared.bound.Action.{Action}
use Rattle.bf_tree.specs.declared.bound.Bound.{Bound}
use Rattle.bf_tree.specs.declared.history.Entry.{Entry}
use Rattle.bf_tree.specs.declared.reply.Refusal.TheVariants.{NoTransaction}
use Rattle.bf_tree.specs.declared.reply.Reply.{Reply}
use Rattle.bf_tree.specs.declared.reply.Reply.TheVariants as reply
use Rattle.bf_tree.specs.declared.script.Script.{Script}
use Rattle.bf_tree.specs.declared.statement.Statement.{Statement}
use Rattle.bf_sql.specs.Database.{Database, IsDatabase}
use Rattle.bf_sql.specs.Footprints.{footprint_of}
use Rattle.bf_sql.specs.migrations.Lazy.{view_of}
use Rattle.bf_sql.specs.migrations.Need.{needed_for}
use Rattle.bf_sql.specs.migrations.Plans.{prepared_of}
use Rattle.bf_sql.specs.Groups.{ends_block, groups_in, has_statement, session_at, statements_in}
use Rattle.bf_txn.specs.declared.write.Write.{Write}
use Rattle.bf_live.specs.OpenGroups.{Holds, Replays}
use Rattle.bf_image.specs.Registries.{Registry}
use Rattle.bf_store.specs.States.{HaveMoved}
use Rattle.bf_store.specs.Stores.{Store}
use Rattle.bf_machine.specs.declared.so_far.Began.{Began as BeganGroup}
use Rattle.bf_machine.specs.declared.so_far.OpenGroup.{OpenGroup}
use Rattle.bf_machine.specs.declared.so_far.Pending.{Pending as PendingChange}
use Rattle.bf_machine.specs.declared.so_far.SessionSoFar.{SessionSoFar}
use Rattle.bf_machine.specs.interleaving.Calls.{CanExec, HasReplied, IsToExec}
use Rattle.bf_machine.specs.interleaving.Answering.{CanAnswer, IsAnswer, IsNext}
use Rattle.bf_machine.specs.interleaving.Events.{Executes, Refuses, rest_of, stands_inside, stepped, text_of, with_open}
use Rattle.bf_machine.specs.interleaving.Groups.{Flip, HasRun, NewIndex, NewTable, Nothing, Pending, Rows, answered_by, pending_behind, reply_on}
use Rattle.bf_machine.specs.interleaving.Kept.{CanBePutInto, IsKept, IsOpenGroup}
use Rattle.bf_machine.specs.interleaving.Machines.{Machine, Open, open_at, told_at}
use Rattle.bf_machine.specs.interleaving.Seen.{IsSound, group_seen, open_seen, pending_seen, seen, told_before, told_seen}
use Rattle.bf_machine.proofs.interleaving.Going.{exec_keeps_all}
use Rattle.bf_machine.proofs.interleaving.Narrow.{narrow_in, narrow_next}
use Rattle.bf_machine.proofs.interleaving.Refusing.{refuse_keeps_all}
use Rattle.bf_machine.proofs.interleaving.Running.{nothing_left}
use Rattle.bf_machine.proofs.interleaving.Telling.{length-part}
use Rattle.bf_machine.proofs.interleaving.Texts.{IsText, are_texts}
use Rattle.bf_machine.proofs.keeping.Ending.{all_told, left_size, room_for_reply, there}
use Rattle.bf_machine.proofs.keeping.Numbers.{prepared_still}
use Rattle.bf_machine.proofs.keeping.Exchanging.{exchanged_sound, seen_same, seen_with_open, seen_with_told}
use Rattle.bf_machine.proofs.keeping.Places.{open_there, told_there}

-- what is pending are rows, and none outside a block
record AreRows (rs : List Reply) (p : Pending) : Type 0 where
  pub writes : List Write
  pub is_rows : p ≡ Rows writes
  pub first : stands_inside rs ≡ false → writes ≡ []

module _ (locks : Locks) (owner : ℕ) (db : Database) (ss : List Statement) where
  nothing_first : (rs : List Reply) (writes : List Write) → Replays locks owner db [] (answered_by false rs ss) writes → stands_inside rs ≡ false → writes ≡ []
  nothing_first [] writes same out = sym same
  nothing_first (r ∷ rs) writes run out = absurd (false≢true (sym out))

  -- where a statement is left that ends no block
  are_rows : IsDatabase db → IsText ss → (s : Statement) (later : List Statement) → ends_block s ≡ false → (bound : Bound) → Holds locks owner (footprint_of bound)
      → (rs : List Reply) → drop (length rs) ss ≡ s ∷ later → (p : Pending) → HasRun locks owner db (answered_by false rs ss) p → AreRows rs p
  are_rows is text s later goes_on bound held rs left (Rows writes) run = record {
    writes = writes;
    is_rows = refl;
    first = nothing_first rs writes run;
  }
  are_rows is text s later goes_on bound held rs left (NewTable table) run = absurd (nothing_left locks owner db is ss text s later goes_on bound held (NewTable table) rs left run)
  are_rows is text s later goes_on bound held rs left (NewIndex index) run = absurd (nothing_left locks owner db is ss text s later goes_on bound held (NewIndex index) rs left run)
  are_rows is text s later goes_on bound held rs left (Flip plan) run = absurd (nothing_left locks owner db is ss text s later goes_on bound held (Flip plan) rs left run)
  are_rows is text s later goes_on bound held rs left Nothing run = absurd (nothing_left locks owner db is ss text s later goes_on bound held Nothing rs left run)

-- what holds anyhow holds on an error
pub on_err : {A E : Type 0} (r : Result A E) (P : Type 0) → P → OnErr r P
on_err (Ok a) P p = tt
on_err (Err e) P p = p

-- where the catalog has the number that it had when a statement was prepared, the statement is prepared so now
executes_as_bound : (start : Database) (m : Machine) → IsKept start m → (s : ℕ) (bound : Bound) → IsToExec m s start bound → bound.catalog ≡ m.db.number
    → HaveMoved m.lazy.last (λ last. needed_for last.old last.migrate bound.action)
    → (next : Machine) × (by : Executes m s next) × (by.bound ≡ bound)
executes_as_bound start m kept s bound there number moved =
    let by : Executes m s (with_open m s (Some (stepped m s there.o there.statement bound))) = record {
      current = there.current;
      o = there.o;
      is = there.is;
      statement = there.statement;
      later = there.later;
      left = there.left;
      goes_on = there.goes_on;
      bound = bound;
      bound_so = prepared_still start m kept there.prefix (stands_inside there.o.replies) there.statement bound there.bound_so number;
      held = there.held;
      moved = moved;
      goes = refl;
    } in
    (with_open m s (Some (stepped m s there.o there.statement bound)), by, refl)

some_there : (ss : List Statement) → list_any ends_block ss ≡ true → 1 ≤ length ss
some_there [] any = absurd (false≢true any)
some_there (s ∷ ss) any = omega arith

module _ {opening : Database} {registry : Registry} {given : Script} (logged : Bool) (script : Script) (retries : ℕ) (store : Store) (locks : Locks) (began : List BeganGroup) (sessions : List SessionSoFar) (history : Vec Entry) (commits : ℕ) (transcripts : Vec (List Reply))
    (sound : IsSound opening registry given logged script retries store locks began sessions history commits transcripts)
    (s : ℕ) (low : 1 ≤ s) (high : s ≤ length sessions) (x : SessionSoFar) (at : slice_index_or sessions (s - 1) x ≡ x) where
  abbrev m : Machine
  m = seen logged script retries store locks began sessions history.items

  abbrev db : Database
  db = view_of store.lazy

  -- the need of an action has moved
  abbrev NeedHasMoved : Action → Type 0
  NeedHasMoved act = HaveMoved store.lazy.last (λ last. needed_for last.old last.migrate act)

  abbrev then : SessionSoFar → Machine
  then y = seen logged script retries store locks began (slice_set sessions (s - 1) y) history.items

  -- IN AN OPEN GROUP
  module _ (g : OpenGroup) (is : x.«open» ≡ Some g) where
    abbrev o : Open
    o = group_seen x.replies.items g

    group_there : open_at m s ≡ Some o
    group_there = there logged script retries store locks began sessions history commits transcripts sound s low high x at g is

    own : IsOpenGroup opening m s o
    own = sound.kept.open_groups_replay.each s o group_there

    -- the replies before the group's are there
    before : g.first - 1 ≤ length x.replies.items
    before =
        let all = all_told logged script retries store locks began sessions history commits transcripts sound s low high x at g is in
        let sizes : length (told_at m s) + length o.replies ≡ length x.replies.items = sym (length-append (told_at m s) o.replies) ∙ ap (λ (rs : List Reply). length rs) all in
        omega (arith, sizes, own.next)

    -- nothing is refused there
    pub not_refused : (next : Machine) → Refuses m s next → ⊥
    not_refused next by =
        let clash : None ≡ Some o = sym by.closed ∙ group_there in
        cc

    executes_there : (bound : Bound) → bound.catalog ≡ db.number → NeedHasMoved bound.action → CanExec m s opening bound → (next : Machine) × (by : Executes m s next) × (by.bound ≡ bound)
    executes_there bound number moved can = elim can as (λ _. (next : Machine) × (by : Executes m s next) × (by.bound ≡ bound)) [
      | inl there ↦ executes_as_bound opening m sound.kept s bound there number moved
      | inr refused ↦ absurd (not_refused refused.0 refused.1)
    ]

    -- what is pending is seen as before
    module _ (p : PendingChange) (alike : pending_seen p ≡ pending_seen g.pending) (y : SessionSoFar) (opened : y.«open» ≡ Some (record g { pending = p })) (replies : y.replies.items ≡ x.replies.items)
        (latest : y.latest ≡ x.latest) (capacity : vec_capacity x.replies ≤ vec_capacity y.replies) where
      open_alike : open_seen y ≡ open_seen x
      open_alike =
          ap (option_map (group_seen y.replies.items)) opened
          ∙ (ap₂ (λ (rs : List Reply) (q : Pending). Some (record o { replies = drop (g.first - 1) rs; pending = q })) replies alike
          ∙ sym (ap (option_map (group_seen x.replies.items)) is))

      told_alike : told_seen y ≡ told_seen x
      told_alike = ap (told_before y.replies.items) opened ∙ (ap (take (g.first - 1)) replies ∙ sym (ap (told_before x.replies.items) is))

    module _ (next : Machine) (by : Executes m s next) where
      same_group : by.o ≡ o
      same_group = same_Some by.o o (sym by.is ∙ group_there)

      abbrev inside : Bool
      inside = stands_inside o.replies

      left : rest_of m s o ≡ by.statement ∷ by.later
      left = subst (λ (p : Open). rest_of m s p ≡ by.statement ∷ by.later) same_group by.left

      bound_so : prepared_of db inside by.statement ≡ Some by.bound
      bound_so = subst (λ (p : Open). prepared_of db (stands_inside p.replies) by.statement ≡ Some by.bound) same_group by.bound_so

      held : Holds locks g.start (footprint_of by.bound)
      held = subst (λ (p : Open). Holds locks p.start (footprint_of by.bound)) same_group by.held

      rows : AreRows o.replies o.pending
      rows =
          are_rows locks g.start db (text_of m s o) sound.kept.history_legal.database ((are_texts script).shape s o.group own.whole) by.statement by.later by.goes_on by.bound held
          o.replies left o.pending own.run

      next_is : IsNext db rows.writes by.bound inside by.statement
      next_is = record { is = bound_so; goes_on = by.goes_on; first = rows.first }

      pub can_answer : CanAnswer store.lazy (pending_seen g.pending) by.bound
      can_answer = record {
        lazy_state = sound.kept.store_valid.seen_as.lazy_state;
        writes = rows.writes;
        is_rows = rows.is_rows;
        opened = subst (CanBePutInto store.lazy) rows.is_rows (sound.kept.store_valid.puts s o group_there);
        in_block = inside;
        statement = by.statement;
        next = next_is;
        moved = by.moved;
        narrow = (narrow_next (text_of m s o) (narrow_in script sound.kept.within s o.group) (length o.replies) by.statement by.later left).migrates;
      }

      pub has_room : length x.replies.items < vec_capacity x.replies
      has_room =
          let size = left_size logged script retries store locks began sessions history commits transcripts sound s low high x at g is in
          let some : length (rest_of m s o) ≡ suc (length by.later) = ap (λ (ss : List Statement). length ss) left in
          room_for_reply logged script retries store locks began sessions history commits transcripts sound s low high x at g is (omega (arith, size, some))

      -- it is answered
      module _ (p : PendingChange) (r : Reply) (answered : IsAnswer db (pending_seen g.pending) by.bound inside by.statement r (pending_seen p))
          (y : SessionSoFar) (opened : y.«open» ≡ Some (record g { pending = p })) (replies : y.replies.items ≡ x.replies.items ++ r ∷ [])
          (latest : y.latest ≡ x.latest) (capacity : vec_capacity x.replies ≤ vec_capacity y.replies) where
        means : (r ≡ reply_on db o.pending inside by.statement) × (pending_seen p ≡ pending_behind db o.pending inside by.statement by.bound.action)
        means = answered rows.writes rows.is_rows next_is

        open_stepped : open_seen y ≡ Some (stepped m s o by.statement by.bound)
        open_stepped =
            ap (option_map (group_seen y.replies.items)) opened
            ∙ (ap (λ (rs : List Reply). Some (group_seen rs (record g { pending = p }))) replies
            ∙ ap₂ (λ (rs : List Reply) (q : Pending). Some (record o { replies = rs; pending = q }))
            (drop-append-le (g.first - 1) x.replies.items (r ∷ []) before ∙ ap (λ (r : Reply). o.replies ++ r ∷ []) means.0) means.1)

        told_before_is : told_seen y ≡ told_seen x
        told_before_is =
            ap (told_before y.replies.items) opened
            ∙ (ap (take (g.first - 1)) replies
            ∙ (take-append-le (g.first - 1) x.replies.items (r ∷ []) before ∙ sym (ap (told_before x.replies.items) is)))

        pub executes : Executes m s (then y)
        executes = record {
          current = by.current;
          o = o;
          is = group_there;
          statement = by.statement;
          later = by.later;
          left = left;
          goes_on = by.goes_on;
          bound = by.bound;
          bound_so = bound_so;
          held = held;
          moved = by.moved;
          goes = seen_with_open logged script retries store locks began sessions history.items s x at y told_before_is (Some (stepped m s o by.statement by.bound)) open_stepped;
        }

        pub executed_sound : IsSound opening registry given logged script retries store locks began (slice_set sessions (s - 1) y) history commits transcripts
        executed_sound =
            exchanged_sound logged script retries store locks began sessions history commits transcripts sound s low high x at y (ap is_some opened ∙ sym (ap is_some is)) latest capacity
            (exec_keeps_all opening m sound.kept s (are_texts script) (then y) executes)

  -- IN NO GROUP
  module _ (is : x.«open» ≡ None) where
    none_there : open_at m s ≡ None
    none_there = open_there logged script retries store locks began sessions history.items x s low high at ∙ ap (option_map (group_seen x.replies.items)) is

    all_before : told_at m s ≡ x.replies.items
    all_before = told_there logged script retries store locks began sessions history.items x s low high at ∙ ap (told_before x.replies.items) is

    -- nothing is executed there
    refuses_there : (bound : Bound) → CanExec m s opening bound → (next : Machine) × Refuses m s next
    refuses_there bound can = elim can as (λ _. (next : Machine) × Refuses m s next) [
      | inl there ↦
          let clash : None ≡ Some there.o = sym none_there ∙ there.is in
          absurd cc
      | inr refused ↦ refused
    ]

    module _ (next : Machine) (by : Refuses m s next) where
      pub has_room_to_refuse : length x.replies.items < vec_capacity x.replies
      has_room_to_refuse =
          let n = length (told_at m s) + 1 in
          let parts = and_parts (list_any ends_block (statements_in script s (n, n))) (not (list_any (has_statement n) (groups_in script s))) by.stray in
          let some = some_there (statements_in script s (n, n)) parts.0 in
          let here : s - 1 + 1 ≡ s = omega (arith, low) in
          let room = (sound.roomy (s - 1) x (omega (arith, low, high)) at).room in
          let fits : length (session_at script s).statements ≤ vec_capacity x.replies = rw here at room in
          let size : length (told_at m s) ≡ length x.replies.items = ap (λ (rs : List Reply). length rs) all_before in
          omega (arith, some, length-part n n (session_at script s).statements, fits, size)

      module _ (y : SessionSoFar) (closed : y.«open» ≡ None) (replies : y.replies.items ≡ x.replies.items ++ reply.Refused NoTransaction ∷ [])
          (latest : y.latest ≡ x.latest) (capacity : vec_capacity x.replies ≤ vec_capacity y.replies) where
        open_as_before : open_seen y ≡ open_seen x
        open_as_before = ap (option_map (group_seen y.replies.items)) closed ∙ sym (ap (option_map (group_seen x.replies.items)) is)

        told_more_is : told_seen y ≡ told_at m s ++ reply.Refused NoTransaction ∷ []
        told_more_is = ap (told_before y.replies.items) closed ∙ (replies ∙ ap (λ (rs : List Reply). rs ++ reply.Refused NoTransaction ∷ []) (sym all_before))

        pub refuses : Refuses m s (then y)
        refuses = record {
          place = by.place;
          current = by.current;
          closed = by.closed;
          stray = by.stray;
          goes = seen_with_told logged script retries store locks began sessions history.items s x at y open_as_before (told_at m s ++ reply.Refused NoTransaction ∷ []) told_more_is;
        }

        pub refused_sound : IsSound opening registry given logged script retries store locks began (slice_set sessions (s - 1) y) history commits transcripts
        refused_sound =
            exchanged_sound logged script retries store locks began sessions history commits transcripts sound s low high x at y (ap is_some closed ∙ sym (ap is_some is)) latest capacity
            (refuse_keeps_all opening m sound.kept (are_texts script) s (then y) refuses)

  -- IN EITHER: what the session's open group is behind the reply, or behind none
  by_open : (P : Type 0) → (x.«open» ≡ None → P) → ((g : OpenGroup) → x.«open» ≡ Some g → P) → P
  by_open P none some = on x.«open» refl
    where
      on : (o : Option OpenGroup) → x.«open» ≡ o → P
      on None is = none is
      on (Some g) is = some g is

  abbrev session_of : Vec Reply → Option OpenGroup → SessionSoFar
  session_of replies after = record { replies = replies; «open» = after; latest = x.latest }

  module _ (bound : Bound) (can : CanExec m s opening bound) (number : bound.catalog ≡ db.number) (moved : NeedHasMoved bound.action) where
    pub may_reply : IfSome x.«open» (λ g. CanAnswer store.lazy (pending_seen g.pending) bound)
    may_reply =
        let P : Option OpenGroup → Type 0 = λ (o : Option OpenGroup). IfSome o (λ g. CanAnswer store.lazy (pending_seen g.pending) bound) in
        by_open (P x.«open») (λ is. subst P (sym is) tt) (λ g is.
        let there = executes_there g is bound number moved can in
        let answers : CanAnswer store.lazy (pending_seen g.pending) bound = subst (CanAnswer store.lazy (pending_seen g.pending)) there.2 (can_answer g is there.0 there.1) in
        subst P (sym is) answers)

    pub room_for_next : length x.replies.items < vec_capacity x.replies
    room_for_next =
        by_open (length x.replies.items < vec_capacity x.replies) (λ is. let there = refuses_there is bound can in has_room_to_refuse is there.0 there.1)
        (λ g is. let there = executes_there g is bound number moved can in has_room g is there.0 there.1)

    -- there is a reply
    module _ (r : Reply) (after : Option OpenGroup) (refused : x.«open» ≡ None → (after ≡ None) × (r ≡ reply.Refused NoTransaction))
        (answered : (g : OpenGroup) → x.«open» ≡ Some g → (p : PendingChange) × (after ≡ Some (record g { pending = p }))
        × ((in_block : Bool) (statement : Statement) → IsAnswer db (pending_seen g.pending) bound in_block statement r (pending_seen p)))
        (replies : Vec Reply) (items : replies.items ≡ x.replies.items ++ r ∷ []) (capacity : vec_capacity x.replies ≤ vec_capacity replies) where
      abbrev y : SessionSoFar
      y = session_of replies after

      more_is : r ≡ reply.Refused NoTransaction → replies.items ≡ x.replies.items ++ reply.Refused NoTransaction ∷ []
      more_is same = items ∙ ap (λ (r : Reply). x.replies.items ++ r ∷ []) same

      pub replied : HasReplied m s bound (then y)
      unfolding executes executes_there
      replied =
          by_open (HasReplied m s bound (then y))
          (λ is.
          let there = refuses_there is bound can in
          let so = refused is in
          inr (refuses is there.0 there.1 y so.0 (more_is so.1) refl capacity))
          (λ g is.
          let there = executes_there g is bound number moved can in
          let so = answered g is in
          let by = there.1 in
          let block = stands_inside (drop (g.first - 1) x.replies.items) in
          let means : IsAnswer db (pending_seen g.pending) by.bound block by.statement r (pending_seen so.0) =
          subst (λ (b : Bound). IsAnswer db (pending_seen g.pending) b block by.statement r (pending_seen so.0)) (sym there.2) (so.2 block by.statement) in
          inl (executes g is there.0 by so.0 r means y so.1 items refl capacity, there.2))

      pub replied_sound : IsSound opening registry given logged script retries store locks began (slice_set sessions (s - 1) y) history commits transcripts
      replied_sound =
          by_open (IsSound opening registry given logged script retries store locks began (slice_set sessions (s - 1) y) history commits transcripts)
          (λ is.
          let there = refuses_there is bound can in
          let so = refused is in
          refused_sound is there.0 there.1 y so.0 (more_is so.1) refl capacity)
          (λ g is.
          let there = executes_there g is bound number moved can in
          let so = answered g is in
          let by = there.1 in
          let block = stands_inside (drop (g.first - 1) x.replies.items) in
          let means : IsAnswer db (pending_seen g.pending) by.bound block by.statement r (pending_seen so.0) =
          subst (λ (b : Bound). IsAnswer db (pending_seen g.pending) b block by.statement r (pending_seen so.0)) (sym there.2) (so.2 block by.statement) in
          executed_sound g is there.0 by so.0 r means y so.1 items refl capacity)

  -- or there is none, and what is pending is seen as before
  module _ (after : Option OpenGroup) (none : x.«open» ≡ None → after ≡ None)
      (some : (g : OpenGroup) → x.«open» ≡ Some g → (p : PendingChange) × (after ≡ Some (record g { pending = p })) × (pending_seen p ≡ pending_seen g.pending)) where
    abbrev z : SessionSoFar
    z = session_of x.replies after

    open_still : open_seen z ≡ open_seen x
    open_still =
        by_open (open_seen z ≡ open_seen x) (λ is. ap (option_map (group_seen x.replies.items)) (none is ∙ sym is))
        (λ g is. let so = some g is in open_alike g is so.0 so.2 z so.1 refl refl (omega arith))

    told_still : told_seen z ≡ told_seen x
    told_still =
        by_open (told_seen z ≡ told_seen x) (λ is. ap (told_before x.replies.items) (none is ∙ sym is))
        (λ g is. let so = some g is in told_alike g is so.0 so.2 z so.1 refl refl (omega arith))

    as_open : is_some after ≡ is_some x.«open»
    as_open = by_open (is_some after ≡ is_some x.«open») (λ is. ap is_some (none is ∙ sym is)) (λ g is. let so = some g is in ap is_some so.1 ∙ sym (ap is_some is))

    pub seen_unanswered : then z ≡ m
    seen_unanswered = seen_same logged script retries store locks began sessions history.items s x at z open_still told_still

    pub unanswered_sound : IsSound opening registry given logged script retries store locks began (slice_set sessions (s - 1) z) history commits transcripts
    unanswered_sound =
        exchanged_sound logged script retries store locks began sessions history commits transcripts sound s low high x at z as_open refl (omega arith)
        (subst (IsKept opening) (sym seen_unanswered) sound.kept)
