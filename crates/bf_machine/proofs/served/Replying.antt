-- A statement whose locks are held has its reply, once what it needs has moved.
use Rattle.std.proofs.Common.{◌≡◌, ◌⊎◌, ℕ, ◌+◌, Bool, List, [], ◌∷◌, ◌++◌, true, false, length, take, Option, Some, None, refl, sym, ap, ap₂, subst, ◌∙◌, arith, inl, inr, append-nil}
use Rattle.std.specs.Prelude.{is_some}
use Rattle.std.specs.Option.{option_map, option_map_or}
use Rattle.std.proofs.Math.Seq.{take-length}
use Rattle.std.proofs.lemmas.Bool.{false≢true}
use Rattle.std.proofs.lemmas.Option.{same_Some}
use Rattle.bf_locks.specs.Locks.{Locks}
use Rattle.bf_tree.specs.declared.bound.Bound.{Bound}
use Rattle.bf_tree.specs.declared.history.Entry.{Entry}
use Rattle.bf_tree.specs.declared.reply.Cause.{Cause}
use Rattle.bf_tree.specs.declared.script.Script.{Script}
use Rattle.bf_tree.specs.declared.statement.Statement.{Statement}
use Rattle.bf_sql.specs.migrations.Lazy.{LazyState, Migration}
use Rattle.bf_sql.specs.migrations.Plans.{prepared_of}
use Rattle.bf_sql.specs.Database.{Database}
use Rattle.bf_sql.specs.Footprints.{footprint_of}
use Rattle.bf_sql.specs.Groups.{ends_block, statements_of}
use Rattle.bf_sql.specs.History.{replayed}
use Rattle.bf_sql.specs.Objections.{objections}
use Rattle.bf_sql.specs.RowObjections.{row_objections}
use Rattle.bf_live.specs.Live.{committed}
use Rattle.bf_live.specs.OpenGroups.{Holds}
use Rattle.bf_store.specs.States.{need_of}
use Rattle.bf_machine.specs.Movement.{Moving, begun_unless, moving_behind, moving_seen, with_need}
use Rattle.bf_machine.specs.declared.stand.Turn.{Turn}
use Rattle.bf_machine.specs.declared.stand.Turn.TheVariants as turn
use Rattle.bf_machine.specs.interleaving.Calls.{CanExec, CanFail, CanRefuse, HasReplied, IsToExec}
use Rattle.bf_machine.specs.interleaving.Events.{EndsByLog, Executes, Reaches, Refuses, at_once, one_more, put_into, refuses, rest_of, stands_inside, stepped, text_of}
use Rattle.bf_machine.specs.interleaving.Groups.{Pending, Rows, left_by, pending_behind}
use Rattle.bf_machine.specs.interleaving.Kept.{IsKept, IsOpenGroup}
use Rattle.bf_machine.specs.interleaving.Machines.{Machine, Open, open_at}
use Rattle.bf_machine.specs.interleaving.Serving.{EndsIfAnswered, GoesOnWith, HasEndedAlone, HasFailed, HasGoneOn, HasLocked, HasMovedNeed, HasMovedSome, HasReply}
use Rattle.bf_machine.specs.interleaving.Serving.{IsBoundNext, IsEndIfAnswered, IsPreparedNext, IsRecorded, IsTurn, Serves, answered_text, is_in_block, left_of_need, sees, unanswered}
use Rattle.bf_machine.proofs.interleaving.Others.{has_place}
use Rattle.bf_machine.proofs.interleaving.Places.{set_same}
use Rattle.bf_machine.proofs.interleaving.Reaching.{reached_keeps_all}
use Rattle.bf_machine.proofs.interleaving.Texts.{are_texts}
use Rattle.bf_machine.proofs.keeping.Numbers.{prepared_number}
use Rattle.bf_machine.proofs.served.Behind.{AreRows, are_rows, behind_reply, end_begins_none, end_needs, end_needs_none, first_same, prepared_seen}
use Rattle.bf_machine.proofs.served.Events.{serves_both}
use Rattle.bf_machine.proofs.served.Goes.{closed_more, closed_reply, exec_goes_on, exec_records, exec_reply, reaches_both, refuse_goes_on, refuse_records}
use Rattle.bf_machine.proofs.served.Failing.{failed_behind, failed_less, failed_no_more}
use Rattle.bf_machine.proofs.served.Moved.{HaveMovedBesides, need_moved, needed_is}
use Rattle.bf_machine.proofs.served.Needs.{HasCome, has_come, moved_reaches, need_has_come}
use Rattle.bf_machine.proofs.served.Nexts.{next_of, refused_ends}

module _ (m : Machine) (s : ℕ) (o : Open) (bound : Bound) (next : IsBoundNext m s o bound) (locks : Locks) (held : Holds locks o.start (footprint_of bound)) where
  abbrev under : Machine
  under = record m { locks = locks }

  -- it is bound in the catalog behind the whole history
  to_exec : (start : Database) → IsKept start m → IsToExec under s start bound
  to_exec start kept =
      let present : m.db ≡ (replayed m.script start (take (length m.history) m.history)).1 =
      kept.history_legal.replay ∙ ap (λ (es : List Entry). (replayed m.script start es).1) (sym (take-length m.history)) in
      record {
        current = next.to_lock.current;
        o = o;
        is = next.to_lock.is;
        statement = next.to_lock.statement;
        later = next.to_lock.later;
        left = next.to_lock.left;
        goes_on = next.goes_on;
        prefix = length m.history;
        bound_so = subst (λ (db : Database). prepared_of db (stands_inside o.replies) next.to_lock.statement ≡ Some bound) present next.bound_so;
        held = held;
      }

  -- what it needs has moved
  module _ (lazy : LazyState) (come : HasCome m bound lazy) where
    abbrev moved : Machine
    moved = record m { locks = locks; lazy = lazy }

    serves_moved : Serves m s moved
    serves_moved = record { script = refl; beside = λ t apart. (refl, refl); deaths = λ n. refl; entries = ([], tt, sym (append-nil m.history)) }

    -- and it has its reply: no other one, as it stands in the open group
    module _ {start : Database} (kept : IsKept start moved) (then : Machine) (by : Executes moved s then) (same_bound : by.bound ≡ bound) where
      same_open : by.o ≡ o
      same_open = same_Some by.o o (sym by.is ∙ next.to_lock.is)

      same_statement : by.statement ≡ next.to_lock.statement
      same_statement = first_same by.statement next.to_lock.statement by.later next.to_lock.later (sym by.left ∙ (ap (λ (p : Open). rest_of m s p) same_open ∙ next.to_lock.left))

      own : IsOpenGroup start moved s by.o
      own = kept.open_groups_replay.each s by.o by.is

      rows : AreRows by.o.replies by.o.pending
      rows = are_rows locks by.o.start m.db (text_of moved s by.o) kept.history_legal.database ((are_texts m.script).shape s by.o.group own.whole) by.statement by.later by.goes_on by.bound by.held by.o.replies by.left by.o.pending own.run

      abbrev inside : Bool
      inside = stands_inside by.o.replies

      came : with_need (moving_seen m.lazy.last) (committed m.db rows.writes) inside by.statement ≡ moving_seen lazy.last
      came =
          let seen = prepared_seen m.db rows.writes inside by.statement by.bound by.bound_so in
          need_moved (committed m.db rows.writes) inside by.statement by.bound seen m.lazy.last lazy.last
          (subst (λ (b : Bound). HaveMovedBesides m.lazy.last (need_of m.lazy.last b.action) lazy.last) (sym same_bound) come)

      abbrev q : Open
      q = stepped moved s by.o by.statement by.bound

      open_then : open_at then s ≡ Some q
      open_then =
          let place = has_place moved s by.o by.is in
          ap (λ (k : Machine). open_at k s) by.goes ∙ set_same None None m.opens s (Some q) place.0 place.1

      -- of the last migration exactly what it needs has moved, once its group has ended where it is to
      settled : moving_seen (put_into then.lazy q.pending).last ≡ moving_behind (moving_seen m.lazy.last) (sees m s) (is_in_block m s) next.to_lock.statement
      settled =
          let stored : then.lazy ≡ lazy = ap (λ (k : Machine). k.lazy) by.goes in
          let left : q.pending ≡ pending_behind m.db (Rows rows.writes) inside by.statement by.bound.action = ap (λ (p : Pending). pending_behind m.db p inside by.statement by.bound.action) rows.is_rows in
          let step = behind_reply m.db lazy kept.store_valid.seen_as.view rows.writes inside rows.first by.statement by.bound by.bound_so by.moved in
          let whole : moving_seen (put_into lazy (pending_behind m.db (Rows rows.writes) inside by.statement by.bound.action)).last ≡ moving_behind (moving_seen m.lazy.last) (committed m.db rows.writes) inside by.statement =
          step ∙ ap (λ (last : Option Moving). begun_unless (objections (committed m.db rows.writes) inside by.statement ++ row_objections (committed m.db rows.writes) by.statement) last (committed m.db rows.writes) by.statement) (sym came) in
          let found : sees m s ≡ committed m.db rows.writes = ap (λ (f : Option Open). option_map_or (λ (p : Open). left_by m.db p.pending) f m.db) by.is ∙ ap (left_by m.db) rows.is_rows in
          let block : is_in_block m s ≡ inside = ap (λ (f : Option Open). option_map_or (λ (p : Open). stands_inside p.replies) f false) by.is in
          ap₂ (λ (l : LazyState) (p : Pending). moving_seen (put_into l p).last) stored left
          ∙ whole
          ∙ ap (λ (st : Statement). moving_behind (moving_seen m.lazy.last) (committed m.db rows.writes) inside st) same_statement
          ∙ sym (ap₂ (λ (d : Database) (b : Bool). moving_behind (moving_seen m.lazy.last) d b next.to_lock.statement) found block)

      -- and it comes to the answered ones
      its_text : GoesOnWith m s (next.to_lock.statement ∷ []) then
      its_text =
          let goes = exec_records moved s then by in record {
            o = goes.o;
            is = goes.is;
            text = goes.text ∙ ap (λ (st : Statement). answered_text m s ++ st ∷ []) same_statement;
            history = goes.history;
          }

-- A REPLY behind locks and moves
pub record HasStepped (start : Database) (m : Machine) (s : ℕ) (statement : Statement) (then : Machine) : Type 0 where
  pub serves : Serves m s then
  pub one_more : unanswered m s ≡ unanswered then s + 1
  pub has_reply : HasReply then s
  pub o : Open
  pub is : open_at then s ≡ Some o
  pub moved : moving_seen (put_into then.lazy o.pending).last ≡ moving_behind (moving_seen m.lazy.last) (sees m s) (is_in_block m s) statement
  pub goes_on : GoesOnWith m s (statement ∷ []) then

module _ {start : Database} (m : Machine) (kept : IsKept start m) (s : ℕ) (o : Open) (bound : Bound) (next : IsBoundNext m s o bound) (now : Machine) (locked : HasLocked m s (footprint_of bound) now) where
  own_locks : Holds locked.2 o.start (footprint_of bound)
  own_locks = subst (λ (p : Open). Holds locked.2 p.start (footprint_of bound)) (same_Some locked.0 o (sym locked.1 ∙ next.to_lock.is)) locked.4

  pub can_reply : CanExec now s start bound
  can_reply = subst (λ (k : Machine). CanExec k s start bound) (sym locked.3) (inl (to_exec m s o bound next locked.2 own_locks start kept))

  -- the catalog has not changed since
  pub is_present : bound.catalog ≡ now.db.number
  is_present = prepared_number m.db (stands_inside o.replies) next.to_lock.statement bound next.bound_so ∙ ap (λ (k : Machine). k.db.number) (sym locked.3)

  -- where its need is not kept, its group can end
  module _ (moved : Machine) (some : HasMovedSome now bound moved) where
    come_to : (lazy : LazyState) × (moved ≡ record m { locks = locked.2; lazy = lazy })
    come_to =
        let come = has_come now some.front moved some.moves in
        (come.0, come.1 ∙ ap (λ (k : Machine). record k { lazy = come.0 }) locked.3)

    pub can_fail : CanFail moved s
    can_fail = subst (λ (k : Machine). CanFail k s) (sym come_to.1) (record { current = next.to_lock.current; o = o; is = next.to_lock.is })

    pub fails : Reaches start m now → (last : Machine) (by : EndsByLog moved s last) (cause : Cause) → by.cause ≡ cause → HasFailed m s start cause last
    fails reached last by cause is =
        let then = reaches_both start m now moved reached (moved_reaches start now some.front moved some.moves) in
        let kept_then : IsKept start moved = reached_keeps_all start m moved kept then in
        let serves : Serves m s moved = subst (Serves m s) (sym come_to.1) (record { script = refl; beside = λ t apart. (refl, refl); deaths = λ n. refl; entries = ([], tt, sym (append-nil m.history)) }) in
        let here : open_at moved s ≡ Some o = ap (λ (k : Machine). open_at k s) come_to.1 ∙ next.to_lock.is in
        let group : by.o ≡ o = same_Some by.o o (sym by.is ∙ here) in
        let left : rest_of moved s by.o ≡ next.to_lock.statement ∷ next.to_lock.later = ap₂ (λ (k : Machine) (p : Open). rest_of k s p) come_to.1 group ∙ next.to_lock.left in
        let less = failed_less moved s last by kept_then next.to_lock.statement next.to_lock.later left in
        let same : unanswered moved s ≡ unanswered m s = ap (λ (k : Machine). unanswered k s) come_to.1 in
        failed_behind moved s last by kept_then m serves then (omega (arith, less, same)) cause is

  pub has_stepped : Reaches start m now → (moved : Machine) → HasMovedNeed now bound moved → (then : Machine) → HasReplied moved s bound then → HasStepped start m s next.to_lock.statement then
  has_stepped reached moved need then by =
      let under : Machine = record m { locks = locked.2 } in
      let come = need_has_come under bound moved (subst (λ (k : Machine). HasMovedNeed k bound moved) locked.3 need) in
      let whole : Machine = record m { locks = locked.2; lazy = come.0 } in
      let kept_moved : IsKept start whole = subst (IsKept start) come.1 (reached_keeps_all start now moved (reached_keeps_all start m now kept reached) (moved_reaches start now (left_of_need now bound) moved need)) in
      by_reply come.0 come.2 kept_moved (subst (λ (k : Machine). HasReplied k s bound then) come.1 by)
    where
      by_reply : (lazy : LazyState) → HasCome m bound lazy → IsKept start (record m { locks = locked.2; lazy = lazy }) → HasReplied (record m { locks = locked.2; lazy = lazy }) s bound then
          → HasStepped start m s next.to_lock.statement then
      by_reply lazy come kept_moved by = elim by as (λ _. HasStepped start m s next.to_lock.statement then) [
        | inl executed ↦
            let whole : Machine = record m { locks = locked.2; lazy = lazy } in
            let goes = exec_goes_on whole kept_moved s then executed.0 in record {
              serves = serves_both m s whole then (serves_moved m s o bound next locked.2 own_locks lazy come) goes.0;
              one_more = goes.1;
              has_reply = exec_reply whole s then executed.0;
              o = q m s o bound next locked.2 own_locks lazy come kept_moved then executed.0 executed.1;
              is = open_then m s o bound next locked.2 own_locks lazy come kept_moved then executed.0 executed.1;
              moved = settled m s o bound next locked.2 own_locks lazy come kept_moved then executed.0 executed.1;
              goes_on = its_text m s o bound next locked.2 own_locks lazy come kept_moved then executed.0 executed.1;
            }
        | inr refused ↦
            let clash : None ≡ Some o = sym refused.closed ∙ next.to_lock.is in
            absurd cc
      ]

-- the group goes on so, or has ended since
recorded_then : (m : Machine) (s : ℕ) (statement : Statement) (then : Machine) → then.script ≡ m.script → GoesOnWith m s (statement ∷ []) then → (last : Machine) → (last ≡ then) ⊎ HasEndedAlone then s last
    → IsRecorded m s (statement ∷ []) last
recorded_then m s statement then script goes last ended = elim ended as (λ _. IsRecorded m s (statement ∷ []) last) [
  | inl same ↦ inl (subst (GoesOnWith m s (statement ∷ [])) (sym same) goes)
  | inr alone ↦ inr (inl (record {
    closed = alone.closed;
    entry = alone.recorded.entry;
    text = ap (λ (t : Script). statements_of t alone.recorded.entry) (sym script) ∙ (alone.recorded.text ∙ (append-nil (answered_text then s) ∙ goes.text));
    history = alone.recorded.history ∙ ap (λ (es : List Entry). es ++ alone.recorded.entry ∷ []) goes.history;
  }))
]

-- and its group ends where that was the last: the turn is served
pub goes_on_to : {start : Database} (m : Machine) → IsKept start m → (s : ℕ) (o : Open) (bound : Bound) (next : IsBoundNext m s o bound) (then : Machine) → Reaches start m then → HasStepped start m s next.to_lock.statement then
    → (last : Machine) → Reaches start then last → EndsIfAnswered then s last → HasGoneOn m s start last
goes_on_to {start = start} m kept s o bound next then reached step last on ends = record {
  serves = serves_both m s then last step.serves ends.serves;
  reached = reaches_both start m then last reached on;
  more = ends.more;
  has_reply = ends.has_reply;
  goes = inl (record {
    one_more = omega (arith, step.one_more, ends.replies);
    statement = next.to_lock.statement;
    is = next_of m kept s o next.to_lock.is next.to_lock.statement next.to_lock.later next.to_lock.left;
    moved = ends.settled step.o step.is ∙ step.moved;
    recorded = recorded_then m s next.to_lock.statement then step.serves.script step.goes_on last ends.ended;
  });
}

-- or by a cause of the log: a turn ends either way
pub turn_to : {start : Database} (m : Machine) → IsKept start m → (s : ℕ) (o : Open) (bound : Bound) (next : IsBoundNext m s o bound) (then : Machine) → Reaches start m then → HasStepped start m s next.to_lock.statement then
    → (t : Turn) (last : Machine) → Reaches start then last → IsEndIfAnswered then s t last → IsTurn m s start t last
turn_to m kept s o bound next then reached step turn.Served last on ends = goes_on_to m kept s o bound next then reached step last on ends
turn_to {start = start} m kept s o bound next then reached step (turn.Ended cause) last on ends =
    let kept_then : IsKept start then = reached_keeps_all start m then kept reached in
    let no_more = failed_no_more then s last ends.0 kept_then in
    failed_behind then s last ends.0 kept_then m step.serves reached (omega (arith, step.one_more, no_more)) cause ends.1
turn_to m kept s o bound next then reached step turn.Passed last on ends = absurd ends
turn_to m kept s o bound next then reached step turn.Waited last on ends = absurd ends
turn_to m kept s o bound next then reached step turn.Died last on ends = absurd ends

-- a reply in no group is a refusal
module _ {start : Database} (m : Machine) (s : ℕ) (kept : IsKept start m) (closed : open_at m s ≡ None) (bound : Bound) (next : IsPreparedNext m s bound) where
  same_sees : sees m s ≡ m.db
  same_sees = ap (λ (f : Option Open). option_map_or (λ (p : Open). left_by m.db p.pending) f m.db) closed

  module _ (then : Machine) (by : Refuses m s then) where
    ends : ends_block next.statement ≡ true
    ends = refused_ends m kept s then by next.statement next.is

    -- which needs nothing
    pub needs_nothing : (last : Option Migration) → need_of last bound.action ≡ []
    needs_nothing None = refl
    needs_nothing (Some last) =
        sym (needed_is last m.db (is_in_block m s) next.statement bound next.prepared_so) ∙ end_needs last.old m.db last.migrate (is_in_block m s) next.statement ends

    told : moving_seen then.lazy.last ≡ moving_behind (moving_seen m.lazy.last) (sees m s) (is_in_block m s) next.statement
    told =
        ap (λ (k : Machine). moving_seen k.lazy.last) by.goes
        ∙ (sym (end_needs_none m.lazy.last m.db (is_in_block m s) next.statement ends)
        ∙ (sym (end_begins_none (with_need (moving_seen m.lazy.last) m.db (is_in_block m s) next.statement) m.db (is_in_block m s) next.statement ends)
        ∙ ap (λ (d : Database). moving_behind (moving_seen m.lazy.last) d (is_in_block m s) next.statement) (sym same_sees)))

    refused_goes_on : HasGoneOn m s start then
    refused_goes_on =
        let goes = refuse_goes_on m kept s then by in
        let none : open_at then s ≡ None = ap (λ (k : Machine). open_at k s) by.goes ∙ by.closed in record {
          serves = goes.0;
          reached = one_more at_once (refuses s by);
          more = closed_more then s none;
          has_reply = closed_reply then s none;
          goes = inl (record { one_more = goes.1; statement = next.statement; is = next.is; moved = told; recorded = inr (inr (refuse_records m kept s then by next.statement next.is)) });
        }

  refused_by : (then : Machine) → HasReplied m s bound then → Refuses m s then
  refused_by then by = elim by as (λ _. Refuses m s then) [
    | inl executed ↦
        let clash : None ≡ Some executed.0.o = sym closed ∙ executed.0.is in
        absurd cc
    | inr refused ↦ refused
  ]

  pub refused_now : (then : Machine) → HasReplied m s bound then → HasGoneOn m s start then
  refused_now then by = refused_goes_on then (refused_by then by)

pub none_started : (o : Option Open) → is_some (option_map (λ (o : Open). o.start) o) ≡ false → o ≡ None
none_started None none = refl
none_started (Some o) none = absurd cc

some_started : (o : Option Open) → is_some (option_map (λ (o : Open). o.start) o) ≡ true → o ≡ None → ⊥
some_started o some none = false≢true (sym (ap (λ (f : Option Open). is_some (option_map (λ (o : Open). o.start) f)) none) ∙ some)

-- in a group that is open the next statement is its own, and else it may be refused
module _ (m : Machine) (s : ℕ) (bound : Bound) where
  pub in_group : is_some (option_map (λ (o : Open). o.start) (open_at m s)) ≡ true → ((o : Open) × IsBoundNext m s o bound) ⊎ CanRefuse m s → (o : Open) × IsBoundNext m s o bound
  in_group some next = elim next as (λ _. (o : Open) × IsBoundNext m s o bound) [ inl its ↦ its | inr refused ↦ absurd (some_started (open_at m s) some refused.1.closed) ]

  pub can_refuse : open_at m s ≡ None → ((o : Open) × IsBoundNext m s o bound) ⊎ CanRefuse m s → CanRefuse m s
  can_refuse closed next = elim next as (λ _. CanRefuse m s) [
    | inl its ↦
        let clash : None ≡ Some its.0 = sym closed ∙ its.1.to_lock.is in
        absurd cc
    | inr refused ↦ refused
  ]
