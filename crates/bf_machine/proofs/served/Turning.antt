-- A turn is taken behind the begin of a group.
use Rattle.std.proofs.Common.{◌≡◌, ◌⊎◌, ℕ, ◌<◌, ◌≤◌, Bool, false, List, [], ◌∷◌, ◌++◌, length, drop, take, Option, Some, None, sym, ap, ap₂, subst, ◌∙◌, arith, inl, inr, length-append}
use Rattle.std.specs.Prelude.{slice_get}
use Rattle.std.specs.Option.{option_map_or}
use Rattle.std.proofs.lemmas.Option.{same_Some}
use Rattle.bf_locks.specs.declared.answer.LockAnswer.{LockAnswer}
use Rattle.bf_locks.specs.declared.answer.LockAnswer.TheVariants.{Die, Wait}
use Rattle.bf_tree.specs.declared.history.Entry.{Entry}
use Rattle.bf_tree.specs.declared.reply.Cause.{Cause}
use Rattle.bf_tree.specs.declared.reply.Reply.{Reply}
use Rattle.bf_tree.specs.declared.script.Script.{Script}
use Rattle.bf_tree.specs.declared.statement.Statement.{Statement}
use Rattle.bf_sql.specs.Database.{Database}
use Rattle.bf_sql.specs.Groups.{session_at, statements_of}
use Rattle.bf_sql.specs.migrations.Lazy.{LazyState}
use Rattle.bf_live.specs.OpenGroups.{Answered}
use Rattle.bf_live.proofs.statements.Seeing.{nothing_written}
use Rattle.bf_machine.specs.Movement.{moving_behind, moving_seen}
use Rattle.bf_machine.specs.declared.stand.Turn.{Turn}
use Rattle.bf_machine.specs.declared.stand.Turn.TheVariants as turn
use Rattle.bf_machine.specs.interleaving.Calls.{IsPlace, replies_at, statements_at}
use Rattle.bf_machine.specs.interleaving.Events.{Begins, begins, at_once, one_more, rest_of, stands_inside, text_of}
use Rattle.bf_machine.specs.interleaving.Groups.{Flip, HasRun, IsSchemaStep, NewIndex, NewTable, Nothing, Pending, Rows, answered_by, left_by}
use Rattle.bf_machine.specs.interleaving.Kept.{IsKept}
use Rattle.bf_machine.specs.interleaving.Machines.{Machine, Open, open_at, told_at, with_replies}
use Rattle.bf_machine.specs.interleaving.Serving.{HadAllReplies, HasAnswered, HasEndedAlone, HasFailed, HasGoneOn, IsAsked, IsRecorded, IsTurn, Serves, answered_text, is_in_block, sees, unanswered}
use Rattle.bf_machine.proofs.interleaving.Telling.{length-part}
use Rattle.bf_machine.proofs.interleaving.Texts.{are_texts}
use Rattle.bf_machine.proofs.served.Events.{begin_serves, serves_both}
use Rattle.bf_machine.proofs.served.Exclusive.{open_can}
use Rattle.bf_machine.proofs.served.Goes.{answered_of, begin_adds_none, begin_opens, reaches_both}

module _ {start : Database} (m : Machine) (s : ℕ) (place : IsPlace m.script s) (kept : IsKept start m) (now : Machine) (kept_now : IsKept start now) (by : Begins m s now) where
  within : (1 ≤ s) × (s ≤ length m.opens)
  within = (place.0, omega (arith, place.1, kept.shaped.opens))

  begins_serves : Serves m s now
  begins_serves = begin_serves m s now place.0 by

  same_left : unanswered now s ≡ unanswered m s
  same_left = begin_adds_none m kept s within now by

  opened_now : (o : Open) × (open_at now s ≡ Some o) × (o.replies ≡ [])
  opened_now = begin_opens m kept s within now by

  not_open : (p : Open) → open_at m s ≡ Some p → ⊥
  not_open p is = let clash : None ≡ Some p = sym by.closed ∙ is in cc

  -- the store is as it was, and nothing is pending
  same_lazy : now.lazy ≡ m.lazy
  same_lazy = elim by.goes as (λ _. now.lazy ≡ m.lazy) [ inl first ↦ ap (λ (k : Machine). k.lazy) first.1 | inr again ↦ ap (λ (k : Machine). k.lazy) again.3 ]

  same_db : now.db ≡ m.db
  same_db = elim by.goes as (λ _. now.db ≡ m.db) [ inl first ↦ ap (λ (k : Machine). k.db) first.1 | inr again ↦ ap (λ (k : Machine). k.db) again.3 ]

  opened_rows : opened_now.0.pending ≡ Rows []
  opened_rows =
      let own = kept_now.open_groups_replay.each s opened_now.0 opened_now.1 in
      by_run opened_now.0.pending (subst (λ (rs : List Reply). HasRun now.locks opened_now.0.start now.db (answered_by false rs (text_of now s opened_now.0)) opened_now.0.pending) opened_now.2 own.run)
    where
      none_told : (change : Pending) → IsSchemaStep now.locks opened_now.0.start now.db [] change → ⊥
      none_told change run = let sizes = ap (λ (more : List Answered). length more) run.alone in omega (arith, sizes)

      by_run : (p : Pending) → HasRun now.locks opened_now.0.start now.db [] p → p ≡ Rows []
      by_run (Rows writes) run = ap Rows (sym run)
      by_run (NewTable table) run = absurd (none_told (NewTable table) run)
      by_run (NewIndex index) run = absurd (none_told (NewIndex index) run)
      by_run (Flip plan) run = absurd (none_told (Flip plan) run)
      by_run Nothing run = absurd (none_told Nothing run)

  same_length : length (replies_at now s) ≡ length (replies_at m s)
  same_length =
      let told : told_at now s ≡ told_at m s = elim by.goes as (λ _. told_at now s ≡ told_at m s) [ inl first ↦ ap (λ (k : Machine). told_at k s) first.1 | inr again ↦ ap (λ (k : Machine). told_at k s) again.3 ] in
      let one = ap (λ (o : Option Open). length (with_replies (told_at now s) o)) opened_now.1 in
      let other = ap (λ (o : Option Open). length (with_replies (told_at m s) o)) by.closed in
      let none = ap (λ (rs : List Reply). length rs) opened_now.2 in
      let size = ap (λ (rs : List Reply). length rs) told in
      omega (arith, one, other, none, size, length-append (told_at now s) opened_now.0.replies)

  -- each of its statements is left
  some_left : (o : Open) → open_at now s ≡ Some o → rest_of now s o ≡ [] → ⊥
  some_left o is nothing =
      let same : o ≡ opened_now.0 = same_Some o opened_now.0 (sym is ∙ opened_now.1) in
      let none : o.replies ≡ [] = ap (λ (p : Open). p.replies) same ∙ opened_now.2 in
      let own = kept_now.open_groups_replay.each s o is in
      let bounds = (are_texts now.script).bounds s o.group own.whole in
      let empty : text_of now s o ≡ [] = subst (λ (rs : List Reply). drop (length rs) (text_of now s o) ≡ []) none nothing in
      let size : length (text_of now s o) ≡ 0 = ap (λ (ss : List Statement). length ss) empty in
      omega (arith, size, length-part o.group.0 o.group.1 (session_at now.script s).statements, bounds.0, bounds.1, bounds.2)

  -- it sees what there was, and no block is open
  same_sees : sees now s ≡ sees m s
  same_sees =
      let o = opened_now.0 in
      let none : o.pending ≡ Rows [] = opened_rows in
      ap (λ (f : Option Open). option_map_or (λ (p : Open). left_by now.db p.pending) f now.db) opened_now.1
      ∙ ap (left_by now.db) none ∙ nothing_written now.db ∙ same_db
      ∙ sym (ap (λ (f : Option Open). option_map_or (λ (p : Open). left_by m.db p.pending) f m.db) by.closed)

  same_block : is_in_block now s ≡ is_in_block m s
  same_block =
      ap (λ (f : Option Open). option_map_or (λ (p : Open). stands_inside p.replies) f false) opened_now.1
      ∙ ap stands_inside opened_now.2
      ∙ sym (ap (λ (f : Option Open). option_map_or (λ (p : Open). stands_inside p.replies) f false) by.closed)

  -- nothing of its group is answered yet, and no entry has come
  same_text : answered_text now s ≡ answered_text m s
  same_text =
      answered_of now s opened_now.0 opened_now.1
      ∙ ap (λ (rs : List Reply). take (length rs) (text_of now s opened_now.0)) opened_now.2
      ∙ sym (ap (λ (f : Option Open). option_map_or (λ (p : Open). take (length p.replies) (text_of m s p)) f []) by.closed)

  same_history : now.history ≡ m.history
  same_history = elim by.goes as (λ _. now.history ≡ m.history) [ inl first ↦ ap (λ (k : Machine). k.history) first.1 | inr again ↦ ap (λ (k : Machine). k.history) again.3 ]

  recorded_from : (ss : List Statement) (next : Machine) → IsRecorded now s ss next → IsRecorded m s ss next
  recorded_from ss next so = elim so as (λ _. IsRecorded m s ss next) [
    | inl goes ↦ inl (record {
      o = goes.o;
      is = goes.is;
      text = goes.text ∙ ap (λ (front : List Statement). front ++ ss) same_text;
      history = goes.history ∙ same_history;
    })
    | inr other ↦ elim other as (λ _. IsRecorded m s ss next) [
      | inl entered ↦ inr (inl (record {
        closed = entered.closed;
        entry = entered.entry;
        text = ap (λ (t : Script). statements_of t entered.entry) (sym begins_serves.script) ∙ (entered.text ∙ ap (λ (front : List Statement). front ++ ss) same_text);
        history = entered.history ∙ ap (λ (es : List Entry). es ++ entered.entry ∷ []) same_history;
      }))
      | inr stray ↦
          let clash : None ≡ Some opened_now.0 = sym stray.closed ∙ opened_now.1 in
          absurd cc
    ]
  ]

  answered_from : (next : Machine) → HasAnswered now s next → HasAnswered m s next
  answered_from next one = record {
    one_more = omega (arith, one.one_more, same_left);
    statement = one.statement;
    is = subst (λ (k : ℕ). slice_get (statements_at m s) k ≡ Some one.statement) same_length (subst (λ (t : Script). slice_get (session_at t s).statements (length (replies_at now s)) ≡ Some one.statement) begins_serves.script one.is);
    moved = one.moved
        ∙ ap (λ (lazy : LazyState). moving_behind (moving_seen lazy.last) (sees now s) (is_in_block now s) one.statement) same_lazy
        ∙ ap₂ (λ (d : Database) (b : Bool). moving_behind (moving_seen m.lazy.last) d b one.statement) same_sees same_block;
    recorded = recorded_from (one.statement ∷ []) next one.recorded;
  }

  gone_on : (next : Machine) → HasGoneOn now s start next → HasGoneOn m s start next
  gone_on next goes = record {
    serves = serves_both m s now next begins_serves goes.serves;
    reached = reaches_both start m now next (one_more at_once (begins s by)) goes.reached;
    more = goes.more;
    has_reply = goes.has_reply;
    goes = elim goes.goes as (λ _. HasAnswered m s next ⊎ HasEndedAlone m s next) [
      | inl one ↦ inl (answered_from next one)
      | inr ended ↦ absurd (some_left ended.o ended.is ended.answered)
    ];
  }

  abbrev asked_from : (answer : LockAnswer) → IsAsked now s start answer → IsAsked m s start answer
  asked_from answer asked = record {
    now = asked.now;
    serves = serves_both m s now asked.now begins_serves asked.serves;
    reached = reaches_both start m now asked.now (one_more at_once (begins s by)) asked.reached;
    no_reply = asked.no_reply ∙ same_left;
    no_move = asked.no_move ∙ same_lazy;
    o = asked.o;
    is = asked.is;
    same = λ p is. absurd (not_open p is);
    statement = asked.statement;
    later = asked.later;
    left = asked.left;
    name = asked.name;
    mode = asked.mode;
    asks = asked.asks;
    judged = asked.judged;
  }

  failed_from : (cause : Cause) (next : Machine) → HasFailed now s start cause next → HasFailed m s start cause next
  failed_from cause next failed = record {
    now = failed.now;
    serves = serves_both m s now failed.now begins_serves failed.serves;
    reached = reaches_both start m now failed.now (one_more at_once (begins s by)) failed.reached;
    by = failed.by;
    told = failed.told;
    left = elim failed.left as (λ _. (unanswered next s < unanswered m s) ⊎ HadAllReplies m s next) [
      | inl less ↦ inl (omega (arith, less, same_left))
      | inr had ↦ absurd (some_left had.o had.is had.answered)
    ];
  }

  turn_behind : (t : Turn) (next : Machine) → IsTurn now s start t next → IsTurn m s start t next
  turn_behind turn.Passed next taken = absurd (open_can now kept_now s opened_now.0 opened_now.1 taken.0)
  turn_behind turn.Served next taken = gone_on next taken
  turn_behind turn.Waited next taken = (taken.0, asked_from (Wait taken.0) taken.1, taken.2)
  turn_behind turn.Died next taken = (taken.0, asked_from (Die taken.0) taken.1, taken.2)
  turn_behind (turn.Ended cause) next taken = failed_from cause next taken

-- or where none was to begin
pub turn_from : {start : Database} (m : Machine) (s : ℕ) → IsPlace m.script s → IsKept start m → (now : Machine) → IsKept start now → (now ≡ m) ⊎ Begins m s now
    → (t : Turn) (next : Machine) → IsTurn now s start t next → IsTurn m s start t next
turn_from {start = start} m s place kept now kept_now begun t next taken = elim begun as (λ _. IsTurn m s start t next) [
  | inl same ↦ subst (λ (k : Machine). IsTurn k s start t next) same taken
  | inr by ↦ turn_behind m s place kept now kept_now by t next taken
]
