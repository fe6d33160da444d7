-- What a turn makes of the groups that are open, and of the statements that are left.
use Rattle.std.proofs.Common.{◌≡◌, ◌⊎◌, ℕ, ◌+◌, ◌<◌, ◌≤◌, List, [], ◌++◌, length, Option, Some, None, refl, sym, ap, ap₂, subst, ◌∙◌, arith, inl, inr}
use Rattle.std.specs.Option.{option_map_or}
use Rattle.std.proofs.lemmas.Bool.{cases_eq}
use Rattle.bf_locks.specs.declared.answer.LockAnswer.{LockAnswer}
use Rattle.bf_locks.specs.declared.answer.LockAnswer.TheVariants.{Die, Granted, Wait}
use Rattle.bf_locks.specs.declared.mode.Mode.{Mode}
use Rattle.bf_locks.specs.declared.name.LockName.{LockName}
use Rattle.bf_tree.specs.declared.reply.Cause.{Cause}
use Rattle.bf_tree.specs.declared.reply.Reply.{Reply}
use Rattle.bf_tree.specs.declared.script.Script.{Script}
use Rattle.bf_sql.specs.Database.{Database}
use Rattle.bf_sql.specs.Groups.{session_at}
use Rattle.bf_machine.specs.declared.stand.Turn.{Turn}
use Rattle.bf_machine.specs.declared.stand.Turn.TheVariants as turn
use Rattle.bf_machine.specs.interleaving.Calls.{IsPlace, replies_at, statements_at}
use Rattle.bf_machine.specs.interleaving.Events.{Event, Reaches, aborts, asked, asks, at_once, begins, commits_now, died, ends_by_log, executes, finishes, one_more, refuses, told_at_death, moves}
use Rattle.bf_machine.specs.interleaving.Kept.{IsKept}
use Rattle.bf_machine.specs.interleaving.Machines.{IsAmong, Machine, MayEnd, Open, these, open_at, told_at, with_replies}
use Rattle.bf_machine.specs.interleaving.Serving.{CanGo, CannotGo, Driven, HasFailed, HasGoneOn, IsAlone, IsBeside, IsTurn, IsYoungest, Serves, at_rest, one_driven, unanswered}
use Rattle.bf_machine.proofs.interleaving.Naming.{none_among}
use Rattle.bf_machine.proofs.interleaving.Others.{has_place}
use Rattle.bf_machine.proofs.interleaving.Places.{set_other, set_same}
use Rattle.bf_machine.proofs.served.Events.{serves_both}
use Rattle.bf_machine.proofs.served.Exclusive.{one_or_other, open_can}
use Rattle.bf_machine.proofs.served.Failing.{has_failed_closed, has_failed_less, has_failed_no_more, has_failed_serves}
use Rattle.bf_machine.proofs.served.Judged.{alone_dies_not, alone_waits_not, youngest_goes_on}
use Rattle.bf_machine.proofs.served.Open.{left_open}
use Rattle.bf_machine.proofs.served.Totals.{total, total_less}

-- the script stays
module _ (start : Database) where
  asked_script : (m : Machine) (s : ℕ) (answer : LockAnswer) (o : Open) (name : LockName) (mode : Mode) → (asked m s o name mode answer).script ≡ m.script
  asked_script m s Granted o name mode = refl
  asked_script m s (Wait others) o name mode = refl
  asked_script m s (Die older) o name mode = refl

  event_script : (m next : Machine) → Event start m next → next.script ≡ m.script
  event_script m next (begins s by) = elim by.goes as (λ _. next.script ≡ m.script) [
    | inl first ↦ ap (λ (k : Machine). k.script) first.1
    | inr again ↦ ap (λ (k : Machine). k.script) again.3
  ]
  event_script m next (asks s name mode answer by) = ap (λ (k : Machine). k.script) by.goes ∙ asked_script m s answer by.o name mode
  event_script m next (executes s by) = ap (λ (k : Machine). k.script) by.goes
  event_script m next (refuses s by) = ap (λ (k : Machine). k.script) by.goes
  event_script m next (commits_now s by) = ap (λ (k : Machine). k.script) by.goes
  event_script m next (moves granules by) = ap (λ (k : Machine). k.script) by.goes
  event_script m next (aborts s by) = ap (λ (k : Machine). k.script) by.goes
  event_script m next (ends_by_log s by) = ap (λ (k : Machine). k.script) by.goes
  event_script m next (finishes s same) = ap (λ (k : Machine). k.script) same

  pub reached_script : (m now : Machine) → Reaches start m now → now.script ≡ m.script
  reached_script m _ at_once = refl
  reached_script m _ (one_more {now = now} {next = next} before event) = event_script now next event ∙ reached_script m now before

-- and so stay the groups that a log may end
module _ (start : Database) where
  asked_may_end : (m : Machine) (s : ℕ) (answer : LockAnswer) (o : Open) (name : LockName) (mode : Mode) → (asked m s o name mode answer).may_end ≡ m.may_end
  asked_may_end m s Granted o name mode = refl
  asked_may_end m s (Wait others) o name mode = refl
  asked_may_end m s (Die older) o name mode = refl

  event_may_end : (m next : Machine) → Event start m next → next.may_end ≡ m.may_end
  event_may_end m next (begins s by) = elim by.goes as (λ _. next.may_end ≡ m.may_end) [
    | inl first ↦ ap (λ (k : Machine). k.may_end) first.1
    | inr again ↦ ap (λ (k : Machine). k.may_end) again.3
  ]
  event_may_end m next (asks s name mode answer by) = ap (λ (k : Machine). k.may_end) by.goes ∙ asked_may_end m s answer by.o name mode
  event_may_end m next (executes s by) = ap (λ (k : Machine). k.may_end) by.goes
  event_may_end m next (refuses s by) = ap (λ (k : Machine). k.may_end) by.goes
  event_may_end m next (commits_now s by) = ap (λ (k : Machine). k.may_end) by.goes
  event_may_end m next (moves granules by) = ap (λ (k : Machine). k.may_end) by.goes
  event_may_end m next (aborts s by) = ap (λ (k : Machine). k.may_end) by.goes
  event_may_end m next (ends_by_log s by) = ap (λ (k : Machine). k.may_end) by.goes
  event_may_end m next (finishes s same) = ap (λ (k : Machine). k.may_end) same

  pub reached_may_end : (m now : Machine) → Reaches start m now → now.may_end ≡ m.may_end
  reached_may_end m _ at_once = refl
  reached_may_end m _ (one_more {now = now} {next = next} before event) = event_may_end now next event ∙ reached_may_end m now before

-- what is seen of another session
module _ (m next : Machine) (t : ℕ) (script : next.script ≡ m.script) (same : (open_at next t ≡ open_at m t) × (told_at next t ≡ told_at m t)) where
  pub same_unanswered : unanswered next t ≡ unanswered m t
  same_unanswered =
      let replies : replies_at next t ≡ replies_at m t = ap₂ (λ (told : List Reply) (o : Option Open). with_replies told o) same.1 same.0 in
      let one : length (replies_at next t) ≡ length (replies_at m t) = ap (λ (rs : List Reply). length rs) replies in
      let other : length (statements_at next t) ≡ length (statements_at m t) = ap (λ (k : Script). length (session_at k t).statements) script in
      omega (arith, one, other)

  same_left : left_open next t ≡ left_open m t
  same_left =
      ap (λ (n : ℕ). option_map_or (λ (_ : Open). 1 + n) (open_at next t) 0) same_unanswered
      ∙ ap (λ (o : Option Open). option_map_or (λ (_ : Open). 1 + unanswered m t) o 0) same.0

-- SERVED: a session has gone on, or its open group has ended by a cause of the log
abbrev pub HasBeenServed : Machine → ℕ → Database → Machine → Type 0
HasBeenServed m s start next = HasGoneOn m s start next ⊎ ((cause : Cause) × HasFailed m s start cause next)

-- a turn that has gone on leaves no more of its session's statements
no_more_left : (m : Machine) (s : ℕ) (start : Database) (next : Machine) → HasGoneOn m s start next → unanswered next s ≤ unanswered m s
no_more_left m s start next gone = elim gone.goes as (λ _. unanswered next s ≤ unanswered m s) [ inl one ↦ omega (arith, one.one_more) | inr ended ↦ omega (arith, ended.same) ]

module _ {start : Database} (m : Machine) (s : ℕ) (next : Machine) (served : HasBeenServed m s start next) where
  pub served_serves : Serves m s next
  served_serves = elim served as (λ _. Serves m s next) [ inl gone ↦ gone.serves | inr failed ↦ has_failed_serves m s failed.0 next failed.1 ]

  pub served_no_more : unanswered next s ≤ unanswered m s
  served_no_more = elim served as (λ _. unanswered next s ≤ unanswered m s) [ inl gone ↦ no_more_left m s start next gone | inr failed ↦ has_failed_no_more m s failed.0 next failed.1 ]

  -- where no group was open a statement has its reply
  served_less : open_at m s ≡ None → unanswered next s < unanswered m s
  served_less closed = elim served as (λ _. unanswered next s < unanswered m s) [
    | inl gone ↦ elim gone.goes as (λ _. unanswered next s < unanswered m s) [
      | inl one ↦ omega (arith, one.one_more)
      | inr ended ↦
          let clash : None ≡ Some ended.o = sym closed ∙ ended.is in
          absurd cc
    ]
    | inr failed ↦ has_failed_less m s failed.0 next failed.1 closed
  ]

  -- and where no log ends groups it has gone on
  pub served_goes_on : m.may_end ≡ these [] → HasGoneOn m s start next
  served_goes_on unlogged = elim served as (λ _. HasGoneOn m s start next) [
    | inl gone ↦ gone
    | inr failed ↦ let by = failed.1.by in absurd (none_among (record { session = s; group = by.o.group; cause = by.cause }) (subst (λ (may_end : MayEnd). IsAmong may_end (record { session = s; group = by.o.group; cause = by.cause })) (reached_may_end start m failed.1.now failed.1.reached ∙ unlogged) by.may))
  ]

-- a death closes the session and leaves the others
module _ (m : Machine) (s : ℕ) (o : Open) (is : open_at m s ≡ Some o) (older : ℕ) where
  died_closed : open_at (died m s o older) s ≡ None
  died_closed = let place = has_place m s o is in set_same None None m.opens s None place.0 place.1

  died_beside : IsBeside m s (died m s o older)
  died_beside = λ t apart.
      let place = has_place m s o is in
      (set_other None None m.opens s t None place.0 apart, set_other [] [] m.told s t (told_at m s ++ told_at_death m s o older) place.0 apart)

module _ {start : Database} (m : Machine) (kept : IsKept start m) (s : ℕ) (t : Turn) (next : Machine) (taken : IsTurn m s start t next) where
  -- the one open group, or the only session that goes on, is served
  alone_is_served : IsAlone m s → (CannotGo m s → ⊥) → HasBeenServed m s start next
  alone_is_served alone goes_on = by_turn t taken
    where
      by_turn : (t : Turn) → IsTurn m s start t next → HasBeenServed m s start next
      by_turn turn.Passed taken = absurd (goes_on taken.0)
      by_turn turn.Served taken = inl taken
      by_turn (turn.Ended cause) taken = inr (cause, taken)
      by_turn turn.Waited taken = absurd (alone_waits_not m kept s alone taken.0 taken.1)
      by_turn turn.Died taken = absurd (alone_dies_not m kept s alone taken.0 taken.1)

  pub alone_open_goes_on : IsAlone m s → (o : Open) → open_at m s ≡ Some o → HasBeenServed m s start next
  alone_open_goes_on alone o is = alone_is_served alone (open_can m kept s o is)

  pub alone_goes_on : IsAlone m s → CanGo m s → HasBeenServed m s start next
  alone_goes_on alone goes = alone_is_served alone (one_or_other m kept s goes)

  -- the youngest open group goes on or ends
  module _ (youngest : IsYoungest m s) (script : next.script ≡ m.script) where
    closed_less : open_at next s ≡ None → left_open next s < left_open m s
    closed_less closed =
        let now : left_open next s ≡ 0 = ap (λ (o : Option Open). option_map_or (λ (_ : Open). 1 + unanswered next s) o 0) closed in
        let was : left_open m s ≡ 1 + unanswered m s = ap (λ (o : Option Open). option_map_or (λ (_ : Open). 1 + unanswered m s) o 0) youngest.1 in
        omega (arith, now, was)

    answered_less : unanswered next s < unanswered m s → left_open next s < left_open m s
    answered_less less =
        let was : left_open m s ≡ 1 + unanswered m s = ap (λ (o : Option Open). option_map_or (λ (_ : Open). 1 + unanswered m s) o 0) youngest.1 in
        elim (open_at next s) as (λ found. option_map_or (λ (_ : Open). 1 + unanswered next s) found 0 < left_open m s) [
          | None ↦ omega (arith, was)
          | Some o ↦ omega (arith, was, less)
        ]

    by_beside : IsBeside m s next → left_open next s < left_open m s → IsPlace m.script s → total (left_open next) (length m.script.sessions) < total (left_open m) (length m.script.sessions)
    by_beside beside less place =
        total_less (left_open next) (left_open m)
        (λ u. elim (cases_eq u s) as (λ _. left_open next u ≤ left_open m u) [
          | inl same ↦ subst (λ (v : ℕ). left_open next v ≤ left_open m v) (sym same) (omega (arith, less))
          | inr apart ↦ let e = same_left m next u script (beside u apart) in omega (arith, e)
        ])
        s place.0 less (length m.script.sessions) place.1

    pub youngest_leaves_less : IsPlace m.script s → total (left_open next) (length m.script.sessions) < total (left_open m) (length m.script.sessions)
    youngest_leaves_less place = by_turn t taken
      where
        by_turn : (t : Turn) → IsTurn m s start t next → total (left_open next) (length m.script.sessions) < total (left_open m) (length m.script.sessions)
        by_turn turn.Passed taken = absurd (open_can m kept s youngest.0 youngest.1 taken.0)
        by_turn turn.Served taken =
            by_beside taken.serves.beside
            (elim taken.goes as (λ _. left_open next s < left_open m s) [ inl one ↦ answered_less (omega (arith, one.one_more)) | inr ended ↦ closed_less ended.closed ]) place
        by_turn (turn.Ended cause) taken = by_beside (has_failed_serves m s cause next taken).beside (closed_less (has_failed_closed m s cause next taken)) place
        by_turn turn.Waited taken = absurd (youngest_goes_on m kept s youngest taken.0 taken.1)
        by_turn turn.Died taken =
            let asked = taken.1 in
            let closed : open_at next s ≡ None = ap (λ (k : Machine). open_at k s) taken.2 ∙ died_closed asked.now s asked.o asked.is taken.0 in
            let beside : IsBeside m s next = λ u apart.
            let then = died_beside asked.now s asked.o asked.is taken.0 u apart in
            let before = asked.serves.beside u apart in (
              ap (λ (k : Machine). open_at k u) taken.2 ∙ (then.0 ∙ before.0),
              ap (λ (k : Machine). told_at k u) taken.2 ∙ (then.1 ∙ before.1),
            ) in
            by_beside beside (closed_less closed) place

-- a session that is served has fewer statements left, and the others as many
pub serves_less : (m next : Machine) (s : ℕ) → IsPlace m.script s → Serves m s next → unanswered next s < unanswered m s
    → total (unanswered next) (length m.script.sessions) < total (unanswered m) (length m.script.sessions)
serves_less m next s place serves less =
    total_less (unanswered next) (unanswered m)
    (λ u. elim (cases_eq u s) as (λ _. unanswered next u ≤ unanswered m u) [
      | inl same ↦ subst (λ (v : ℕ). unanswered next v ≤ unanswered m v) (sym same) (omega (arith, less))
      | inr apart ↦ let e = same_unanswered m next u serves.script (serves.beside u apart) in omega (arith, e)
    ])
    s place.0 less (length m.script.sessions) place.1

-- where nothing is open, a session's turn and the end of its group
pub served_to_end : {start : Database} (m : Machine) → IsKept start m → (s : ℕ) → ((u : ℕ) → open_at m u ≡ None) → CanGo m s → (t : Turn) (next : Machine) → IsTurn m s start t next → (then : Machine)
    → ((u : ℕ) → IsAlone next u → Serves next u then × (unanswered then u ≤ unanswered next u)) → Serves m s then × (unanswered then s < unanswered m s)
served_to_end m kept s closed goes t next taken then rest =
    let served = alone_goes_on m kept s t next taken (λ u apart. closed u) goes in
    let serves = served_serves m s next served in
    let more = rest s (λ u apart. (serves.beside u apart).0 ∙ closed u) in
    let less : unanswered next s < unanswered m s = served_less m s next served (closed s) in
    (serves_both m s next then serves more.0, omega (arith, less, more.1))

-- those that are next, behind others that were
pub driven_both : (start : Database) (m now next : Machine) → Driven start m now → Driven start now next → Driven start m next
driven_both start m now _ one at_rest = one
driven_both start m now _ one (one_driven {now = then} {next = next} s before is how turn) = one_driven s (driven_both start m now then one before) is how turn

pub none_of : (o : Option ℕ) → ((x : ℕ) → o ≡ Some x → ⊥) → o ≡ None
none_of None not_some = refl
none_of (Some x) not_some = absurd (not_some x refl)
