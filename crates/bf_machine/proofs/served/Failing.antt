-- A session's open group ends by a cause of the log: the session is served, and each of its group's statements has a reply.
use Rattle.std.proofs.Common.{◌≡◌, ◌⊎◌, ℕ, suc, ◌+◌, ◌<◌, ◌≤◌, List, [], ◌∷◌, ◌++◌, length, map, Some, None, refl, sym, ap, subst, ◌∙◌, arith, inl, inr, append-nil, length-append}
use Rattle.std.proofs.lemmas.List.{length-drop, length-map}
use Rattle.bf_tree.specs.declared.reply.Cause.{Cause}
use Rattle.bf_tree.specs.declared.reply.Reply.{Reply}
use Rattle.bf_tree.specs.declared.reply.Reply.TheVariants as reply
use Rattle.bf_tree.specs.declared.script.Script.{Script}
use Rattle.bf_tree.specs.declared.statement.Statement.{Statement}
use Rattle.bf_sql.specs.Database.{Database}
use Rattle.bf_sql.specs.Groups.{session_at}
use Rattle.bf_machine.specs.interleaving.Calls.{replies_at, statements_at}
use Rattle.bf_machine.specs.interleaving.Events.{EndsByLog, Reaches, at_once, rest_of, text_of}
use Rattle.bf_machine.specs.interleaving.Kept.{IsKept}
use Rattle.bf_machine.specs.interleaving.Machines.{Machine, open_at, told_at, with_replies}
use Rattle.bf_machine.specs.interleaving.Serving.{HadAllReplies, HasFailed, Serves, unanswered}
use Rattle.bf_machine.proofs.interleaving.Others.{has_place}
use Rattle.bf_machine.proofs.interleaving.Places.{set_other, set_same}
use Rattle.bf_machine.proofs.served.Events.{left_below, replies_are, serves_both, serves_not}
use Rattle.bf_machine.proofs.interleaving.Texts.{are_texts}

module _ (m : Machine) (s : ℕ) (next : Machine) (by : EndsByLog m s next) where
  abbrev answers : List Reply
  answers = map (λ (_ : Statement). reply.Ended by.cause) (text_of m s by.o)

  pub failed_closed : open_at next s ≡ None
  failed_closed =
      let place = has_place m s by.o by.is in
      ap (λ (k : Machine). open_at k s) by.goes ∙ set_same None None m.opens s None place.0 place.1

  pub failed_serves : Serves m s next
  failed_serves =
      let place = has_place m s by.o by.is in
      subst (Serves m s) (sym by.goes) (record {
        script = refl;
        beside = λ t apart. (
          set_other None None m.opens s t None place.0 apart,
          set_other [] [] m.told s t (told_at m s ++ answers) place.0 apart,
        );
        deaths = λ n. refl;
        entries = ([], tt, sym (append-nil m.history));
      })

  -- those that had no reply have one
  module _ {start : Database} (kept : IsKept start m) where
    answers_more : length (replies_at next s) ≡ length (replies_at m s) + length (rest_of m s by.o)
    answers_more =
        let place = has_place m s by.o by.is in
        let high : s ≤ length m.told = omega (arith, place.1, kept.shaped.opens, kept.shaped.told) in
        let told : told_at next s ≡ told_at m s ++ answers = ap (λ (k : Machine). told_at k s) by.goes ∙ set_same [] [] m.told s (told_at m s ++ answers) place.0 high in
        let then : replies_at next s ≡ told_at m s ++ answers = ap (with_replies (told_at next s)) failed_closed ∙ told in
        let size : length (replies_at next s) ≡ length (told_at m s) + length answers = ap (λ (rs : List Reply). length rs) then ∙ length-append (told_at m s) answers in
        let before : length (replies_at m s) ≡ length (told_at m s) + length by.o.replies =
        ap (λ (rs : List Reply). length rs) (replies_are m kept (are_texts m.script) s by.o by.is) ∙ length-append (told_at m s) by.o.replies in
        let within = (kept.open_groups_replay.each s by.o by.is).within in
        omega (arith, size, before, within, length-map (text_of m s by.o) (λ (_ : Statement). reply.Ended by.cause), length-drop (length by.o.replies) (text_of m s by.o))

    same_text : length (statements_at next s) ≡ length (statements_at m s)
    same_text = ap (λ (k : Script). length (session_at k s).statements) failed_serves.script

    pub failed_no_more : unanswered next s ≤ unanswered m s
    failed_no_more = omega (arith, answers_more, same_text)

    -- and where one of its statements had none, fewer have none
    pub failed_same : rest_of m s by.o ≡ [] → unanswered next s ≡ unanswered m s
    failed_same none =
        let size : length (rest_of m s by.o) ≡ 0 = ap (λ (ss : List Statement). length ss) none in
        omega (arith, answers_more, same_text, size)

    pub failed_less : (statement : Statement) (later : List Statement) → rest_of m s by.o ≡ statement ∷ later → unanswered next s < unanswered m s
    failed_less statement later left =
        let below = left_below m kept (are_texts m.script) s by.o by.is statement later left in
        let some : length (rest_of m s by.o) ≡ suc (length later) = ap (λ (ss : List Statement). length ss) left in
        omega (arith, answers_more, same_text, below, some)

    -- so a turn ended
    pub failed_here : (cause : Cause) → by.cause ≡ cause → HasFailed m s start cause next
    failed_here cause is = record { now = m; serves = serves_not m s; reached = at_once; by = by; told = is; left = on (rest_of m s by.o) refl }
      where
        on : (ss : List Statement) → rest_of m s by.o ≡ ss → (unanswered next s < unanswered m s) ⊎ HadAllReplies m s next
        on [] none = inr (record { o = by.o; is = by.is; answered = none; same = failed_same none })
        on (statement ∷ later) left = inl (failed_less statement later left)

    pub failed_behind : (was : Machine) → Serves was s m → Reaches start was m → unanswered next s < unanswered was s → (cause : Cause) → by.cause ≡ cause → HasFailed was s start cause next
    failed_behind was serves reached less cause is = record { now = m; serves = serves; reached = reached; by = by; told = is; left = inl less }

-- A TURN that ended so has served its session
module _ {start : Database} (m : Machine) (s : ℕ) (cause : Cause) (next : Machine) (failed : HasFailed m s start cause next) where
  pub has_failed_serves : Serves m s next
  has_failed_serves = serves_both m s failed.now next failed.serves (failed_serves failed.now s next failed.by)

  pub has_failed_closed : open_at next s ≡ None
  has_failed_closed = failed_closed failed.now s next failed.by

  pub has_failed_no_more : unanswered next s ≤ unanswered m s
  has_failed_no_more = elim failed.left as (λ _. unanswered next s ≤ unanswered m s) [ inl less ↦ omega (arith, less) | inr had ↦ omega (arith, had.same) ]

  -- and where no group was open fewer statements have no reply
  pub has_failed_less : open_at m s ≡ None → unanswered next s < unanswered m s
  has_failed_less closed = elim failed.left as (λ _. unanswered next s < unanswered m s) [
    | inl less ↦ less
    | inr had ↦
        let clash : None ≡ Some had.o = sym closed ∙ had.is in
        absurd cc
  ]
