-- What an event of a session makes of the statements that have no reply.
use Rattle.std.proofs.Common.{◌≡◌, ◌⊎◌, ℕ, zero, suc, ◌+◌, ◌-◌, ◌<◌, ◌≤◌, Bool, true, false, not, List, [], ◌∷◌, ◌++◌, length, drop, take, Option, Some, None, refl, sym, ap, ap₂, subst, ◌∙◌, arith, inl, inr, append-nil, length-append}
use Rattle.std.specs.Prelude.{nat_le, slice_get}
use Rattle.std.specs.Option.{option_map_or}
use Rattle.std.specs.List.{list_any, slice_set}
use Rattle.std.proofs.lemmas.Bool.{and_parts, false≢true}
use Rattle.std.proofs.lemmas.Bool.Decides.{nat_tests}
use Rattle.std.proofs.lemmas.Option.{same_Some}
use Rattle.bf_tree.specs.declared.history.Entry.{Entry}
use Rattle.bf_tree.specs.declared.history.Outcome.TheVariants.{Committed, RolledBack}
use Rattle.bf_tree.specs.declared.reply.Refusal.TheVariants.{NoTransaction}
use Rattle.bf_tree.specs.declared.reply.Reply.{Reply}
use Rattle.bf_tree.specs.declared.reply.Reply.TheVariants as reply
use Rattle.bf_tree.specs.declared.script.Script.{Script}
use Rattle.bf_tree.specs.declared.statement.Statement.{Statement}
use Rattle.bf_tree.specs.declared.statement.Statement.TheVariants.{Commit, Rollback}
use Rattle.boxcar.specs.Table.{Where}
use Rattle.bf_sql.specs.Database.{Database}
use Rattle.bf_sql.specs.migrations.Lazy.{LazyState}
use Rattle.bf_image.specs.declared.migration.Migration.{Migration}
use Rattle.bf_sql.specs.Groups.{commits, ends_block, groups_in, has_statement, session_at, statements_in, statements_of}
use Rattle.bf_machine.specs.Movement.{moving_seen, with_need}
use Rattle.bf_machine.specs.interleaving.Calls.{replies_at, statements_at}
use Rattle.bf_machine.specs.interleaving.Events.{Aborts, Begins, Commits, Event, Executes, Reaches, Refuses, aborts, at_once, begun}
use Rattle.bf_machine.specs.interleaving.Events.{begun_again, commits_behind, commits_now, entry_of, one_more, opened, rest_of, stepped, text_of, with_open, put_into}
use Rattle.bf_machine.specs.interleaving.Groups.{left_by}
use Rattle.bf_machine.specs.interleaving.Kept.{IsKept}
use Rattle.bf_machine.specs.interleaving.Machines.{Machine, Open, open_at, told_at, with_replies}
use Rattle.bf_machine.specs.interleaving.Serving.{GoesOnWith, HasAnswered, HasEndedAlone, HasGoneOn, HasMore, HasReply, HasSettled, IsEnteredWith, IsStrayWith, Serves, answered_text, is_answered, is_in_block, sees, unanswered}
use Rattle.bf_machine.proofs.interleaving.Others.{has_place}
use Rattle.bf_machine.proofs.interleaving.Places.{set_same, set_other}
use Rattle.bf_machine.proofs.interleaving.Telling.{length-part}
use Rattle.bf_machine.proofs.interleaving.Texts.{are_texts}
use Rattle.bf_machine.proofs.served.Behind.{end_begins_none, end_needs_none, put_same}
use Rattle.bf_machine.proofs.served.Nexts.{next_of, refused_ends}
use Rattle.bf_machine.proofs.served.Events.{closed_then, end_answers, end_serves, left_below, over, replies_are, serves_open}

some_long : {X : Type 0} (p : X → Bool) (xs : List X) → list_any p xs ≡ true → 1 ≤ length xs
some_long p [] any = absurd (false≢true any)
some_long p (x ∷ xs) any = omega arith

drop-all : {X : Type 0} (n : ℕ) (xs : List X) → length xs ≤ n → drop n xs ≡ []
drop-all zero [] within = refl
drop-all zero (x ∷ xs) within = absurd (omega (arith, within))
drop-all (suc n) [] within = refl
drop-all (suc n) (x ∷ xs) within = drop-all n xs (omega (arith, within))

-- the front of a list, with one item more or with the rest
take_one : {X : Type 0} (n : ℕ) (xs : List X) (x : X) (rest : List X) → drop n xs ≡ x ∷ rest → take (suc n) xs ≡ take n xs ++ x ∷ []
take_one zero [] x rest is = absurd cc
take_one zero (y ∷ xs) x rest is = let same : y ≡ x = cc in rw same refl
take_one (suc n) [] x rest is = absurd cc
take_one {X = X} (suc n) (y ∷ xs) x rest is = ap (λ (zs : List X). y ∷ zs) (take_one n xs x rest is)

take_rest : {X : Type 0} (n : ℕ) (xs : List X) → take n xs ++ drop n xs ≡ xs
take_rest zero xs = refl
take_rest (suc n) [] = refl
take_rest {X = X} (suc n) (x ∷ xs) = ap (λ (zs : List X). x ∷ zs) (take_rest n xs)

-- what an open group has answered
pub answered_of : (m : Machine) (s : ℕ) (o : Open) → open_at m s ≡ Some o → answered_text m s ≡ take (length o.replies) (text_of m s o)
answered_of m s o is = ap (λ (found : Option Open). option_map_or (λ (p : Open). take (length p.replies) (text_of m s p)) found []) is

-- events one after the other
pub reaches_both : (start : Database) (m now next : Machine) → Reaches start m now → Reaches start now next → Reaches start m next
reaches_both start m now _ one at_once = one
reaches_both start m now _ one (one_more {now = then} {next = next} before event) = one_more (reaches_both start m now then one before) event

-- where no group is open, none has all its replies
pub closed_more : (m : Machine) (s : ℕ) → open_at m s ≡ None → HasMore m s
closed_more m s closed o is none = let clash : None ≡ Some o = sym closed ∙ is in cc

pub closed_reply : (m : Machine) (s : ℕ) → open_at m s ≡ None → HasReply m s
closed_reply m s closed o is none = let clash : None ≡ Some o = sym closed ∙ is in cc

-- behind an EXEC the group has a reply
pub exec_reply : (m : Machine) (s : ℕ) (next : Machine) → Executes m s next → HasReply next s
exec_reply m s next by p is none =
    let place = has_place m s by.o by.is in
    let then : Open = stepped m s by.o by.statement by.bound in
    let there : open_at next s ≡ Some then = ap (λ (k : Machine). open_at k s) by.goes ∙ set_same None None m.opens s (Some then) place.0 place.1 in
    let same : p ≡ then = same_Some p then (sym is ∙ there) in
    let more : length then.replies ≡ length by.o.replies + 1 = length-append by.o.replies _ in
    let size : length p.replies ≡ length then.replies = ap (λ (q : Open). length q.replies) same in
    let nothing : length p.replies ≡ 0 = ap (λ (rs : List Reply). length rs) none in
    omega (arith, more, size, nothing)

-- and its statement comes to those that are answered
pub exec_records : (m : Machine) (s : ℕ) (next : Machine) → (by : Executes m s next) → GoesOnWith m s (by.statement ∷ []) next
exec_records m s next by = record {
  o = then;
  is = there;
  text = answered_of next s then there
      ∙ (ap₂ (λ (t : Script) (n : ℕ). take n (statements_in t s by.o.group)) script more
      ∙ (take_one (length by.o.replies) (text_of m s by.o) by.statement by.later by.left
      ∙ ap (λ (ss : List Statement). ss ++ by.statement ∷ []) (sym (answered_of m s by.o by.is))));
  history = ap (λ (k : Machine). k.history) by.goes;
}
  where
    then : Open
    then = stepped m s by.o by.statement by.bound

    there : open_at next s ≡ Some then
    there = let place = has_place m s by.o by.is in ap (λ (k : Machine). open_at k s) by.goes ∙ set_same None None m.opens s (Some then) place.0 place.1

    script : next.script ≡ m.script
    script = ap (λ (k : Machine). k.script) by.goes

    more : length then.replies ≡ suc (length by.o.replies)
    more = let size : length then.replies ≡ length by.o.replies + 1 = length-append by.o.replies _ in omega (arith, size)

module _ {start : Database} (m : Machine) (kept : IsKept start m) (s : ℕ) where
  -- EXEC
  pub exec_goes_on : (next : Machine) → Executes m s next → Serves m s next × (unanswered m s ≡ unanswered next s + 1)
  exec_goes_on next by =
      subst (λ (next : Machine). Serves m s next × (unanswered m s ≡ unanswered next s + 1)) (sym by.goes)
      (serves_open m s place.0 (Some then), omega (arith, below, size))
    where
      place : (1 ≤ s) × (s ≤ length m.opens)
      place = has_place m s by.o by.is

      then : Open
      then = stepped m s by.o by.statement by.bound

      below : length (replies_at m s) < length (statements_at m s)
      below = left_below m kept (are_texts m.script) s by.o by.is by.statement by.later by.left

      size : length (replies_at (with_open m s (Some then)) s) ≡ length (replies_at m s) + 1
      size =
          let now : replies_at (with_open m s (Some then)) s ≡ told_at m s ++ then.replies = ap (with_replies (told_at m s)) (set_same None None m.opens s (Some then) place.0 place.1) in
          let was : replies_at m s ≡ told_at m s ++ by.o.replies = replies_are m kept (are_texts m.script) s by.o by.is in
          let one = ap (λ (rs : List Reply). length rs) now in
          let other = ap (λ (rs : List Reply). length rs) was in
          let more : length then.replies ≡ length by.o.replies + 1 = length-append by.o.replies _ in
          omega (arith, one, other, length-append (told_at m s) then.replies, length-append (told_at m s) by.o.replies, more)

  -- EXEC of a COMMIT or ROLLBACK in no group
  pub refuse_goes_on : (next : Machine) → Refuses m s next → Serves m s next × (unanswered m s ≡ unanswered next s + 1)
  refuse_goes_on next by =
      subst (λ (next : Machine). Serves m s next × (unanswered m s ≡ unanswered next s + 1)) (sym by.goes)
      (serves, omega (arith, below, size))
    where
      refused : List Reply
      refused = told_at m s ++ reply.Refused NoTransaction ∷ []

      then : Machine
      then = record m { told = slice_set m.told (s - 1) refused }

      high : s ≤ length m.told
      high = omega (arith, by.place.1, kept.shaped.told)

      serves : Serves m s then
      serves = record {
        script = refl;
        beside = λ t apart. (refl, set_other [] [] m.told s t refused by.place.0 apart);
        deaths = λ n. refl;
        entries = ([], tt, sym (append-nil m.history));
      }

      below : length (replies_at m s) < length (statements_at m s)
      below =
          let n = length (told_at m s) + 1 in
          let parts = and_parts (list_any ends_block (statements_in m.script s (n, n))) (not (list_any (has_statement n) (groups_in m.script s))) by.stray in
          let long = some_long ends_block (statements_in m.script s (n, n)) parts.0 in
          let told : length (replies_at m s) ≡ length (told_at m s) = ap (λ (o : Option Open). length (with_replies (told_at m s) o)) by.closed in
          omega (arith, long, told, length-part n n (session_at m.script s).statements)

      size : length (replies_at then s) ≡ length (replies_at m s) + 1
      size =
          let was : replies_at m s ≡ told_at m s = ap (with_replies (told_at m s)) by.closed in
          let now : replies_at then s ≡ refused = ap (with_replies (told_at then s)) by.closed ∙ set_same [] [] m.told s refused by.place.0 high in
          let one = ap (λ (rs : List Reply). length rs) was in
          let other = ap (λ (rs : List Reply). length rs) now in
          let more : length refused ≡ length (told_at m s) + 1 = length-append (told_at m s) _ in
          omega (arith, one, other, more)

  pub refuse_records : (next : Machine) → Refuses m s next → (statement : Statement) → slice_get (statements_at m s) (length (replies_at m s)) ≡ Some statement → IsStrayWith m s (statement ∷ []) next
  refuse_records next by statement is = record {
    closed = by.closed;
    still = ap (λ (k : Machine). open_at k s) by.goes ∙ by.closed;
    statement = statement;
    is = refl;
    ends = refused_ends m kept s next by statement is;
    history = ap (λ (k : Machine). k.history) by.goes;
  }

  -- the end of an open group
  module _ (o : Open) (is : open_at m s ≡ Some o) (c : Statement) (left : (rest_of m s o ≡ []) ⊎ (rest_of m s o ≡ c ∷ [])) (r : Reply) (db : Database) (lazy : LazyState) (pass : Option (Where Migration)) (e : Entry) (same : e.session ≡ s) where
    abbrev after : Machine
    after = over m kept (are_texts m.script) s o is r db lazy pass e same

    closed_after : open_at after s ≡ None
    closed_after = closed_then m kept (are_texts m.script) s o is r db lazy pass e same

    size_after : length (replies_at after s) ≡ length (replies_at m s) + length (rest_of m s o)
    size_after = end_answers m kept (are_texts m.script) s o is r db lazy pass e same

    end_adds_none : rest_of m s o ≡ [] → unanswered after s ≡ unanswered m s
    end_adds_none none = let nothing = ap (λ (ss : List Statement). length ss) none in omega (arith, size_after, nothing)

    -- the entry is of the whole text: of the answered statements, and of those that were left
    entered : statements_of m.script e ≡ text_of m s o → (ss : List Statement) → rest_of m s o ≡ ss → IsEnteredWith m s ss after
    entered text ss rest = record {
      closed = closed_after;
      entry = e;
      text = text ∙ (sym (take_rest (length o.replies) (text_of m s o)) ∙ ap₂ (λ (front back : List Statement). front ++ back) (sym (answered_of m s o is)) rest);
      history = refl;
    }

    module _ (text : statements_of m.script e ≡ text_of m s o) (ends : ends_block c ≡ true) (more : rest_of m s o ≡ c ∷ [] → lazy.last ≡ m.lazy.last) (none : rest_of m s o ≡ [] → moving_seen lazy.last ≡ moving_seen (put_into m.lazy o.pending).last) where
      -- a COMMIT or ROLLBACK needs nothing, and begins no migration
      answered : rest_of m s o ≡ c ∷ [] → HasAnswered m s after
      answered one =
          let below = left_below m kept (are_texts m.script) s o is c [] one in
          let some : length (rest_of m s o) ≡ 1 = ap (λ (ss : List Statement). length ss) one in record {
            one_more = omega (arith, size_after, below, some);
            statement = c;
            is = next_of m kept s o is c [] one;
            moved = ap moving_seen (more one) ∙ sym (
                end_begins_none (with_need (moving_seen m.lazy.last) (sees m s) (is_in_block m s) c) (sees m s) (is_in_block m s) c ends
                ∙ end_needs_none m.lazy.last (sees m s) (is_in_block m s) c ends
                );
            recorded = inr (inl (entered text (c ∷ []) one));
          }

      end_goes_on : Event start m after → HasGoneOn m s start after
      end_goes_on event = record {
        serves = end_serves m kept (are_texts m.script) s o is r db lazy pass e same;
        reached = one_more at_once event;
        more = closed_more after s closed_after;
        has_reply = closed_reply after s closed_after;
        goes = elim left as (λ _. HasAnswered m s after ⊎ HasEndedAlone m s after) [
          | inl nothing ↦ inr (record { o = o; is = is; answered = nothing; closed = closed_after; same = end_adds_none nothing; moved = none nothing; recorded = entered text [] nothing })
          | inr one ↦ inl (answered one)
        ];
      }

  -- a statement that is left
  some_left : (o : Open) (c : Statement) → rest_of m s o ≡ c ∷ [] → rest_of m s o ≡ [] → ⊥
  some_left o c one none = let clash : c ∷ [] ≡ [] = sym one ∙ none in cc

  pub commit_goes_on : (next : Machine) → Commits m s next → HasGoneOn m s start next
  commit_goes_on next by =
      let n = commits_behind 0 m.history + 1 in
      subst (HasGoneOn m s start) (sym by.goes)
      (end_goes_on by.can.o by.can.is Commit by.can.left (reply.Committed n) (left_by m.db by.can.o.pending) (put_into m.lazy by.can.o.pending) next.pass (entry_of m s by.can.o (Committed n)) refl
      refl refl (λ one. put_same m kept s by.can.o by.can.is (inl (some_left by.can.o Commit one))) (λ none. refl) (subst (Event start m) by.goes (commits_now s by)))

  pub abort_goes_on : (next : Machine) → Aborts m s next → HasGoneOn m s start next
  abort_goes_on next by =
      subst (HasGoneOn m s start) (sym by.goes)
      (end_goes_on by.o by.is Rollback by.left reply.RolledBack m.db m.lazy m.pass (entry_of m s by.o RolledBack) refl
      refl refl (λ one. refl) (λ none. sym (ap moving_seen (put_same m kept s by.o by.is (inr by.commits_so)))) (subst (Event start m) by.goes (aborts s by)))

  -- what they leave is told of
  pub commit_settles : (next : Machine) → Commits m s next → HasSettled m s next
  commit_settles next by o is =
      let group : by.can.o ≡ o = same_Some by.can.o o (sym by.can.is ∙ is) in
      ap (λ (k : Machine). moving_seen k.lazy.last) by.goes ∙ ap (λ (p : Open). moving_seen (put_into m.lazy p.pending).last) group

  pub abort_settles : (next : Machine) → Aborts m s next → HasSettled m s next
  abort_settles next by o is =
      let group : by.o ≡ o = same_Some by.o o (sym by.is ∙ is) in
      ap (λ (k : Machine). moving_seen k.lazy.last) by.goes ∙ sym (ap moving_seen (put_same m kept s o is (inr (subst (λ (p : Open). commits (text_of m s p) ≡ false) group by.commits_so))))

  -- and so is what a group leaves that goes on
  pub more_settles : HasMore m s → HasSettled m s m
  more_settles more o is = sym (ap moving_seen (put_same m kept s o is (inl (more o is))))

  -- and where each statement had its reply
  module _ (answered : is_answered m s ≡ true) where
    none_left : (o : Open) → open_at m s ≡ Some o → rest_of m s o ≡ []
    none_left o is =
        let here : nat_le (length (text_of m s o)) (length o.replies) ≡ true = sym (ap (λ (found : Option Open). option_map_or (λ (o : Open). nat_le (length (text_of m s o)) (length o.replies)) found false) is) ∙ answered in
        let within : length (text_of m s o) ≤ length o.replies = grind (arith, nat_tests, here) in
        drop-all (length o.replies) (text_of m s o) within

    pub commit_adds_none : (next : Machine) → Commits m s next → unanswered next s ≡ unanswered m s
    commit_adds_none next by =
        let n = commits_behind 0 m.history + 1 in
        subst (λ (next : Machine). unanswered next s ≡ unanswered m s) (sym by.goes)
        (end_adds_none by.can.o by.can.is Commit by.can.left (reply.Committed n) (left_by m.db by.can.o.pending) (put_into m.lazy by.can.o.pending) next.pass (entry_of m s by.can.o (Committed n)) refl (none_left by.can.o by.can.is))

    pub abort_adds_none : (next : Machine) → Aborts m s next → unanswered next s ≡ unanswered m s
    abort_adds_none next by =
        subst (λ (next : Machine). unanswered next s ≡ unanswered m s) (sym by.goes)
        (end_adds_none by.o by.is Rollback by.left reply.RolledBack m.db m.lazy m.pass (entry_of m s by.o RolledBack) refl (none_left by.o by.is))

    -- only the group has ended
    ends_alone : (next : Machine) → HasGoneOn m s start next → unanswered next s ≡ unanswered m s → HasEndedAlone m s next
    ends_alone next gone same = elim gone.goes as (λ _. HasEndedAlone m s next) [ inl one ↦ absurd (omega (arith, one.one_more, same)) | inr ended ↦ ended ]

    pub commit_ends : (next : Machine) → Commits m s next → HasEndedAlone m s next
    commit_ends next by = ends_alone next (commit_goes_on next by) (commit_adds_none next by)

    pub abort_ends : (next : Machine) → Aborts m s next → HasEndedAlone m s next
    abort_ends next by = ends_alone next (abort_goes_on next by) (abort_adds_none next by)

  -- BEGIN: nothing has its reply yet
  module _ (place : (1 ≤ s) × (s ≤ length m.opens)) where
    begun_adds_none : (o : Open) → o.replies ≡ [] → open_at m s ≡ None → (next : Machine) → told_at next s ≡ told_at m s → open_at next s ≡ Some o → next.script ≡ m.script
        → unanswered next s ≡ unanswered m s
    begun_adds_none o none closed next told is script =
        let now : replies_at next s ≡ told_at m s ++ o.replies = ap (with_replies (told_at next s)) is ∙ ap (λ (rs : List Reply). rs ++ o.replies) told in
        let was : replies_at m s ≡ told_at m s = ap (with_replies (told_at m s)) closed in
        let one = ap (λ (rs : List Reply). length rs) now in
        let other = ap (λ (rs : List Reply). length rs) was in
        let nothing = ap (λ (rs : List Reply). length rs) none in
        let text : length (statements_at next s) ≡ length (statements_at m s) = ap (λ (t : Script). length (session_at t s).statements) script in
        omega (arith, one, other, nothing, text, length-append (told_at m s) o.replies)

    pub begin_adds_none : (next : Machine) → Begins m s next → unanswered next s ≡ unanswered m s
    begin_adds_none next by = elim by.goes as (λ _. unanswered next s ≡ unanswered m s) [
      | inl first ↦
          let o : Open = opened m s (length m.began + 1) by.group in
          subst (λ (next : Machine). unanswered next s ≡ unanswered m s) (sym first.1)
          (begun_adds_none o refl by.closed (begun m s by.group) refl (set_same None None m.opens s (Some o) place.0 place.1) refl)
      | inr again ↦
          let o : Open = opened m s again.0 by.group in
          subst (λ (next : Machine). unanswered next s ≡ unanswered m s) (sym again.3)
          (begun_adds_none o refl by.closed (begun_again m s again.0 by.group) refl (set_same None None m.opens s (Some o) place.0 place.1) refl)
    ]

    -- and its group is open
    pub begin_opens : (next : Machine) → Begins m s next → (o : Open) × (open_at next s ≡ Some o) × (o.replies ≡ [])
    begin_opens next by = elim by.goes as (λ _. (o : Open) × (open_at next s ≡ Some o) × (o.replies ≡ [])) [
      | inl first ↦
          let o : Open = opened m s (length m.began + 1) by.group in
          (o, ap (λ (next : Machine). open_at next s) first.1 ∙ set_same None None m.opens s (Some o) place.0 place.1, refl)
      | inr again ↦
          let o : Open = opened m s again.0 by.group in
          (o, ap (λ (next : Machine). open_at next s) again.3 ∙ set_same None None m.opens s (Some o) place.0 place.1, refl)
    ]
