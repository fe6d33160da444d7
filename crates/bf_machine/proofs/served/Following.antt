-- Of the last migration has moved what the statements of the history needed, and then those of a session's open group: so it is still where the session has gone on.
use Rattle.std.proofs.Common.{◌≡◌, ℕ, zero, suc, ◌≤◌, Bool, true, false, List, [], ◌∷◌, ◌++◌, length, take, drop, Option, Some, None, refl, sym, ap, ap₂, subst, ◌∙◌, arith, inl, inr, append-nil}
use Rattle.std.specs.Prelude.{IsTrue}
use Rattle.std.specs.List.{list_all}
use Rattle.std.specs.Option.{option_map_or}
use Rattle.std.proofs.lemmas.Bool.{false≢true}
use Rattle.std.proofs.lemmas.List.{length-take-le, take_all}
use Rattle.bf_locks.specs.Locks.{Locks}
use Rattle.bf_tree.specs.declared.history.Entry.{Entry}
use Rattle.bf_tree.specs.declared.plan.Plan.{Plan}
use Rattle.bf_tree.specs.declared.reply.Reply.{Reply}
use Rattle.bf_tree.specs.declared.script.Script.{Script}
use Rattle.bf_tree.specs.declared.statement.Statement.{Statement}
use Rattle.bf_tree.specs.declared.statement.Statement.TheVariants.{Begin}
use Rattle.bf_sql.specs.Bound.{changes_schema}
use Rattle.bf_sql.specs.Database.{Database}
use Rattle.bf_sql.specs.Groups.{ends_block, statements_of}
use Rattle.bf_sql.specs.History.{commits_with, is_whole_group, replayed, replayed_behind, run_group, settled}
use Rattle.bf_sql.specs.Meaning.{executed}
use Rattle.bf_live.specs.OpenGroups.{Answered}
use Rattle.bf_machine.specs.Movement.{Moving, movement, moving_behind, moving_in, moving_over, moving_seen, with_need}
use Rattle.bf_machine.specs.declared.stand.Turn.{Turn}
use Rattle.bf_machine.specs.interleaving.Events.{put_into, stands_inside, text_of}
use Rattle.bf_machine.specs.interleaving.Groups.{Flip, HasRun, IsSchemaStep, NewIndex, NewTable, Nothing, Pending, Rows, answered_by, left_by}
use Rattle.bf_machine.specs.interleaving.Kept.{IsKept, IsOpenGroup}
use Rattle.bf_machine.specs.interleaving.Machines.{Machine, Open, these, answered_in, open_at}
use Rattle.bf_machine.specs.interleaving.Serving.{CanGo, HasAnswered, HasEndedAlone, HasGoneOn, HasMore, IsAlone, IsEnteredWith, IsFollowed, IsRecorded, IsTurn, answered_text, is_in_block, last_behind, sees}
use Rattle.bf_machine.proofs.interleaving.Running.{inside, ran}
use Rattle.bf_machine.proofs.interleaving.Texts.{IsText, are_texts, block, lone}
use Rattle.bf_machine.proofs.served.Behind.{IsFlip, end_begins_none, end_needs_none, put_last, put_same}
use Rattle.bf_machine.proofs.served.Ending.{alone_goes_on, served_goes_on}
use Rattle.bf_machine.proofs.served.Ran.{group_of, last_in}

-- whether what comes behind some statements of a group stands in its block
abbrev inner : Bool → List Statement → Bool
inner b [] = b
inner b (s ∷ ss) = true

inner_stays : (ss : List Statement) → inner true ss ≡ true
inner_stays [] = refl
inner_stays (s ∷ ss) = refl

-- ONE STATEMENT MORE, on the database that those before it make
in_more : (last : Option Moving) (b : Bool) (db : Database) (ss : List Statement) (s : Statement) → moving_in last b db (ss ++ s ∷ []) ≡ moving_behind (moving_in last b db ss) (run_group 0 b db ss).1 (inner b ss) s
in_more last b db [] s = refl
in_more last b db (t ∷ ss) s =
    in_more (moving_behind last db b t) true (executed 0 db b t).1 ss s
    ∙ ap (λ (i : Bool). moving_behind (moving_in last b db (t ∷ ss)) (run_group 0 b db (t ∷ ss)).1 i s) (inner_stays ss)

-- ONE ENTRY MORE, on the database that the replay of those before it makes
over_more : (last : Option Moving) (n : ℕ) (script : Script) (db : Database) (es : List Entry) (e : Entry)
    → moving_over last n script db (es ++ e ∷ []) ≡ moving_in (moving_over last n script db es) false (replayed_behind n script db es).1 (statements_of script e)
over_more last n script db [] e = refl
over_more last n script db (d ∷ es) e =
    let commit = commits_with n d.outcome in
    over_more (moving_in last false db (statements_of script d)) commit script (settled commit db d.outcome (statements_of script d)).1 es e

-- THE ANSWERED STATEMENTS of an open group make the database that it is to leave
answered_short : (b : Bool) (rs : List Reply) (ss : List Statement) → answered_by b rs (take (length rs) ss) ≡ answered_by b rs ss
answered_short b [] ss = refl
answered_short b (r ∷ rs) [] = refl
answered_short b (r ∷ rs) (s ∷ ss) = ap (λ (more : List Answered). record { in_block = b; statement = s; reply = r } ∷ more) (answered_short true rs ss)

none_behind : {X : Type 0} (n : ℕ) (xs : List X) → drop n (take n xs) ≡ []
none_behind zero xs = refl
none_behind (suc n) [] = refl
none_behind (suc n) (x ∷ xs) = none_behind n xs

makes : (locks : Locks) (owner : ℕ) (db : Database) (p : Pending) (rs : List Reply) (ss : List Statement) → length rs ≤ length ss → HasRun locks owner db (answered_by false rs ss) p
    → (run_group 0 false db (take (length rs) ss)).1 ≡ left_by db p
makes locks owner db p rs ss within run =
    let short = take (length rs) ss in
    let size : length short ≡ length rs = length-take-le (length rs) ss within in
    let so : HasRun locks owner db (answered_by false rs short) p = subst (λ (told : List Answered). HasRun locks owner db told p) (sym (answered_short false rs ss)) run in
    ap (λ (t : List Reply × Database). t.1) (ran locks owner db 0 p rs short (omega (arith, size)) so)
    ∙ ap (λ (rest : List Statement). (run_group 0 (inside false rs) (left_by db p) rest).1) (none_behind (length rs) ss)

block_so : (rs : List Reply) (ss : List Statement) → length rs ≤ length ss → inner false (take (length rs) ss) ≡ stands_inside rs
block_so [] ss within = refl
block_so (r ∷ rs) [] within = absurd (omega (arith, within))
block_so (r ∷ rs) (s ∷ ss) within = refl

-- A FLIP is that of a lone statement, behind which none comes in its text
abbrev first_of : Statement → List Answered → Statement
first_of d [] = d
first_of d (a ∷ more) = a.statement

abbrev head_of : Statement → List Statement → Statement
head_of d [] = d
head_of d (s ∷ ss) = s

module _ (locks : Locks) (owner : ℕ) (db : Database) (change : Pending) (next : Statement) where
  not_longer : (k : ℕ) (text : List Statement) → IsText text → (t : Statement) (more : List Statement) → changes_schema false t ≡ true → 1 ≤ length more → take k text ≡ t ∷ more → ⊥
  not_longer zero text is t more changes some e = absurd cc
  not_longer (suc k) _ (lone s goes_on) t more changes some e =
      let sizes : length (take k none) ≡ length more = ap (λ (xs : List Statement). length (drop 1 xs)) e in
      omega (arith, sizes, few k, some)
    where
      none : List Statement
      none = []

      few : (k : ℕ) → length (take k none) ≡ 0
      few zero = refl
      few (suc k) = refl
  not_longer (suc k) _ (block ss) t more changes some e =
      let first : Begin ≡ t = ap (head_of Begin) e in
      false≢true (ap (changes_schema false) first ∙ changes)

  none_comes : (rs : List Reply) (ss : List Statement) → length rs ≤ length ss → IsSchemaStep locks owner db (answered_by false rs ss) change → (k : ℕ) (text : List Statement) → IsText text
      → take k text ≡ take (length rs) ss ++ next ∷ [] → ⊥
  none_comes [] ss within run k text is e = let sizes = ap (λ (more : List Answered). length more) run.alone in omega (arith, sizes)
  none_comes (r ∷ rs) [] within run k text is e = omega (arith, within)
  none_comes (r ∷ rs) (t ∷ ss) within run k text is e =
      let told : t ≡ run.statement = ap (first_of t) run.alone in
      not_longer k text is t (take (length rs) ss ++ next ∷ []) (ap (changes_schema false) told ∙ run.changes) (some (take (length rs) ss)) e
    where
      some : (xs : List Statement) → 1 ≤ length (xs ++ next ∷ [])
      some [] = omega arith
      some (x ∷ xs) = omega arith

-- where no group is open
module _ (m : Machine) (s : ℕ) (closed : open_at m s ≡ None) where
  pub last_closed : last_behind m s ≡ m.lazy.last
  last_closed = ap (λ (found : Option Open). option_map_or (λ (o : Open). (put_into m.lazy o.pending).last) found m.lazy.last) closed

  pub text_closed : answered_text m s ≡ []
  text_closed = ap (λ (found : Option Open). option_map_or (λ (o : Open). take (length o.replies) (text_of m s o)) found []) closed

  pub followed_if_closed : (start : Database) → moving_seen m.lazy.last ≡ movement m.script start m.history → IsFollowed m s start
  followed_if_closed start moved = ap moving_seen last_closed ∙ (moved ∙ sym (ap (moving_in (movement m.script start m.history) false m.db) text_closed))

  pub moved_if_followed : (start : Database) → IsFollowed m s start → moving_seen m.lazy.last ≡ movement m.script start m.history
  moved_if_followed start followed = sym (ap moving_seen last_closed) ∙ (followed ∙ ap (moving_in (movement m.script start m.history) false m.db) text_closed)

module _ {start : Database} (m : Machine) (kept : IsKept start m) (s : ℕ) where
  abbrev before : Option Moving
  before = movement m.script start m.history

  sees_is : (run_group 0 false m.db (answered_text m s)).1 ≡ sees m s
  sees_is = on (open_at m s) refl
    where
      on : (found : Option Open) → open_at m s ≡ found
          → (run_group 0 false m.db (option_map_or (λ (o : Open). take (length o.replies) (text_of m s o)) found [])).1 ≡ option_map_or (λ (o : Open). left_by m.db o.pending) found m.db
      on None e = refl
      on (Some o) e = let own = kept.open_groups_replay.each s o e in makes m.locks o.start m.db o.pending o.replies (text_of m s o) own.within own.run

  block_is : inner false (answered_text m s) ≡ is_in_block m s
  block_is = on (open_at m s) refl
    where
      on : (found : Option Open) → open_at m s ≡ found
          → inner false (option_map_or (λ (o : Open). take (length o.replies) (text_of m s o)) found []) ≡ option_map_or (λ (o : Open). stands_inside o.replies) found false
      on None e = refl
      on (Some o) e = let own = kept.open_groups_replay.each s o e in block_so o.replies (text_of m s o) own.within

  -- a statement more of the open group
  answered_more : (statement : Statement)
      → moving_in before false m.db (answered_text m s ++ statement ∷ []) ≡ moving_behind (moving_in before false m.db (answered_text m s)) (sees m s) (is_in_block m s) statement
  answered_more statement =
      in_more before false m.db (answered_text m s) statement
      ∙ ap₂ (λ (db : Database) (b : Bool). moving_behind (moving_in before false m.db (answered_text m s)) db b statement) sees_is block_is

  module _ (next : Machine) (kept_next : IsKept start next) (script : next.script ≡ m.script) where
    -- an entry more
    entered : (e : Entry) → next.history ≡ m.history ++ e ∷ [] → movement next.script start next.history ≡ moving_in before false m.db (statements_of m.script e)
    entered e more =
        ap₂ (λ (k : Script) (es : List Entry). movement k start es) script more
        ∙ (over_more None 0 m.script start m.history e ∙ ap (λ (db : Database). moving_in before false db (statements_of m.script e)) (sym kept.history_legal.replay))

    -- no entry more
    same_before : next.history ≡ m.history → movement next.script start next.history ≡ before
    same_before same = ap₂ (λ (k : Script) (es : List Entry). movement k start es) script same

    same_db : next.history ≡ m.history → next.db ≡ m.db
    same_db same = kept_next.history_legal.replay ∙ (ap₂ (λ (k : Script) (es : List Entry). (replayed k start es).1) script same ∙ sym kept.history_legal.replay)

    entry_text : (e : Entry) → next.history ≡ m.history ++ e ∷ [] → IsText (statements_of m.script e)
    entry_text e more =
        let whole : IsTrue (list_all (is_whole_group m.script) (m.history ++ e ∷ [])) =
        subst (λ (es : List Entry). IsTrue (list_all (is_whole_group m.script) es)) more
        (subst (λ (k : Script). IsTrue (list_all (is_whole_group k) next.history)) script kept_next.history_legal.legal.whole_groups) in
        (are_texts m.script).shape e.session (e.first, e.last) (group_of m.script (m.history ++ e ∷ []) whole e (last_in m.history e))

    -- no flip is pending where a statement more has its reply
    no_flip : (statement : Statement) → IsRecorded m s (statement ∷ []) next → (o : Open) → open_at m s ≡ Some o → (plan : Plan) → o.pending ≡ Flip plan → ⊥
    no_flip statement recorded o is plan flips = elim recorded as (λ _. ⊥) [
      | inl on ↦
          let its = kept_next.open_groups_replay.each s on.o on.is in
          let then : answered_text next s ≡ take (length on.o.replies) (text_of next s on.o) =
          ap (λ (found : Option Open). option_map_or (λ (o : Open). take (length o.replies) (text_of next s o)) found []) on.is in
          none_comes m.locks o.start m.db (Flip plan) statement o.replies (text_of m s o) own.within run (length on.o.replies) (text_of next s on.o)
          ((are_texts next.script).shape s on.o.group its.whole) (sym then ∙ (on.text ∙ ap (λ (ss : List Statement). ss ++ statement ∷ []) now))
      | inr (inl by) ↦
          let whole = statements_of m.script by.entry in
          none_comes m.locks o.start m.db (Flip plan) statement o.replies (text_of m s o) own.within run (length whole) whole (entry_text by.entry by.history)
          (take_all (length whole) whole (omega arith) ∙ (by.text ∙ ap (λ (ss : List Statement). ss ++ statement ∷ []) now))
      | inr (inr stray) ↦
          let clash : None ≡ Some o = sym stray.closed ∙ is in
          absurd cc
    ]
      where
        own : IsOpenGroup start m s o
        own = kept.open_groups_replay.each s o is

        run : IsSchemaStep m.locks o.start m.db (answered_in m.script s o) (Flip plan)
        run = subst (HasRun m.locks o.start m.db (answered_in m.script s o)) flips own.run

        now : answered_text m s ≡ take (length o.replies) (text_of m s o)
        now = ap (λ (found : Option Open). option_map_or (λ (o : Open). take (length o.replies) (text_of m s o)) found []) is

    plain_last : (statement : Statement) → IsRecorded m s (statement ∷ []) next → last_behind m s ≡ m.lazy.last
    plain_last statement recorded = on (open_at m s) refl
      where
        flips : (o : Open) → open_at m s ≡ Some o → (p : Pending) → o.pending ≡ p → IsFlip p → ⊥
        flips o e (Flip plan) same flip = no_flip statement recorded o e plan same
        flips o e (Rows writes) same flip = flip
        flips o e (NewTable table) same flip = flip
        flips o e (NewIndex index) same flip = flip
        flips o e Nothing same flip = flip

        on : (found : Option Open) → open_at m s ≡ found → option_map_or (λ (o : Open). (put_into m.lazy o.pending).last) found m.lazy.last ≡ m.lazy.last
        on None e = refl
        on (Some o) e = put_last m.lazy o.pending (flips o e o.pending refl)

    -- a statement more has its reply
    answered_followed : HasAnswered m s next → HasMore next s → IsFollowed m s start → IsFollowed next s start
    answered_followed by more followed = elim by.recorded as (λ _. IsFollowed next s start) [
      | inl on ↦
          let here : last_behind next s ≡ (put_into next.lazy on.o.pending).last =
          ap (λ (found : Option Open). option_map_or (λ (o : Open). (put_into next.lazy o.pending).last) found next.lazy.last) on.is in
          let plain : last_behind next s ≡ next.lazy.last = here ∙ put_same next kept_next s on.o on.is (inl (more on.o on.is)) in
          ap moving_seen plain
          ∙ (then ∙ (sym (answered_more by.statement)
          ∙ (ap₂ (λ (last : Option Moving) (db : Database). moving_in last false db (answered_text m s ++ by.statement ∷ [])) (sym (same_before on.history)) (sym (same_db on.history))
          ∙ ap (moving_in (movement next.script start next.history) false next.db) (sym on.text))))
      | inr (inl by_entry) ↦
          followed_if_closed next s by_entry.closed start
          (then ∙ (sym (answered_more by.statement) ∙ (ap (moving_in before false m.db) (sym by_entry.text) ∙ sym (entered by_entry.entry by_entry.history))))
      | inr (inr stray) ↦
          let same : by.statement ≡ stray.statement = ap (head_of by.statement) stray.is in
          let ends : ends_block by.statement ≡ true = ap ends_block same ∙ stray.ends in
          let was : moving_seen m.lazy.last ≡ before = moved_if_followed m s stray.closed start followed in
          let stays : moving_behind (moving_seen m.lazy.last) (sees m s) (is_in_block m s) by.statement ≡ moving_seen m.lazy.last =
          end_begins_none (with_need (moving_seen m.lazy.last) (sees m s) (is_in_block m s) by.statement) (sees m s) (is_in_block m s) by.statement ends
          ∙ end_needs_none m.lazy.last (sees m s) (is_in_block m s) by.statement ends in
          followed_if_closed next s stray.still start (by.moved ∙ (stays ∙ (was ∙ sym (same_before stray.history))))
    ]
      where
        then : moving_seen next.lazy.last ≡ moving_behind (moving_in before false m.db (answered_text m s)) (sees m s) (is_in_block m s) by.statement
        then =
            by.moved
            ∙ ap (λ (last : Option Moving). moving_behind last (sees m s) (is_in_block m s) by.statement)
            (sym (ap moving_seen (plain_last by.statement by.recorded)) ∙ followed)

    -- its open group alone has ended
    ended_followed : HasEndedAlone m s next → IsFollowed m s start → IsFollowed next s start
    ended_followed by followed =
        let by_entry : IsEnteredWith m s [] next = by.recorded in
        let here : last_behind m s ≡ (put_into m.lazy by.o.pending).last =
        ap (λ (found : Option Open). option_map_or (λ (o : Open). (put_into m.lazy o.pending).last) found m.lazy.last) by.is in
        followed_if_closed next s by.closed start
        (by.moved ∙ (sym (ap moving_seen here)
        ∙ (followed ∙ (ap (moving_in before false m.db) (sym (by_entry.text ∙ append-nil (answered_text m s))) ∙ sym (entered by_entry.entry by_entry.history)))))

  -- FOLLOWED STAYS
  pub followed_stays : (next : Machine) → IsKept start next → HasGoneOn m s start next → IsFollowed m s start → IsFollowed next s start
  followed_stays next kept_next gone followed = elim gone.goes as (λ _. IsFollowed next s start) [
    | inl one ↦ answered_followed next kept_next gone.serves.script one gone.more followed
    | inr ended ↦ ended_followed next kept_next gone.serves.script ended followed
  ]

-- where nothing is open, a session's turn and the end of its group move what they need
pub served_moves : {start : Database} (m : Machine) → IsKept start m → (s : ℕ) → ((u : ℕ) → open_at m u ≡ None) → CanGo m s → (t : Turn) (next : Machine) → IsKept start next → IsTurn m s start t next
    → m.may_end ≡ these [] → (then : Machine) → ((u : ℕ) → IsAlone next u → IsFollowed next u start → IsFollowed then u start) → ((u : ℕ) → open_at then u ≡ None)
    → moving_seen m.lazy.last ≡ movement m.script start m.history → moving_seen then.lazy.last ≡ movement then.script start then.history
served_moves {start = start} m kept s closed goes t next kept_next taken unlogged then rest closed_then moved =
    let gone = served_goes_on m s next (alone_goes_on m kept s t next taken (λ u apart. closed u) goes) unlogged in
    let behind : IsFollowed next s start = followed_stays m kept s next kept_next gone (followed_if_closed m s (closed s) start moved) in
    moved_if_followed then s (closed_then s) start (rest s (λ u apart. (gone.serves.beside u apart).0 ∙ closed u) behind)
