-- A group's end, by a commit, an abort or a death, keeps locks and causes.
use Rattle.std.proofs.Common.{◌≡◌, ◌≢◌, ◌⊎◌, ℕ, ◌+◌, ◌-◌, ◌<◌, ◌≤◌, List, [], ◌∷◌, ◌++◌, length, Some, None, sym, ap, subst, ◌∙◌, arith, inl, inr}
use Rattle.std.specs.Prelude.{Contains, nat_le}
use Rattle.std.proofs.lemmas.Bool.{cases_Bool, cases_eq}
use Rattle.std.proofs.lemmas.Bool.Decides.{nat_tests}
use Rattle.std.proofs.lemmas.List.{length-set}
use Rattle.bf_locks.specs.declared.mode.Mode.{Mode}
use Rattle.bf_locks.specs.declared.name.LockName.{LockName}
use Rattle.bf_locks.specs.Locks.{held, without_owner}
use Rattle.bf_locks.proofs.Held.{held_without_own, held_without_other, consistent_without}
use Rattle.bf_tree.specs.declared.history.Entry.{Entry}
use Rattle.bf_tree.specs.declared.reply.Reply.{Reply}
use Rattle.bf_tree.specs.declared.script.Script.{Script}
use Rattle.bf_sql.specs.Database.{Database}
use Rattle.bf_sql.specs.Groups.{groups_in}
use Rattle.bf_machine.specs.interleaving.Machines.{Group, Began, Open, Machine, open_at, told_at}
use Rattle.bf_machine.specs.interleaving.Kept.{IsKept, HistoryLegal, OpenGroupsReplay, LocksConsistent, CausesAllowed, DeathsAllowed, HasBegun, HasStart, HasEnded, DiedFor, IsCurrent, IsJoin, wanted, joined}
use Rattle.bf_machine.specs.interleaving.Events.{ended}
use Rattle.bf_machine.proofs.interleaving.Places.{set_same, set_other}
use Rattle.bf_machine.proofs.interleaving.Legal.{wants_more}
use Rattle.bf_machine.proofs.interleaving.Others.{has_place}
use Rattle.bf_machine.proofs.interleaving.Storing.{KeepsRest}
use Rattle.bf_machine.proofs.interleaving.Telling.{grows, size_here, told_there}
use Rattle.bf_machine.proofs.interleaving.Texts.{are_texts, one_first, one_group}

pub join_more : (start : Database) (script : Script) (history : List Entry) (e : Entry) (s : ℕ) (group : Group) (name : LockName) (mode : Mode)
    → IsJoin start script history s group name mode → IsJoin start script (history ++ e ∷ []) s group name mode
join_more start script history e s group name _ (wanted {mode = mode} w) = wanted (wants_more start script history e s group name mode w)
join_more start script history e s group name _ (joined {a = a} {b = b} x y) =
    joined (join_more start script history e s group name a x) (join_more start script history e s group name b y)

-- the start numbers of groups, what they want, and what their deaths named stay where one group ends
pub record StaysAtEnd (start : Database) (m : Machine) (began : List Began) (history : List Entry) : Type 0 where
  pub start_then : (t : ℕ) (g : Group) (n : ℕ) → HasStart m.began t g n → HasStart began t g n
  pub start_was : (t : ℕ) (g : Group) (n : ℕ) → HasStart began t g n → HasStart m.began t g n
  pub join_then : (t : ℕ) (g : Group) (name : LockName) (mode : Mode) → IsJoin start m.script m.history t g name mode → IsJoin start m.script history t g name mode
  pub died_then : (t : ℕ) (g : Group) (h : ℕ) → DiedFor start m.script m.began m.history t g h → DiedFor start m.script began history t g h

module _ (start : Database) (m : Machine) (kept : IsKept start m) (s : ℕ) (o : Open) (there : open_at m s ≡ Some o) (answers : List Reply)
    (closes : (answers ≡ []) ⊎ (o.group.1 ≡ length (told_at m s) + length answers)) (db : Database) (began : List Began) (history : List Entry) (stays : StaysAtEnd start m began history) where
  abbrev after : Machine
  after = record (ended m s o answers) { db = db; began = began; history = history }

  place : (1 ≤ s) × (s ≤ length m.opens)
  place = has_place m s o there

  told_place : s ≤ length m.told
  told_place = omega (arith, place.1, kept.shaped.opens, kept.shaped.told)

  more : (t : ℕ) → length (told_at m t) ≤ length (told_at after t)
  more t = grows m s answers place.0 told_place t

  -- what is open then was open, in another session
  pub was_open : (t : ℕ) (p : Open) → open_at after t ≡ Some p → (t ≢ s) × (open_at m t ≡ Some p)
  was_open t p is_open = elim (cases_eq t s) as (λ _. (t ≢ s) × (open_at m t ≡ Some p)) [
    | inl same ↦
        let none : open_at after t ≡ None = ap (open_at after) same ∙ set_same None None m.opens s None place.0 place.1 in
        let clash : None ≡ Some p = sym none ∙ is_open in
        absurd cc
    | inr apart ↦ (apart, sym (set_other None None m.opens s t None place.0 apart) ∙ is_open)
  ]

  still_open : (t : ℕ) (p : Open) → t ≢ s → open_at m t ≡ Some p → open_at after t ≡ Some p
  still_open t p apart is_open = set_other None None m.opens s t None place.0 apart ∙ is_open

  pub current_then : (t : ℕ) → IsCurrent m t → IsCurrent after t
  current_then t current = λ u before.
      let was = current u before in (
        omega (arith, was.0, more u),
        elim (cases_eq u s) as (λ _. open_at after u ≡ None) [
          | inl same ↦ ap (open_at after) same ∙ set_same None None m.opens s None place.0 place.1
          | inr apart ↦ set_other None None m.opens s u None place.0 apart ∙ was.1
        ],
      )

  -- the next group of a session, where that is the ended one's
  next_then : (t : ℕ) (g : Group) → Contains (groups_in m.script t) g → t ≡ s → g.0 ≡ length (told_at m t) + 1 → HasEnded after t g ⊎ (g.0 ≡ length (told_at after t) + 1)
  next_then t g whole same next = elim closes as (λ _. HasEnded after t g ⊎ (g.0 ≡ length (told_at after t) + 1)) [
    | inl none ↦
        let sizes : length (told_at after t) ≡ length (told_at m t) + length answers =
        ap (λ (t : ℕ). length (told_at after t)) same ∙ (size_here m s answers place.0 told_place ∙ ap (λ (t : ℕ). length (told_at m t) + length answers) (sym same)) in
        let zero_more : length answers ≡ 0 = ap (λ (rs : List Reply). length rs) none in
        inr (omega (arith, next, sizes, zero_more))
    | inr all ↦
        let own = kept.open_groups_replay.each s o there in
        let here : Contains (groups_in m.script s) g = subst (λ (t : ℕ). Contains (groups_in m.script t) g) same whole in
        let begins : g.0 ≡ length (told_at m s) + 1 = next ∙ ap (λ (t : ℕ). length (told_at m t) + 1) same in
        let one : g ≡ o.group = one_first m.script s g o.group here own.whole (begins ∙ sym own.next) in
        let last : g.1 ≡ o.group.1 = ap (λ (g : Group). g.1) one in
        let sizes : length (told_at after t) ≡ length (told_at m s) + length answers =
        ap (λ (t : ℕ). length (told_at after t)) same ∙ size_here m s answers place.0 told_place in
        inl (omega (arith, last, all, sizes))
  ]

  begun_then : (t : ℕ) (g : Group) → HasBegun start m t g → HasBegun start after t g
  begun_then t g was = record {
    whole = was.whole;
    goes = elim was.goes as (λ _. HasEnded after t g ⊎ (g.0 ≡ length (told_at after t) + 1)) [
      | inl has_ended ↦ inl (omega (arith, has_ended, more t))
      | inr next ↦ elim (cases_eq t s) as (λ _. HasEnded after t g ⊎ (g.0 ≡ length (told_at after t) + 1)) [
        | inl same ↦ next_then t g was.whole same next
        | inr apart ↦ inr (next ∙ ap (λ (rs : List Reply). length rs + 1) (sym (told_there m s answers place.0 told_place t apart)))
      ]
    ];
  }

  -- what has ended then had ended, or is the group
  numbered_then : (t : ℕ) (g : Group) → Contains (groups_in m.script t) g → HasEnded after t g → (n : ℕ) × HasStart began t g n
  numbered_then t g whole has_ended = elim (cases_Bool (nat_le g.1 (length (told_at m t)))) as (λ _. (n : ℕ) × HasStart began t g n) [
    | inl low ↦
        let before : HasEnded m t g = grind (arith, nat_tests, low) in
        let was = kept.locks_consistent.numbered t g whole before in
        (was.0, stays.start_then t g was.0 was.1)
    | inr high ↦
        let above : length (told_at m t) < g.1 = grind (arith, nat_tests, high) in
        elim (cases_eq t s) as (λ _. (n : ℕ) × HasStart began t g n) [
          | inr apart ↦
              let same : length (told_at after t) ≡ length (told_at m t) = ap (λ (rs : List Reply). length rs) (told_there m s answers place.0 told_place t apart) in
              absurd (omega (arith, same, above, has_ended))
          | inl same ↦
              let own = kept.open_groups_replay.each s o there in
              let here : Contains (groups_in m.script s) g = subst (λ (t : ℕ). Contains (groups_in m.script t) g) same whole in
              let over : length (told_at m s) < g.1 = subst (λ (t : ℕ). length (told_at m t) < g.1) same above in
              let within : g.1 ≤ length (told_at after s) = subst (λ (t : ℕ). g.1 ≤ length (told_at after t)) same has_ended in
              let sizes = size_here m s answers place.0 told_place in
              let last : g.1 ≤ o.group.1 = elim closes [
                | inl none ↦ let zero_more : length answers ≡ 0 = ap (λ (rs : List Reply). length rs) none in absurd (omega (arith, over, within, sizes, zero_more))
                | inr all ↦ omega (arith, within, sizes, all)
              ] in
              let one : g ≡ o.group = one_group m.script s g o.group here own.whole g.1 ((are_texts m.script).bounds s g here).1 (omega arith) (omega (arith, own.next, over)) last in
              (o.start, subst (λ (t : ℕ). HasStart began t g o.start) (sym same) (subst (λ (g : Group). HasStart began s g o.start) (sym one) (stays.start_then s o.group o.start (kept.locks_consistent.starts s o there))))
        ]
  ]

  end_keeps_locks : LocksConsistent start after
  end_keeps_locks = record {
    apart = consistent_without m.locks o.start kept.locks_consistent.apart;
    owners = λ name owner mode is. elim (cases_eq owner o.start)
        as (λ _. (t : ℕ) × (p : Open) × (open_at after t ≡ Some p) × (p.start ≡ owner) × IsJoin start m.script history t p.group name mode) [
          | inl own ↦
              let none = held_without_own m.locks o.start name in
              let clash : None ≡ Some mode = sym none ∙ (ap (held (without_owner m.locks o.start) name) (sym own) ∙ is) in
              absurd cc
          | inr apart ↦
              let was = kept.locks_consistent.owners name owner mode (sym (held_without_other m.locks o.start name owner apart) ∙ is) in
              let other : was.0 ≢ s = λ same.
              let both : Some was.1 ≡ Some o = sym was.2 ∙ (ap (open_at m) same ∙ there) in
              let one : was.1 ≡ o = cc in
              apart (sym was.3 ∙ ap (λ (p : Open). p.start) one) in
              (was.0, was.1, still_open was.0 was.1 other was.2, was.3, stays.join_then was.0 was.1.group name mode was.4)
        ];
    starts = λ t p is_open. stays.start_then t p.group p.start (kept.locks_consistent.starts t p (was_open t p is_open).1);
    once = λ t g i j x y. kept.locks_consistent.once t g i j (stays.start_was t g i x) (stays.start_was t g j y);
    in_turn = λ t g n x. current_then t (kept.locks_consistent.in_turn t g n (stays.start_was t g n x));
    begun = λ t g n x. begun_then t g (kept.locks_consistent.begun t g n (stays.start_was t g n x));
    numbered = numbered_then;
    by_session = λ t one other i j x y before. omega (arith, kept.locks_consistent.by_session t one other i j (stays.start_was t one i x) (stays.start_was t other j y) before, more t);
    by_phase = λ t u one other i j x y before. kept.locks_consistent.by_phase t u one other i j (stays.start_was t one i x) (stays.start_was u other j y) before;
  }

  pub deaths_then : (n : ℕ) (b : Began) → DeathsAllowed start m n b → DeathsAllowed start after n b
  deaths_then n b was = record {
    each = λ h among. stays.died_then b.session b.group h (was.each h among);
    sessions_differ = λ i j t one other li lj x y. was.sessions_differ i j t one other li lj (stays.start_was t one _ x) (stays.start_was t other _ y);
    ended = λ i t g below has. omega (arith, was.ended i t g below (stays.start_was t g _ has), more t);
    last_ended = λ i t g p is_open is below has. omega (arith, was.last_ended i t g p (was_open b.session p is_open).1 is below (stays.start_was t g _ has), more t);
    later = λ h t k one other among x y before. was.later h t k one other among (stays.start_was t one h x) (stays.start_was t other k y) before;
    most = was.most;
    retried = elim was.retried as (λ _. (length b.deaths ≤ m.retries) ⊎ HasEnded after b.session b.group) [
      | inl few ↦ inl few
      | inr has_ended ↦ inr (omega (arith, has_ended, more b.session))
    ];
  }

  -- ALL but the store is kept, where the history is legal, the open groups replay, and what deaths named is allowed
  pub end_keeps : HistoryLegal start after → OpenGroupsReplay start after → CausesAllowed start after → KeepsRest start after
  end_keeps legal replay causes = record {
    within = kept.within;
    shaped = record {
      opens = length-set m.opens (s - 1) None ∙ kept.shaped.opens;
      told = length-set m.told (s - 1) (told_at m s ++ answers) ∙ kept.shaped.told;
    };
    history_legal = legal;
    open_groups_replay = replay;
    locks_consistent = end_keeps_locks;
    causes_allowed = causes;
  }
