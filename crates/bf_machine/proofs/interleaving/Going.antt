-- A statement, a grant and a wait keep all.
use Rattle.std.proofs.Common.{◌≡◌, ◌≢◌, ℕ, zero, suc, ◌-◌, ◌≤◌, Bool, true, false, if◌then◌else◌, List, [], ◌∷◌, length, drop, take, Some, None, refl, sym, ap, subst, ◌∙◌, arith, inl, inr}
use Rattle.std.specs.Prelude.{Contains, nat_lt}
use Rattle.std.specs.Option.{option_map_or}
use Rattle.std.specs.List.{AllByRecursion}
use Rattle.std.proofs.lemmas.Bool.{cases_eq}
use Rattle.std.proofs.lemmas.Bool.Decides.{nat_tests}
use Rattle.std.proofs.lemmas.List.{length-set}
use Rattle.bf_locks.specs.declared.answer.LockAnswer.TheVariants.{Granted, Wait}
use Rattle.bf_locks.specs.declared.mode.Mode.{Mode}
use Rattle.bf_locks.specs.declared.name.LockName.{LockName}
use Rattle.bf_locks.specs.Locks.{held, wanted, IsJudged, after as after_grant}
use Rattle.bf_locks.specs.Modes.{join_of}
use Rattle.bf_locks.proofs.Held.{insert_cases, consistent_granted}
use Rattle.bf_tree.specs.declared.history.Entry.{Entry}
use Rattle.bf_tree.specs.declared.statement.Statement.{Statement}
use Rattle.bf_sql.specs.Database.{Database}
use Rattle.bf_sql.specs.History.{replayed}
use Rattle.bf_sql.specs.migrations.Plans.{prepared_of}
use Rattle.bf_machine.specs.interleaving.Groups.{footprint_in, pending_behind}
use Rattle.bf_machine.proofs.interleaving.Texts.{AreTexts}
use Rattle.bf_machine.specs.interleaving.Machines.{Group, Began, Open, Machine, open_at}
use Rattle.bf_machine.specs.interleaving.Kept.{CanBePutInto, IsKept, OpenGroupsReplay, LocksConsistent, DeathsAllowed, HasStart, IsCurrent, IsJoin, wanted as is_wanted, joined, SomeOf, Wants}
use Rattle.bf_machine.specs.interleaving.Events.{Executes, Asks, with_open, stepped, stands_inside, rest_of, text_of}
use Rattle.bf_machine.proofs.interleaving.Places.{set_same, set_other}
use Rattle.bf_machine.proofs.interleaving.Opens.{answer_keeps_open, exec_keeps_open}
use Rattle.bf_machine.proofs.interleaving.Narrow.{narrow_in, narrow_next}
use Rattle.bf_machine.proofs.interleaving.Others.{has_place, starts_differ}
use Rattle.bf_machine.proofs.interleaving.Putting.{next_puts}
use Rattle.bf_machine.proofs.interleaving.Storing.{each_with}

module _ (start : Database) (m : Machine) (kept : IsKept start m) (s : ℕ) (o : Open) (there : open_at m s ≡ Some o) where
  place : (1 ≤ s) × (s ≤ length m.opens)
  place = has_place m s o there

  -- EXEC: another open group in the place of one, with its start number and its text
  module _ (p : Open) (starts : p.start ≡ o.start) (groups : p.group ≡ o.group) where
    abbrev after : Machine
    after = with_open m s (Some p)

    here : open_at after s ≡ Some p
    here = set_same None None m.opens s (Some p) place.0 place.1

    elsewhere : (t : ℕ) → t ≢ s → open_at after t ≡ open_at m t
    elsewhere t apart = set_other None None m.opens s t (Some p) place.0 apart

    current_then : (t : ℕ) → IsCurrent m t → IsCurrent after t
    current_then t current = λ u before.
        let was = current u before in (
          was.0,
          elim (cases_eq u s) as (λ _. open_at after u ≡ None) [
            | inl same ↦
                let clash : None ≡ Some o = sym was.1 ∙ (ap (open_at m) same ∙ there) in
                absurd cc
            | inr apart ↦ elsewhere u apart ∙ was.1
          ],
        )

    turns_then : (history : List Entry) → AllByRecursion (λ d. IsCurrent m d.session) history → AllByRecursion (λ d. IsCurrent after d.session) history
    turns_then [] turns = tt
    turns_then (d ∷ history) turns = (current_then d.session turns.0, turns_then history turns.1)

    -- an open group then was open, with the same start number and text
    pub record WasOpen (t : ℕ) (q : Open) : Type 0 where
      pub was : Open
      pub is : open_at m t ≡ Some was
      pub start_so : q.start ≡ was.start
      pub group_so : q.group ≡ was.group

    was_open : (t : ℕ) (q : Open) → open_at after t ≡ Some q → WasOpen t q
    was_open t q is_open = elim (cases_eq t s) as (λ _. WasOpen t q) [
      | inl same ↦
          let both : Some p ≡ Some q = sym here ∙ (ap (open_at after) (sym same) ∙ is_open) in
          let one : p ≡ q = cc in
          record {
            was = o;
            is = ap (open_at m) same ∙ there;
            start_so = ap (λ (q : Open). q.start) (sym one) ∙ starts;
            group_so = ap (λ (q : Open). q.group) (sym one) ∙ groups;
          }
      | inr apart ↦ record { was = q; is = sym (elsewhere t apart) ∙ is_open; start_so = refl; group_so = refl }
    ]

    deaths_then : (n : ℕ) (b : Began) → DeathsAllowed start m n b → DeathsAllowed start after n b
    deaths_then n b was = record {
      each = was.each;
      sessions_differ = was.sessions_differ;
      ended = was.ended;
      last_ended = λ i t g q is_open is below has.
          let before = was_open b.session q is_open in
          was.last_ended i t g before.was before.is (sym before.start_so ∙ is) below has;
      later = was.later;
      most = was.most;
      retried = was.retried;
    }

    locks_then : LocksConsistent start after
    locks_then = record {
      apart = kept.locks_consistent.apart;
      owners = λ name owner mode is.
          let was = kept.locks_consistent.owners name owner mode is in
          elim (cases_eq was.0 s) as (λ _. (t : ℕ) × (q : Open) × (open_at after t ≡ Some q) × (q.start ≡ owner) × IsJoin start m.script m.history t q.group name mode) [
            | inl same ↦
                let both : Some was.1 ≡ Some o = sym was.2 ∙ (ap (open_at m) same ∙ there) in
                let one : was.1 ≡ o = cc in
                let group : was.1.group ≡ p.group = ap (λ (q : Open). q.group) one ∙ sym groups in (
                  s,
                  p,
                  here,
                  starts ∙ (ap (λ (q : Open). q.start) (sym one) ∙ was.3),
                  subst (λ (t : ℕ). IsJoin start m.script m.history t p.group name mode) same
                      (subst (λ (g : Group). IsJoin start m.script m.history was.0 g name mode) group was.4),
                )
            | inr apart ↦ (was.0, was.1, elsewhere was.0 apart ∙ was.2, was.3, was.4)
          ];
      starts = λ t q is_open.
          let before = was_open t q is_open in
          subst (λ (n : ℕ). HasStart m.began t q.group n) (sym before.start_so)
          (subst (λ (g : Group). HasStart m.began t g before.was.start) (sym before.group_so) (kept.locks_consistent.starts t before.was before.is));
      once = kept.locks_consistent.once;
      in_turn = λ t g n has. current_then t (kept.locks_consistent.in_turn t g n has);
      begun = λ t g n has. let was = kept.locks_consistent.begun t g n has in record { whole = was.whole; goes = was.goes };
      numbered = kept.locks_consistent.numbered;
      by_session = kept.locks_consistent.by_session;
      by_phase = kept.locks_consistent.by_phase;
    }

    pub exchange_keeps : CanBePutInto m.lazy p.pending → OpenGroupsReplay start after → IsKept start after
    exchange_keeps puts replay = record {
      within = kept.within;
      store_valid = record {
        seen_as = kept.store_valid.seen_as;
        narrow = kept.store_valid.narrow;
        by_pass = kept.store_valid.by_pass;
        puts = each_with m.opens s place.0 place.1 (λ q. CanBePutInto m.lazy q.pending) p puts kept.store_valid.puts;
      };
      shaped = record { opens = length-set m.opens (s - 1) (Some p) ∙ kept.shaped.opens; told = kept.shaped.told };
      history_legal = record {
        legal = kept.history_legal.legal;
        replay = kept.history_legal.replay;
        database = kept.history_legal.database;
        placed = kept.history_legal.placed;
        in_turn = turns_then m.history kept.history_legal.in_turn;
      };
      open_groups_replay = replay;
      locks_consistent = locks_then;
      causes_allowed = record { deaths = λ n b is. deaths_then n b (kept.causes_allowed.deaths n b is) };
    }

  -- GRANTED: the next statement's lock
  module _ (name : LockName) (mode : Mode) (wants : Wants start m.script m.history s o.group name mode) where
    abbrev granted : Machine
    granted = record m { locks = after_grant m.locks o.start name mode Granted }

    -- what the owner holds of the name then is a join of what it wants
    pub joins : IsJoin start m.script m.history s o.group name (wanted m.locks o.start name mode)
    joins = elim (held m.locks name o.start) as (λ h. held m.locks name o.start ≡ h → IsJoin start m.script m.history s o.group name (option_map_or (λ before. join_of before mode) h mode)) [
      | None ↦ λ is. is_wanted wants
      | Some before ↦ λ is.
          let was = kept.locks_consistent.owners name o.start before is in
          let mine : IsJoin start m.script m.history s o.group name before = elim (cases_eq was.0 s) as (λ _. IsJoin start m.script m.history s o.group name before) [
            | inl same ↦
                let both : Some was.1 ≡ Some o = sym was.2 ∙ (ap (open_at m) same ∙ there) in
                let one : was.1 ≡ o = cc in
                subst (λ (t : ℕ). IsJoin start m.script m.history t o.group name before) same
                (subst (λ (g : Group). IsJoin start m.script m.history was.0 g name before) (ap (λ (q : Open). q.group) one) was.4)
            | inr apart ↦
                absurd (starts_differ m.began s was.0 o.group was.1.group o.start was.1.start apart
                (kept.locks_consistent.starts was.0 was.1 was.2) (kept.locks_consistent.starts s o there) was.3)
          ] in
          joined mine (is_wanted wants)
    ] refl

    pub grant_keeps : IsJudged m.locks o.start name mode Granted → IsKept start granted
    grant_keeps none = record {
      within = kept.within;
      store_valid = record {
        seen_as = kept.store_valid.seen_as;
        narrow = kept.store_valid.narrow;
        by_pass = kept.store_valid.by_pass;
        puts = kept.store_valid.puts;
      };
      shaped = record { opens = kept.shaped.opens; told = kept.shaped.told };
      history_legal = record {
        legal = kept.history_legal.legal;
        replay = kept.history_legal.replay;
        database = kept.history_legal.database;
        placed = kept.history_legal.placed;
        in_turn = kept.history_legal.in_turn;
      };
      open_groups_replay = answer_keeps_open start m kept s o.start name mode Granted;
      locks_consistent = record {
        apart = consistent_granted m.locks o.start name mode none kept.locks_consistent.apart;
        owners = λ at owner mode_held is. elim (insert_cases m.locks name o.start (wanted m.locks o.start name mode) at owner)
            as (λ _. (t : ℕ) × (q : Open) × (open_at granted t ≡ Some q) × (q.start ≡ owner) × IsJoin start m.script m.history t q.group at mode_held) [
              | inl new ↦
                  let both : Some (wanted m.locks o.start name mode) ≡ Some mode_held = sym new.2 ∙ is in
                  let one : wanted m.locks o.start name mode ≡ mode_held = cc in (
                    s,
                    o,
                    there,
                    sym new.1,
                    subst (λ (n : LockName). IsJoin start m.script m.history s o.group n mode_held) (sym new.0)
                        (subst (λ (k : Mode). IsJoin start m.script m.history s o.group name k) one joins),
                  )
              | inr kept_so ↦ kept.locks_consistent.owners at owner mode_held (sym kept_so ∙ is)
            ];
        starts = kept.locks_consistent.starts;
        once = kept.locks_consistent.once;
        in_turn = kept.locks_consistent.in_turn;
        begun = λ t g n has. let was = kept.locks_consistent.begun t g n has in record { whole = was.whole; goes = was.goes };
        numbered = kept.locks_consistent.numbered;
        by_session = kept.locks_consistent.by_session;
        by_phase = kept.locks_consistent.by_phase;
      };
      causes_allowed = record {
        deaths = λ n b is.
            let was = kept.causes_allowed.deaths n b is in record {
              each = was.each;
              sessions_differ = was.sessions_differ;
              ended = was.ended;
              last_ended = was.last_ended;
              later = was.later;
              most = was.most;
              retried = was.retried;
            };
      };
    }

-- one of the statements of a text, where some of them stand before it
some_of : (P : Bool → Statement → Type 0) (inner : Bool) (k : ℕ) (text : List Statement) (st : Statement) (later : List Statement)
    → drop k text ≡ st ∷ later → P (if nat_lt 0 k then true else inner) st → SomeOf P inner text
some_of P inner zero [] st later left here = absurd cc
some_of P inner zero (x ∷ text) st later left here =
    let same : x ≡ st = cc in
    inl (subst (λ (y : Statement). P inner y) (sym same) here)
some_of P inner (suc k) [] st later left here = absurd cc
some_of P inner (suc k) (x ∷ text) st later left here =
    let inside : (if nat_lt 0 k then true else true) ≡ true = elim (nat_lt 0 k) as (λ b. (if b then true else true) ≡ true) [ true ↦ refl | false ↦ refl ] in
    let at : nat_lt 0 (suc k) ≡ true = grind (arith, nat_tests) in
    let now : P true st = rw at at here in
    inr (some_of P true k text st later left (rw inside now))

module _ (start : Database) (m : Machine) (kept : IsKept start m) (s : ℕ) where
  -- what the next statement asks for its group wants
  pub next_wants : (o : Open) (st : Statement) (later : List Statement) → rest_of m s o ≡ st ∷ later → (k : ℕ) (name : LockName) (mode : Mode)
      → Contains (footprint_in (replayed m.script start (take k m.history)).1 (stands_inside o.replies) st) (name, mode) → Wants start m.script m.history s o.group name mode
  next_wants o st later left k name mode among =
      let P : Bool → Statement → Type 0 = λ inner st. Contains (footprint_in (replayed m.script start (take k m.history)).1 inner st) (name, mode) in
      let inside : (if nat_lt 0 (length o.replies) then true else false) ≡ stands_inside o.replies =
      elim o.replies as (λ rs. (if nat_lt 0 (length rs) then true else false) ≡ stands_inside rs) [
        | [] ↦ refl
        | r ∷ rs ↦ let at : nat_lt 0 (suc (length rs)) ≡ true = grind (arith, nat_tests) in rw at refl
      ] in
      (k, some_of P false (length o.replies) (text_of m s o) st later left (rw inside among))

  -- what a statement leaves can be put
  step_puts : (next : Machine) → (by : Executes m s next) → CanBePutInto m.lazy (stepped m s by.o by.statement by.bound).pending
  step_puts next by =
      let valid = kept.store_valid in
      let inside = stands_inside by.o.replies in
      let narrow = narrow_next (text_of m s by.o) (narrow_in m.script kept.within s by.o.group) (length by.o.replies) by.statement by.later by.left in
      let P : Database → Type 0 = λ db. prepared_of db inside by.statement ≡ Some by.bound → CanBePutInto m.lazy (pending_behind db by.o.pending inside by.statement by.bound.action) in
      (subst P valid.seen_as.view
      (λ is_bound. next_puts m.lazy valid.seen_as.lazy_state inside by.statement by.goes_on by.bound is_bound by.moved narrow.migrates by.o.pending (valid.puts s by.o by.is)))
      by.bound_so

  -- EXEC KEEPS ALL
  pub exec_keeps_all : AreTexts m.script → (next : Machine) → Executes m s next → IsKept start next
  exec_keeps_all texts next by =
      subst (IsKept start) (sym by.goes)
      (exchange_keeps start m kept s by.o by.is (stepped m s by.o by.statement by.bound) refl refl (step_puts next by)
      (exec_keeps_open start m kept s texts by.o by.is by.statement by.later by.left by.goes_on by.bound by.bound_so by.held))

  -- GRANTED KEEPS ALL
  pub grant_keeps_all : (name : LockName) (mode : Mode) (next : Machine) → Asks m s start name mode Granted next → IsKept start next
  grant_keeps_all name mode next by =
      subst (IsKept start) (sym by.goes)
      (grant_keeps start m kept s by.o by.is name mode (next_wants by.o by.statement by.later by.left by.prefix name mode by.asks) by.judged)

  -- WAITING changes nothing
  pub wait_keeps_all : (name : LockName) (mode : Mode) (owners : List ℕ) (next : Machine) → Asks m s start name mode (Wait owners) next → IsKept start next
  wait_keeps_all name mode owners next by = subst (IsKept start) (sym by.goes) kept
