-- A session that is left, of the earliest phase of those that are, and the sessions whose turn it is by it.
use Rattle.std.proofs.Common.{◌≡◌, ◌≢◌, ◌⊎◌, ℕ, zero, suc, ◌+◌, ◌-◌, ◌<◌, ◌≤◌, Bool, true, false, List, [], length, map, Option, Some, None, refl, sym, ap, subst, ◌∙◌, arith, inl, inr, option_map}
use Rattle.std.specs.Prelude.{slice_index_or, slice_set}
use Rattle.std.proofs.lemmas.Bool.{cases_eq, cases_lt, false≢true}
use Rattle.std.proofs.lemmas.List.{get_or-set_other, get_or-set_same, length-map, length-set}
use Rattle.bf_locks.specs.Locks.{Locks}
use Rattle.bf_tree.specs.declared.bound.Bound.{Bound}
use Rattle.bf_tree.specs.declared.history.Entry.{Entry}
use Rattle.bf_tree.specs.declared.reply.Reply.{Reply}
use Rattle.bf_tree.specs.declared.script.Script.{Script}
use Rattle.bf_tree.specs.declared.script.Session.{Session}
use Rattle.bf_sql.specs.Database.{Database}
use Rattle.bf_sql.specs.Groups.{no_session, session_at}
use Rattle.bf_store.specs.Stores.{Store}
use Rattle.bf_machine.specs.declared.so_far.Began.{Began as BeganGroup}
use Rattle.bf_machine.specs.declared.so_far.OpenGroup.{OpenGroup}
use Rattle.bf_machine.specs.declared.so_far.SessionSoFar.{SessionSoFar}
use Rattle.bf_machine.specs.declared.stand.Stand.TheVariants as stand
use Rattle.bf_machine.specs.interleaving.Calls.{CanExec, HasSessionEnded, IsPlace}
use Rattle.bf_machine.specs.interleaving.Kept.{IsCurrent, IsKept, phase_of}
use Rattle.bf_machine.specs.interleaving.Machines.{Machine, Open, open_at, told_at}
use Rattle.bf_machine.specs.interleaving.Seen.{HasEndedAt, IsLeastLeft, group_seen, open_seen, seen, told_seen}
use Rattle.bf_machine.proofs.interleaving.Others.{has_place}
use Rattle.bf_machine.proofs.keeping.Current.{IsEnded, ended_so, has_ended, has_ended_so}
use Rattle.bf_machine.proofs.keeping.Places.{opens_then, told_then}
use Rattle.bf_machine.proofs.keeping.Sessions.{item_of}
use Rattle.bf_machine.proofs.keeping.Stands.{item_is}
use Rattle.bf_machine.proofs.served.Exclusive.{goes_has_not_ended}
use Rattle.bf_machine.proofs.served.Stuck.{place_or_none}

-- a session of a script, as the code reads it
pub phase_read : (xs : List Session) (i : ℕ) (own : Session) → i < length xs → own ≡ slice_index_or xs i own → (slice_index_or xs i no_session).phase ≡ own.phase
phase_read xs i own below is = ap (λ (x : Session). x.phase) (item_is xs i own no_session below (sym is))

-- and what it has come to
module _ (xs : List Session) (ys : List SessionSoFar) (i : ℕ) (own : Session) (x : SessionSoFar) (in_script : i < length xs) (below : i < length ys)
    (is : own ≡ slice_index_or xs i own) (at : x ≡ slice_index_or ys i x) where
  text : slice_index_or xs i no_session ≡ own
  text = item_is xs i own no_session in_script (sym is)

  told : slice_index_or (map told_seen ys) i [] ≡ told_seen x
  told = item_of told_seen ys i x [] below (sym at)

  opened : slice_index_or (map open_seen ys) i None ≡ open_seen x
  opened = item_of open_seen ys i x None below (sym at)

  pub ended_at : has_ended own x ≡ true → HasEndedAt xs ys i
  ended_at has =
      let ended : IsEnded own x = ended_so own x has in
      let all : length (slice_index_or xs i no_session).statements ≤ length (slice_index_or (map told_seen ys) i []) = rw (text, told) ended.0 in
      (all, opened ∙ ended.1)

  pub not_ended_at : has_ended own x ≡ false → HasEndedAt xs ys i → ⊥
  not_ended_at not_yet ended =
      let all : length own.statements ≤ length (told_seen x) = rw (text, told) at ended.0 in
      false≢true (sym not_yet ∙ has_ended_so own x (all, sym opened ∙ ended.1))

module _ (xs : List Session) (ys : List SessionSoFar) where
  abbrev pub phase_at : ℕ → ℕ
  phase_at i = (slice_index_or xs i no_session).phase

  -- a session has ended, or is of no earlier phase than the one found
  abbrev pub NoLess : Option ℕ → ℕ → Type 0
  NoLess found i = HasEndedAt xs ys i ⊎ ((p : ℕ) × (found ≡ Some p) × (phase_at p ≤ phase_at i))

  pub none_yet : IsLeastLeft xs ys 0 None
  none_yet = record { left = λ p is. absurd cc; least = λ i below. absurd (omega (arith, below)) }

  -- ONE SESSION MORE is looked at
  module _ (n : ℕ) (found : Option ℕ) (before : IsLeastLeft xs ys n found) where
    pub stays : NoLess found n → IsLeastLeft xs ys (n + 1) found
    stays here = record {
      left = λ p is. let was = before.left p is in (omega (arith, was.0), was.1);
      least = λ i below. elim (cases_eq i n) as (λ _. NoLess found i) [
        | inl same ↦ subst (NoLess found) (sym same) here
        | inr apart ↦ before.least i (omega (arith, below, apart))
      ];
    }

    pub moves : (HasEndedAt xs ys n → ⊥) → ((p : ℕ) → found ≡ Some p → phase_at n ≤ phase_at p) → IsLeastLeft xs ys (n + 1) (Some n)
    moves not_yet earlier = record {
      left = λ p is.
          let same : n ≡ p = cc in
          (omega (arith, same), subst (λ (k : ℕ). HasEndedAt xs ys k → ⊥) same not_yet);
      least = λ i below. elim (cases_eq i n) as (λ _. NoLess (Some n) i) [
        | inl same ↦
            let phases : phase_at i ≡ phase_at n = ap phase_at same in
            inr (n, refl, omega (arith, phases))
        | inr apart ↦ elim (before.least i (omega (arith, below, apart))) as (λ _. NoLess (Some n) i) [
          | inl ended ↦ inl ended
          | inr least ↦ inr (n, refl, omega (arith, earlier least.0 least.1, least.2))
        ]
      ];
    }

-- AN EVENT of the session at one place
module _ (xs : List Session) (ys : List SessionSoFar) (place : ℕ) (y : SessionSoFar) where
  abbrev then : List SessionSoFar
  then = slice_set ys place y

  told_beside : (i : ℕ) → i ≢ place → slice_index_or (map told_seen then) i [] ≡ slice_index_or (map told_seen ys) i []
  told_beside i apart = ap (λ (rs : List (List Reply)). slice_index_or rs i []) (told_then ys place y) ∙ get_or-set_other (map told_seen ys) place i (told_seen y) [] apart

  open_beside : (i : ℕ) → i ≢ place → slice_index_or (map open_seen then) i None ≡ slice_index_or (map open_seen ys) i None
  open_beside i apart = ap (λ (os : List (Option Open)). slice_index_or os i None) (opens_then ys place y) ∙ get_or-set_other (map open_seen ys) place i (open_seen y) None apart

  still_ended : (i : ℕ) → i ≢ place → HasEndedAt xs ys i → HasEndedAt xs then i
  still_ended i apart ended =
      (subst (λ (rs : List Reply). length (slice_index_or xs i no_session).statements ≤ length rs) (sym (told_beside i apart)) ended.0, open_beside i apart ∙ ended.1)

  had_ended : (i : ℕ) → i ≢ place → HasEndedAt xs then i → HasEndedAt xs ys i
  had_ended i apart ended =
      (subst (λ (rs : List Reply). length (slice_index_or xs i no_session).statements ≤ length rs) (told_beside i apart) ended.0, sym (open_beside i apart) ∙ ended.1)

  -- a group is open there behind it
  pub open_then : place < length ys → (group : OpenGroup) → y.«open» ≡ Some group → HasEndedAt xs then place → ⊥
  open_then below group is ended =
      let there : slice_index_or (map open_seen then) place None ≡ open_seen y =
      item_of open_seen then place y None (omega (arith, below, length-set ys place y)) (get_or-set_same ys place y y below) in
      let some : open_seen y ≡ Some (group_seen y.replies.items group) = ap (option_map (group_seen y.replies.items)) is in
      let clash : None ≡ Some (group_seen y.replies.items group) = sym ended.1 ∙ (there ∙ some) in
      absurd cc

  -- it had not ended
  module _ (before : Option ℕ) (was : IsLeastLeft xs ys (length ys) before) (goes_on : HasEndedAt xs ys place → ⊥) where
    pub least_stays : (before ≡ Some place → HasEndedAt xs then place → ⊥) → IsLeastLeft xs then (length then) before
    least_stays not_yet = record {
      left = λ p is.
          let there = was.left p is in (
            omega (arith, there.0, length-set ys place y),
            λ ended. elim (cases_eq p place) as (λ _. ⊥) [
              | inl same ↦ not_yet (is ∙ ap Some same) (subst (HasEndedAt xs then) same ended)
              | inr apart ↦ there.1 (had_ended p apart ended)
            ],
          );
      least = λ i below. elim (was.least i (omega (arith, below, length-set ys place y))) as (λ _. NoLess xs then before i) [
        | inl ended ↦ elim (cases_eq i place) as (λ _. NoLess xs then before i) [
          | inl same ↦ absurd (goes_on (subst (HasEndedAt xs ys) same ended))
          | inr apart ↦ inl (still_ended i apart ended)
        ]
        | inr least ↦ inr least
      ];
    }

    -- as the code has looked
    abbrev IsBehind : List Session → List SessionSoFar → Option ℕ → Type 0
    IsBehind own all found = IsLeastLeft own all (length all) found ⊎ ((found ≡ before) × (before ≡ Some place → HasEndedAt own all place → ⊥))

    pub least_behind : {own : List Session} {all : List SessionSoFar} → own ≡ xs → all ≡ then → (found : Option ℕ) → IsBehind own all found → IsLeastLeft xs then (length then) found
    least_behind {own} {all} texts sessions found looked =
        let now : IsBehind xs then found =
        subst (λ (ys : List SessionSoFar). IsBehind xs ys found) sessions (subst (λ (xs : List Session). IsBehind xs all found) texts looked) in
        elim now as (λ _. IsLeastLeft xs then (length then) found) [
          | inl again ↦ again
          | inr kept ↦ subst (λ (found : Option ℕ). IsLeastLeft xs then (length then) found) (sym kept.0) (least_stays kept.1)
        ]

-- an open group's session has not ended
pub open_goes_on : (m : Machine) (s : ℕ) (o : Open) → open_at m s ≡ Some o → HasSessionEnded m s → ⊥
open_goes_on m s o is ended =
    let clash : None ≡ Some o = sym ended.1 ∙ is in
    absurd cc

module _ (logged : Bool) (script : Script) (retries : ℕ) (store : Store) (locks : Locks) (began : List BeganGroup) (sessions : List SessionSoFar) (history : List Entry) where
  abbrev m : Machine
  m = seen logged script retries store locks began sessions history

  -- a session by its number
  pub goes_on_at : (s : ℕ) → 1 ≤ s → (HasSessionEnded m s → ⊥) → HasEndedAt script.sessions sessions (s - 1) → ⊥
  goes_on_at zero low goes_on ended = absurd (omega (arith, low))
  goes_on_at (suc s) low goes_on ended =
      let here : suc s - 1 ≡ s = omega arith in
      goes_on (subst (HasEndedAt script.sessions sessions) here ended)

  -- a session of which a statement may come has not ended
  pub exec_goes_on : {start : Database} → IsKept start m → (s : ℕ) (opening : Database) (bound : Bound) → CanExec m s opening bound → HasSessionEnded m s → ⊥
  exec_goes_on kept s opening bound can = elim can as (λ _. HasSessionEnded m s → ⊥) [
    | inl to_exec ↦ open_goes_on m s to_exec.o to_exec.is
    | inr refused ↦ goes_has_not_ended m kept s (stand.Statement (length (told_at m s) + 1), inr (refused, refl), refl)
  ]

  -- WHOSE TURN IT IS
  module _ {start : Database} (kept : IsKept start m) (found : Option ℕ) (least : IsLeastLeft script.sessions sessions (length sessions) found) where
    none_outside : (t : ℕ) → (IsPlace script t → ⊥) → open_at m t ≡ None
    none_outside t outside = by (open_at m t) refl
      where
        by : (o : Option Open) → open_at m t ≡ o → o ≡ None
        by None is = refl
        by (Some o) is =
            let place = has_place m t o is in
            absurd (outside (place.0, omega (arith, place.1, kept.shaped.opens)))

    -- a session of an earlier phase than the one found has ended
    earlier_ended : (t : ℕ) → IsPlace script t → ((p : ℕ) → found ≡ Some p → phase_of script t < phase_of script (suc p)) → HasSessionEnded m t
    earlier_ended zero there before = absurd (omega (arith, there.0))
    earlier_ended (suc i) there before = elim (least.least i (omega (arith, there.1, kept.shaped.opens, length-map sessions open_seen))) as (λ _. HasSessionEnded m (suc i)) [
      | inl ended ↦ ended
      | inr so ↦
          let low : phase_of script (suc so.0) ≤ phase_of script (suc i) = so.2 in
          absurd (omega (arith, low, before so.0 so.1))
    ]

    pub current_by_phase : (s : ℕ) → ((p : ℕ) → found ≡ Some p → phase_of script s ≤ phase_of script (suc p)) → IsCurrent m s
    current_by_phase s phase t before = elim (place_or_none script t) as (λ _. HasSessionEnded m t) [
      | inl there ↦ earlier_ended t there (λ p is. omega (arith, before, phase p is))
      | inr none ↦
          let nothing : length (session_at script t).statements ≡ 0 = ap (λ (session : Session). length session.statements) none.none in
          (omega (arith, nothing), none_outside t (λ place. elim none.outside as (λ _. ⊥) [ inl zero_so ↦ omega (arith, zero_so, place.0) | inr above ↦ omega (arith, above, place.1) ]))
    ]

    pub phase_if_current : (s : ℕ) → IsCurrent m s → (p : ℕ) → found ≡ Some p → phase_of script s ≤ phase_of script (suc p)
    phase_if_current s current p is = elim (cases_lt (phase_of script (suc p)) (phase_of script s)) as (λ _. phase_of script s ≤ phase_of script (suc p)) [
      | inl before ↦ absurd ((least.left p is).1 (current (suc p) before))
      | inr not_before ↦ not_before
    ]
