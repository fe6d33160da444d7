-- Start numbers of the groups of a phase, against how many groups the script has in it and before it.
use Rattle.std.proofs.Common.{◌≡◌, ℕ, zero, suc, ◌+◌, ◌<◌, ◌≤◌, ◌==◌, Bool, true, false, cond, nat_le, nat_lt, List, [], ◌∷◌, length, map, filter, Option, Some, None, refl, sym, ap, subst, ◌∙◌, arith, inl, inr}
use Rattle.std.specs.Prelude.{Contains}
use Rattle.std.specs.List.{AllByRecursion, slice_index_or}
use Rattle.std.proofs.lemmas.Bool.{cases_Bool}
use Rattle.std.proofs.lemmas.Bool.Decides.{nat_tests}
use Rattle.std.proofs.lemmas.List.{length-map}
use Rattle.std.proofs.lemmas.Option.{same_Some}
use Rattle.bf_tree.specs.declared.script.Script.{Script}
use Rattle.bf_sql.specs.Database.{Database}
use Rattle.bf_sql.specs.Groups.{groups_in, session_at}
use Rattle.bf_machine.specs.InOrder.{groups_in_order}
use Rattle.bf_machine.specs.interleaving.Calls.{IsPlace}
use Rattle.bf_machine.specs.interleaving.Kept.{HasStart, IsKept, phase_of}
use Rattle.bf_machine.specs.interleaving.Machines.{Began, Group, Machine, began_at}
use Rattle.bf_machine.proofs.interleaving.Places.{some_within}
use Rattle.bf_machine.proofs.interleaving.Texts.{are_texts}
use Rattle.bf_machine.proofs.served.Stuck.{place_or_none}
use Rattle.bf_machine.proofs.served.Whole.{IsBefore, Placed, Rises, in_placed, placed_in, placed_rise}
use Rattle.bf_run.specs.Deaths.{groups_before, groups_of_phase}
use Rattle.bf_run.proofs.deaths.Lists.{all_at, all_from, at_in, at_is, in_filter, of_filter, pigeons}

-- the session of a group is one of the script
pub place_of : (script : Script) (s : ℕ) (group : Group) → Contains (groups_in script s) group → IsPlace script s
place_of script s group whole = elim (place_or_none script s) as (λ _. IsPlace script s) [
  | inl place ↦ place
  | inr none ↦
      let bounds = (are_texts script).bounds s group whole in
      let nothing : length (session_at script s).statements ≡ 0 = ap (λ (session : _). length session.statements) none.none in
      absurd (omega (arith, bounds.0, bounds.1, bounds.2, nothing))
]

-- a start number is at least one, and of one group
pub number_low : (began : List Began) (s n : ℕ) (group : Group) → HasStart began s group n → 1 ≤ n
number_low began s zero group has =
    let own : Began = record { session = s; group = group; deaths = has.deaths } in
    let none : ◌≡◌ {A = Option Began} None (Some own) = has.is in
    absurd cc
number_low began s (suc n) group has = omega arith

pub one_start : (began : List Began) (s t n : ℕ) (one other : Group) (has : HasStart began s one n) (has_other : HasStart began t other n)
    → ◌≡◌ {A = Began} (record { session = s; group = one; deaths = has.deaths }) (record { session = t; group = other; deaths = has_other.deaths })
one_start began s t n one other has has_other = same_Some _ _ (sym has.is ∙ has_other.is)

-- lists in which each item is before those that follow it
not_before_self : (x : Placed) → IsBefore x x → ⊥
not_before_self x before = elim before as (λ _. ⊥) [ inl less ↦ omega (arith, less) | inr both ↦ omega (arith, both.1) ]

rises_filter : (p : Placed → Bool) (xs : List Placed) → Rises xs → Rises (filter p xs)
rises_filter p [] rise = tt
rises_filter p (x ∷ xs) rise =
    let rest = rises_filter p xs rise.1 in
    let all : AllByRecursion (IsBefore x) (filter p xs) = all_from (IsBefore x) (filter p xs) (λ y there. all_at (IsBefore x) xs rise.0 y (of_filter p xs y there).0) in
    elim (p x) as (λ b. Rises (cond b (x ∷ filter p xs) (filter p xs))) [ true ↦ (all, rest) | false ↦ rest ]

-- so no item stands in two places
one_place : (xs : List Placed) (d : Placed) → Rises xs → (i j : ℕ) → i < length xs → j < length xs → slice_index_or xs i d ≡ slice_index_or xs j d → i ≡ j
one_place [] d rise i j one other same = absurd (omega (arith, one))
one_place (x ∷ xs) d rise zero zero one other same = refl
one_place (x ∷ xs) d rise zero (suc j) one other same =
    absurd (not_before_self x (subst (IsBefore x) (sym same) (all_at (IsBefore x) xs rise.0 (slice_index_or xs j d) (at_in xs j d (omega (arith, other))))))
one_place (x ∷ xs) d rise (suc i) zero one other same =
    absurd (not_before_self x (subst (IsBefore x) same (all_at (IsBefore x) xs rise.0 (slice_index_or xs i d) (at_in xs i d (omega (arith, one))))))
one_place (x ∷ xs) d rise (suc i) (suc j) one other same = ap suc (one_place xs d rise.1 i j (omega (arith, one)) (omega (arith, other)) same)

two_more : (k phase : ℕ) (x : Placed) (us bs ws : List Placed) → length us ≡ length bs + length ws
    → length (cond (nat_le k phase) (x ∷ us) us) ≡ length (cond (nat_lt k phase) (x ∷ bs) bs) + length (cond (k == phase) (x ∷ ws) ws)
two_more k phase x us bs ws rest = elim (cases_Bool (nat_le k phase)) [
  | inl low ↦ elim (cases_Bool (nat_lt k phase)) [
    | inl less ↦ let apart : (k == phase) ≡ false = grind (arith, nat_tests, less) in rw (low, less, apart) (omega (arith, rest))
    | inr not_less ↦ let same : (k == phase) ≡ true = grind (arith, nat_tests, low, not_less) in rw (low, not_less, same) (omega (arith, rest))
  ]
  | inr high ↦
      let not_less : nat_lt k phase ≡ false = grind (arith, nat_tests, high) in
      let apart : (k == phase) ≡ false = grind (arith, nat_tests, high) in
      rw (high, not_less, apart) rest
]

module _ (script : Script) (phase : ℕ) where
  abbrev before : Placed → Bool
  before g = nat_lt (phase_of script g.0) phase

  abbrev within : Placed → Bool
  within g = phase_of script g.0 == phase

  abbrev up_to : Placed → Bool
  up_to g = nat_le (phase_of script g.0) phase

  -- up to a phase are those before it and those of it
  two_parts : (xs : List Placed) → length (filter up_to xs) ≡ length (filter before xs) + length (filter within xs)
  two_parts [] = refl
  two_parts (x ∷ xs) = two_more (phase_of script x.0) phase x (filter up_to xs) (filter before xs) (filter within xs) (two_parts xs)

abbrev nowhere : Placed
nowhere = (0, (0, 0))

some_at : (xs : List Began) (i : ℕ) → i < length xs → (b : Began) × (slice_index_or (map Some xs) i None ≡ Some b)
some_at [] i below = absurd (omega (arith, below))
some_at (b ∷ xs) zero below = (b, refl)
some_at (b ∷ xs) (suc i) below = some_at xs i (omega (arith, below))

module _ {start : Database} (m : Machine) (kept : IsKept start m) (s : ℕ) (group : Group) (n : ℕ) (has : HasStart m.began s group n) where
  abbrev own_phase : ℕ
  own_phase = phase_of m.script s

  -- ---- those of earlier phases have the smaller numbers
  abbrev earlier : List Placed
  earlier = filter (before m.script own_phase) (groups_in_order m.script)

  record IsNumbered (z : Placed) : Type 0 where
    pub number : ℕ
    pub has_it : HasStart m.began z.0 z.1 number
    pub low : 1 ≤ number
    pub less : number < n

  numbered : (z : Placed) → Contains earlier z → IsNumbered z
  numbered z there =
      let found = of_filter (before m.script own_phase) (groups_in_order m.script) z there in
      let is_before : phase_of m.script z.0 < own_phase = grind (arith, nat_tests, found.1) in
      let placed = placed_in m.script (length m.script.sessions) 1 z found.0 in
      let bounds = (are_texts m.script).bounds z.0 z.1 placed.2 in
      let over = (kept.locks_consistent.in_turn s group n has z.0 is_before).0 in
      let it = kept.locks_consistent.numbered z.0 z.1 placed.2 (omega (arith, bounds.2, over)) in
      record { number = it.0; has_it = it.1; low = number_low m.began z.0 it.0 z.1 it.1; less = is_less z it.0 it.1 is_before }
    where
      is_less : (z : Placed) (k : ℕ) → HasStart m.began z.0 z.1 k → phase_of m.script z.0 < own_phase → k < n
      is_less z k has_it is_before = elim (cases_Bool (nat_lt k n)) as (λ _. k < n) [
        | inl less ↦ grind (arith, nat_tests, less)
        | inr not_less ↦ elim (cases_Bool (nat_lt n k)) as (λ _. k < n) [
          | inl more ↦
              let above : n < k = grind (arith, nat_tests, more) in
              let low = kept.locks_consistent.by_phase s z.0 group z.1 n k has has_it above in
              absurd (omega (arith, low, is_before))
          | inr not_more ↦
              let same : k ≡ n = grind (arith, nat_tests, not_less, not_more) in
              let one = one_start m.began z.0 s n z.1 group (subst (HasStart m.began z.0 z.1) same has_it) has in
              let phases : phase_of m.script z.0 ≡ own_phase = ap (λ (b : Began). phase_of m.script b.session) one in
              absurd (omega (arith, phases, is_before))
        ]
      ]

  item : (i : ℕ) → suc i < suc (length earlier) → IsNumbered (slice_index_or earlier i nowhere)
  item i below = numbered (slice_index_or earlier i nowhere) (at_in earlier i nowhere (omega (arith, below)))

  abbrev number_at : (i : ℕ) → i < suc (length earlier) → ℕ
  number_at zero below = 0
  number_at (suc i) below = (item i below).number

  number_within : (i : ℕ) (below : i < suc (length earlier)) → number_at i below < n
  number_within zero below = omega (arith, number_low m.began s n group has)
  number_within (suc i) below = (item i below).less

  numbers_differ : (i j : ℕ) (one : i < suc (length earlier)) (other : j < suc (length earlier)) → number_at i one ≡ number_at j other → i ≡ j
  numbers_differ zero zero one other same = refl
  numbers_differ zero (suc j) one other same = absurd (omega (arith, same, (item j other).low))
  numbers_differ (suc i) zero one other same = absurd (omega (arith, same, (item i one).low))
  numbers_differ (suc i) (suc j) one other same =
      let x = slice_index_or earlier i nowhere in
      let y = slice_index_or earlier j nowhere in
      let began = one_start m.began x.0 y.0 (item j other).number x.1 y.1 (subst (HasStart m.began x.0 x.1) same (item i one).has_it) (item j other).has_it in
      let items : x ≡ y = ap (λ (b : Began). (b.session, b.group)) began in
      let rise = rises_filter (before m.script own_phase) (groups_in_order m.script) (placed_rise m.script (length m.script.sessions) 1) in
      ap suc (one_place earlier nowhere rise i j (omega (arith, one)) (omega (arith, other)) items)

  pub above_earlier : groups_before m.script own_phase < n
  above_earlier = omega (arith, pigeons (suc (length earlier)) n number_at number_within numbers_differ)

  -- ---- and none is greater than the number of groups up to its phase
  abbrev so_far : List Placed
  so_far = filter (up_to m.script own_phase) (groups_in_order m.script)

  record IsPlaced (i : ℕ) : Type 0 where
    pub began : Began
    pub has_it : HasStart m.began began.session began.group (suc i)
    pub there : Contains {X = Placed} so_far (began.session, began.group)

  few : n ≤ length m.began
  few = number_within_all n has.is
    where
      number_within_all : (n : ℕ) → began_at m.began n ≡ Some (record { session = s; group = group; deaths = has.deaths }) → n ≤ length m.began
      number_within_all zero is = omega arith
      number_within_all (suc n) is = omega (arith, some_within (map Some m.began) n _ is, length-map m.began Some)

  placed_at : (i : ℕ) → i < n → IsPlaced i
  placed_at i below =
      let some = some_at m.began i (omega (arith, below, few)) in
      let b : Began = some.0 in
      let has_it : HasStart m.began b.session b.group (suc i) = record { deaths = b.deaths; is = some.1 } in
      let whole = (kept.locks_consistent.begun b.session b.group (suc i) has_it).whole in
      let place = place_of m.script b.session b.group whole in
      let there = in_placed m.script (length m.script.sessions) 1 b.session b.group place.0 (omega (arith, place.1)) whole in
      let low : nat_le (phase_of m.script b.session) own_phase ≡ true = grind (arith, nat_tests, is_low b has_it) in
      record { began = b; has_it = has_it; there = in_filter (up_to m.script own_phase) (groups_in_order m.script) (b.session, b.group) there low }
    where
      is_low : (b : Began) → HasStart m.began b.session b.group (suc i) → phase_of m.script b.session ≤ own_phase
      is_low b has_it = elim (cases_Bool (nat_lt (suc i) n)) as (λ _. phase_of m.script b.session ≤ own_phase) [
        | inl less ↦ kept.locks_consistent.by_phase b.session s b.group group (suc i) n has_it has (grind (arith, nat_tests, less))
        | inr not_less ↦
            let same : suc i ≡ n = grind (arith, nat_tests, not_less, below) in
            let one = one_start m.began b.session s n b.group group (subst (HasStart m.began b.session b.group) same has_it) has in
            let phases : phase_of m.script b.session ≡ own_phase = ap (λ (b : Began). phase_of m.script b.session) one in
            omega (arith, phases)
      ]

  places_differ : (i j : ℕ) (one : i < n) (other : j < n) → (placed_at i one).there.0 ≡ (placed_at j other).there.0 → i ≡ j
  places_differ i j one other same =
      let a = placed_at i one in
      let c = placed_at j other in
      let x : Placed = (a.began.session, a.began.group) in
      let y : Placed = (c.began.session, c.began.group) in
      let k = c.there.0 in
      let here : slice_index_or so_far k x ≡ x = subst (λ (p : ℕ). slice_index_or so_far p x ≡ x) same a.there.2 in
      let items : x ≡ y = sym here ∙ (at_is so_far k x y c.there.1 ∙ c.there.2) in
      let has_x : HasStart m.began c.began.session c.began.group (suc i) = subst (λ (z : Placed). HasStart m.began z.0 z.1 (suc i)) items a.has_it in
      let numbers = kept.locks_consistent.once c.began.session c.began.group (suc i) (suc j) has_x c.has_it in
      omega (arith, numbers)

  pub within_phase : n ≤ groups_before m.script own_phase + groups_of_phase m.script own_phase
  within_phase =
      let most = pigeons n (length so_far) (λ i below. (placed_at i below).there.0) (λ i below. (placed_at i below).there.1) places_differ in
      omega (arith, most, two_parts m.script own_phase (groups_in_order m.script))
