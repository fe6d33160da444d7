-- Where sessions were served in sequence to their ends, the history has the entries of a run in order: the groups of the text, one
-- session after the other, each once.
use Rattle.std.proofs.Common.{◌≡◌, ◌⊎◌, ℕ, zero, suc, ◌+◌, ◌-◌, ◌<◌, ◌≤◌, Bool, List, [], ◌∷◌, ◌++◌, length, map, None, refl, sym, ap, ap₂, subst, ◌∙◌, arith, inl, inr}
use Rattle.std.specs.Prelude.{Contains, nat_le}
use Rattle.std.specs.List.{AllByRecursion, flat_map, range_with_len}
use Rattle.std.proofs.lemmas.Bool.{cases_Bool}
use Rattle.std.proofs.lemmas.Bool.Decides.{nat_tests}
use Rattle.bf_tree.specs.declared.script.Script.{Script}
use Rattle.bf_tree.specs.declared.statement.Statement.{Statement}
use Rattle.bf_machine.specs.interleaving.Machines.{Group}
use Rattle.bf_sql.specs.Groups.{groups_from, groups_in, session_at}
use Rattle.bf_machine.proofs.interleaving.Texts.{From, low}
use Rattle.bf_machine.proofs.order.Groups.{IsGroup, by_groups}

-- a group with its session
abbrev pub Placed : Type 0
Placed = ℕ × Group

-- of an earlier session, or earlier in one
abbrev pub IsBefore : Placed → Placed → Type 0
IsBefore x y = (x.0 < y.0) ⊎ ((x.0 ≡ y.0) × (x.1.0 < y.1.0))

before_not_self : (x : Placed) → IsBefore x x → ⊥
before_not_self x before = elim before as (λ _. ⊥) [ inl less ↦ omega (arith, less) | inr both ↦ omega (arith, both.1) ]

before_one_way : (x y : Placed) → IsBefore x y → IsBefore y x → ⊥
before_one_way x y one other = elim one as (λ _. ⊥) [
  | inl less ↦ elim other as (λ _. ⊥) [ inl more ↦ omega (arith, less, more) | inr both ↦ omega (arith, less, both.0) ]
  | inr same ↦ elim other as (λ _. ⊥) [ inl more ↦ omega (arith, same.0, more) | inr both ↦ omega (arith, same.1, both.1) ]
]

before_both : (x y z : Placed) → IsBefore x y → IsBefore y z → IsBefore x z
before_both x y z one other = elim one as (λ _. IsBefore x z) [
  | inl less ↦ elim other as (λ _. IsBefore x z) [
    | inl more ↦ inl (omega (arith, less, more))
    | inr both ↦ inl (omega (arith, less, both.0))
  ]
  | inr same ↦ elim other as (λ _. IsBefore x z) [
    | inl more ↦ inl (omega (arith, same.0, more))
    | inr both ↦ inr (omega (arith, same.0, both.0), omega (arith, same.1, both.1))
  ]
]

-- each before all that follow it
abbrev pub Rises : List Placed → Type 0
Rises [] = Unit {0}
Rises (x ∷ xs) = AllByRecursion (IsBefore x) xs × Rises xs

all_of : {X : Type 0} (P : X → Type 0) (xs : List X) → AllByRecursion P xs → (x : X) → Contains xs x → P x
all_of P [] all x (k, within, is) = absurd (omega (arith, within))
all_of P (y ∷ xs) all x (zero, within, is) = subst P is all.0
all_of P (y ∷ xs) all x (suc k, within, is) = all_of P xs all.1 x (k, omega (arith, within), is)

abbrev first_in : {X : Type 0} (x : X) (xs : List X) → Contains (x ∷ xs) x
first_in x xs = (0, omega arith, refl)

later_in : {X : Type 0} (x y : X) (xs : List X) → Contains xs y → Contains (x ∷ xs) y
later_in x y xs there = (suc there.0, omega (arith, there.1), there.2)

first_or : {X : Type 0} (x y : X) (xs : List X) → Contains (x ∷ xs) y → (y ≡ x) ⊎ Contains xs y
first_or x y xs (zero, within, is) = inl (sym is)
first_or x y xs (suc k, within, is) = inr (k, omega (arith, within), is)

-- two lists that rise and have the same items are one
pub one_rising : (xs ys : List Placed) → Rises xs → Rises ys → ((x : Placed) → Contains xs x → Contains ys x) → ((y : Placed) → Contains ys y → Contains xs y) → xs ≡ ys
one_rising [] [] rx ry there back = refl
one_rising [] (y ∷ ys) rx ry there back = let none = back y (first_in y ys) in absurd (omega (arith, none.1))
one_rising (x ∷ xs) [] rx ry there back = let none = there x (first_in x xs) in absurd (omega (arith, none.1))
one_rising (x ∷ xs) (y ∷ ys) rx ry there back =
    ap₂ (λ (z : Placed) (zs : List Placed). z ∷ zs) same (one_rising xs ys rx.1 ry.1 there_then back_then)
  where
    same : x ≡ y
    same = elim (first_or y x ys (there x (first_in x xs))) as (λ _. x ≡ y) [
      | inl is ↦ is
      | inr behind ↦ elim (first_or x y xs (back y (first_in y ys))) as (λ _. x ≡ y) [
        | inl is ↦ sym is
        | inr ahead ↦ absurd (before_one_way x y (all_of (IsBefore x) xs rx.0 y ahead) (all_of (IsBefore y) ys ry.0 x behind))
      ]
    ]

    there_then : (z : Placed) → Contains xs z → Contains ys z
    there_then z among = elim (first_or y z ys (there z (later_in x z xs among))) as (λ _. Contains ys z) [
      | inl is ↦ absurd (before_not_self x (subst (IsBefore x) (is ∙ sym same) (all_of (IsBefore x) xs rx.0 z among)))
      | inr behind ↦ behind
    ]

    back_then : (z : Placed) → Contains ys z → Contains xs z
    back_then z among = elim (first_or x z xs (back z (later_in y z ys among))) as (λ _. Contains xs z) [
      | inl is ↦ absurd (before_not_self y (subst (IsBefore y) (is ∙ same) (all_of (IsBefore y) ys ry.0 z among)))
      | inr behind ↦ behind
    ]

-- the groups of a text rise
abbrev pub GroupsRise : ℕ → List Group → Type 0
GroupsRise s gs = Rises (map (λ (g : Group). (s, g)) gs)

later_before : (s n last : ℕ) (gs : List Group) → n ≤ last → From (last + 1) gs → AllByRecursion (IsBefore (s, (n, last))) (map (λ (g : Group). (s, g)) gs)
later_before s n last [] within from = tt
later_before s n last (g ∷ gs) within from = (inr (refl, omega (arith, within, from.0)), later_before s n last gs within from.1)

abbrev TextRises : ℕ → List Statement → Type 0
TextRises s ss = (n : ℕ) → GroupsRise s (groups_from n None ss)

text_rises : (s : ℕ) (ss : List Statement) → TextRises s ss
text_rises s ss = by_groups (TextRises s) (λ n. tt) (λ st rest whole stray later n. subst (GroupsRise s) (sym (stray.group n)) (later (n + 1))) one_more ss
  where
    one_more : (text rest whole : List Statement) (committing : Bool) → IsGroup text rest whole committing → TextRises s rest → TextRises s whole
    one_more text rest whole committing group later n =
        let last = n + length text - 1 in
        let e : last + 1 ≡ n + length text = omega (arith, group.not_empty) in
        let within : n ≤ last = omega (arith, group.not_empty) in
        subst (GroupsRise s) (sym (group.group n last e))
        (later_before s n last (groups_from (last + 1) None rest) within (low (last + 1) (last + 1) None rest (omega arith) (λ b is. absurd cc)), later (last + 1))

-- and so do those of a script, session after session
abbrev groups_at : Script → ℕ → List Placed
groups_at script s = map (λ (g : Group). (s, g)) (groups_in script s)

module _ (script : Script) where
  abbrev pub placed_from : ℕ → ℕ → List Placed
  placed_from k n = flat_map (groups_at script) (range_with_len k n)

  both_rise : (xs ys : List Placed) → Rises xs → Rises ys → ((x y : Placed) → Contains xs x → Contains ys y → IsBefore x y) → Rises (xs ++ ys)
  both_rise [] ys rx ry apart = ry
  both_rise (x ∷ xs) ys rx ry apart = (
    in_both xs ys rx.0 (all_from ys (λ y there. apart x y (first_in x xs) there)),
    both_rise xs ys rx.1 ry (λ z y z_in y_in. apart z y (later_in x z xs z_in) y_in),
  )
    where
      in_both : (xs ys : List Placed) → AllByRecursion (IsBefore x) xs → AllByRecursion (IsBefore x) ys → AllByRecursion (IsBefore x) (xs ++ ys)
      in_both [] ys one other = other
      in_both (z ∷ zs) ys one other = (one.0, in_both zs ys one.1 other)

      all_from : (ys : List Placed) → ((y : Placed) → Contains ys y → IsBefore x y) → AllByRecursion (IsBefore x) ys
      all_from [] each = tt
      all_from (y ∷ ys) each = (each y (first_in y ys), all_from ys (λ z there. each z (later_in y z ys there)))

  -- an item of a joined list is of one of the two
  in_one : (xs ys : List Placed) (z : Placed) → Contains (xs ++ ys) z → Contains xs z ⊎ Contains ys z
  in_one [] ys z there = inr there
  in_one (x ∷ xs) ys z there = elim (first_or x z (xs ++ ys) there) as (λ _. Contains (x ∷ xs) z ⊎ Contains ys z) [
    | inl is ↦ inl (subst (Contains (x ∷ xs)) (sym is) (first_in x xs))
    | inr later ↦ elim (in_one xs ys z later) as (λ _. Contains (x ∷ xs) z ⊎ Contains ys z) [ inl front ↦ inl (later_in x z xs front) | inr back ↦ inr back ]
  ]

  in_front : (xs ys : List Placed) (z : Placed) → Contains xs z → Contains (xs ++ ys) z
  in_front [] ys z there = absurd (omega (arith, there.1))
  in_front (x ∷ xs) ys z there = elim (first_or x z xs there) as (λ _. Contains (x ∷ (xs ++ ys)) z) [
    | inl is ↦ subst (Contains (x ∷ (xs ++ ys))) (sym is) (first_in x (xs ++ ys))
    | inr later ↦ later_in x z (xs ++ ys) (in_front xs ys z later)
  ]

  in_back : (xs ys : List Placed) (z : Placed) → Contains ys z → Contains (xs ++ ys) z
  in_back [] ys z there = there
  in_back (x ∷ xs) ys z there = later_in x z (xs ++ ys) (in_back xs ys z there)

  -- a group of a session among them
  at_session : (s : ℕ) (gs : List Group) (z : Placed) → Contains (map (λ (g : Group). (s, g)) gs) z → (z.0 ≡ s) × Contains gs z.1
  at_session s [] z there = absurd (omega (arith, there.1))
  at_session s (g ∷ gs) z there = elim (first_or (s, g) z (map (λ (g : Group). (s, g)) gs) there) as (λ _. (z.0 ≡ s) × Contains (g ∷ gs) z.1) [
    | inl is ↦ (ap (λ (p : Placed). p.0) is, subst (Contains (g ∷ gs)) (sym (ap (λ (p : Placed). p.1) is)) (first_in g gs))
    | inr later ↦ let rest = at_session s gs z later in (rest.0, later_in g z.1 gs rest.1)
  ]

  of_session : (s : ℕ) (gs : List Group) (g : Group) → Contains gs g → Contains {X = Placed} (map (λ (g : Group). (s, g)) gs) (s, g)
  of_session s [] g there = absurd (omega (arith, there.1))
  of_session s (x ∷ gs) g there = elim (first_or x g gs there) as (λ _. Contains {X = Placed} ((s, x) ∷ map (λ (g : Group). (s, g)) gs) (s, g)) [
    | inl is ↦ subst (λ (y : Group). Contains {X = Placed} ((s, x) ∷ map (λ (g : Group). (s, g)) gs) (s, y)) (sym is) (first_in (s, x) (map (λ (g : Group). (s, g)) gs))
    | inr later ↦ later_in (s, x) (s, g) (map (λ (g : Group). (s, g)) gs) (of_session s gs g later)
  ]

  pub placed_in : (n k : ℕ) (z : Placed) → Contains (placed_from k n) z → (k ≤ z.0) × (z.0 < k + n) × Contains (groups_in script z.0) z.1
  placed_in zero k z there = absurd (omega (arith, there.1))
  placed_in (suc n) k z there = elim (in_one (groups_at script k) (placed_from (k + 1) n) z there) as (λ _. (k ≤ z.0) × (z.0 < k + suc n) × Contains (groups_in script z.0) z.1) [
    | inl front ↦
        let here = at_session k (groups_in script k) z front in
        (omega (arith, here.0), omega (arith, here.0), subst (λ (s : ℕ). Contains (groups_in script s) z.1) (sym here.0) here.1)
    | inr back ↦ let rest = placed_in n (k + 1) z back in (omega (arith, rest.0), omega (arith, rest.1), rest.2)
  ]

  pub in_placed : (n k s : ℕ) (g : Group) → k ≤ s → s < k + n → Contains (groups_in script s) g → Contains {X = Placed} (placed_from k n) (s, g)
  in_placed zero k s g from to there = absurd (omega (arith, from, to))
  in_placed (suc n) k s g from to there = elim (cases_Bool (nat_le s k)) as (λ _. Contains {X = Placed} (placed_from k (suc n)) (s, g)) [
    | inl first ↦
        let here : s ≤ k = grind (arith, nat_tests, first) in
        let same : k ≡ s = omega (arith, here, from) in
        let own : Contains {X = Placed} (groups_at script k) (s, g) = subst (λ (j : ℕ). Contains {X = Placed} (groups_at script j) (s, g)) (sym same) (of_session s (groups_in script s) g there) in
        in_front (groups_at script k) (placed_from (k + 1) n) (s, g) own
    | inr later ↦
        let above : k < s = grind (arith, nat_tests, later) in
        in_back (groups_at script k) (placed_from (k + 1) n) (s, g) (in_placed n (k + 1) s g (omega (arith, above)) (omega (arith, to)) there)
  ]

  pub placed_rise : (n k : ℕ) → Rises (placed_from k n)
  placed_rise zero k = tt
  placed_rise (suc n) k =
      both_rise (groups_at script k) (placed_from (k + 1) n) (text_rises k (session_at script k).statements 1) (placed_rise n (k + 1))
      (λ x y front back.
      let here = at_session k (groups_in script k) x front in
      let there = placed_in n (k + 1) y back in
      inl (omega (arith, here.0, there.0)))
