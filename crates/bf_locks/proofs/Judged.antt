-- The answer that the holders of a name give is the one that wait-die gives.
use Rattle.std.proofs.Common.{◌≡◌, ◌≢◌, ◌⊎◌, ℕ, zero, suc, ◌≤◌, Bool, true, false, cond, not, eqb, ltb, ◌&&◌, List, [], ◌∷◌, map, filter, Option, Some, None, IsSomeAnd, Contains, refl, sym, ap, subst, ◌∙◌, inl, inr, arith}
use Rattle.std.specs.List.{AllByRecursion}
use Rattle.std.specs.List.Sorted.{IsStrictlySortedBy}
use Rattle.std.specs.Ordering.{nat_cmp, eq_by_cmp}
use Rattle.std.specs.declared.cmp.Ordering.TheVariants.{Less}
use Rattle.std.specs.Cmp.{nat_cmp_total, eq_by_cmp_equiv}
use Rattle.std.specs.FinMap.{nat_cmp-IsAntisymmetric}
use Rattle.std.specs.BTreeMap.{is_at}
use Rattle.std.specs.Map.{lookup, keys_of}
use Rattle.std.proofs.lemmas.Bool.{and_parts, not-true, eqb-false, ne_eqb, ltb-true, ltb-false}
use Rattle.std.proofs.lemmas.Map.Keys.{IsDistinct-from_sorted, IsStrictlyIncreasing-from_sorted, below_from_sorted}
use Rattle.std.proofs.lemmas.Map.Views.{Contains-from_lookup, lookup-from_Contains, tells_apart}
use Rattle.bf_locks.specs.declared.mode.Mode.{Mode}
use Rattle.bf_locks.specs.declared.name.LockName.{LockName}
use Rattle.bf_locks.specs.declared.answer.LockAnswer.TheVariants.{Wait, Die}
use Rattle.bf_locks.specs.Modes.{are_compatible}
use Rattle.bf_locks.specs.Judgement.{is_conflict, conflicting, answer_for}
use Rattle.bf_locks.specs.Locks.{Locks, held, wanted, Conflicts, IsJudged}

contains_here : {A : Type 0} (x : A) (xs : List A) → Contains (x ∷ xs) x
contains_here x xs = (0, omega arith, refl)

contains_later : {A : Type 0} (y : A) (xs : List A) (x : A) → Contains xs x → Contains (y ∷ xs) x
contains_later y xs x at = (suc at.0, omega (arith, at.1), at.2)

contains_cases : {A : Type 0} (y : A) (xs : List A) (x : A) → Contains (y ∷ xs) x → (y ≡ x) ⊎ Contains xs x
contains_cases y xs x (zero, within, is) = inl is
contains_cases y xs x (suc k, within, is) = inr (k, omega (arith, within), is)

-- a holder that passes is among the owners that pass
owner_passes : (test : ℕ × Mode → Bool) (those : List (ℕ × Mode)) (h : ℕ × Mode) → Contains those h → test h ≡ true → Contains (map (λ h. h.0) (filter test those)) h.0
owner_passes test [] h at passes = absurd (omega (arith, at.1))
owner_passes test (x ∷ those) h at passes = elim (contains_cases x those h at) [
  | inl here ↦ subst (λ b. Contains (map (λ (h : ℕ × Mode). h.0) (cond b (x ∷ filter test those) (filter test those))) h.0) (sym (ap test here ∙ passes))
      (subst (λ o. Contains (x.0 ∷ map (λ (h : ℕ × Mode). h.0) (filter test those)) o) (ap (λ (h : ℕ × Mode). h.0) here) (contains_here x.0 _))
  | inr later ↦ elim (test x) as (λ b. Contains (map (λ (h : ℕ × Mode). h.0) (cond b (x ∷ filter test those) (filter test those))) h.0) [
    | true ↦ contains_later x.0 _ h.0 (owner_passes test those h later passes)
    | false ↦ owner_passes test those h later passes
  ]
]

-- an owner that passes is one of a holder that does
passing_owner : (test : ℕ × Mode → Bool) (those : List (ℕ × Mode)) (owner : ℕ) → Contains (map (λ h. h.0) (filter test those)) owner
    → (mode : Mode) × Contains those (owner, mode) × (test (owner, mode) ≡ true)
passing_owner test [] owner at = absurd (omega (arith, at.1))
passing_owner test (x ∷ those) owner at =
    elim (test x) as (λ b. test x ≡ b → Contains (map (λ (h : ℕ × Mode). h.0) (cond b (x ∷ filter test those) (filter test those))) owner
    → (mode : Mode) × Contains (x ∷ those) (owner, mode) × (test (owner, mode) ≡ true)) [
      | true ↦ λ is at. elim (contains_cases x.0 _ owner at) [
        | inl here ↦
            let same : ◌≡◌ {A = ℕ × Mode} x (owner, x.1) = ap (λ (o : ℕ). (o, x.1)) here in
            (x.1, subst (Contains (x ∷ those)) same (contains_here x those), sym (ap test same) ∙ is)
        | inr later ↦ let found = passing_owner test those owner later in (found.0, contains_later x those (owner, found.0) found.1, found.2)
      ]
      | false ↦ λ is_not at. let found = passing_owner test those owner at in (found.0, contains_later x those (owner, found.0) found.1, found.2)
    ] refl at

above_filter : (test : ℕ × Mode → Bool) (low : ℕ) (those : List (ℕ × Mode)) → AllByRecursion (λ y. nat_cmp low y ≡ Less) (keys_of those) → AllByRecursion (λ y. nat_cmp low y ≡ Less) (map (λ h. h.0) (filter test those))
above_filter test low [] above = tt
above_filter test low (x ∷ those) above = elim (test x) as (λ b. AllByRecursion (λ y. nat_cmp low y ≡ Less) (map (λ (h : ℕ × Mode). h.0) (cond b (x ∷ filter test those) (filter test those)))) [
  | true ↦ (above.0, above_filter test low those above.1)
  | false ↦ above_filter test low those above.1
]

-- the owners that pass keep their order
sorted_filter : (test : ℕ × Mode → Bool) (those : List (ℕ × Mode)) → IsStrictlySortedBy nat_cmp (keys_of those) → IsStrictlySortedBy nat_cmp (map (λ h. h.0) (filter test those))
unfolding IsStrictlySortedBy
sorted_filter test [] sorted = tt
sorted_filter test (x ∷ those) sorted = elim (test x) as (λ b. IsStrictlySortedBy nat_cmp (map (λ (h : ℕ × Mode). h.0) (cond b (x ∷ filter test those) (filter test those)))) [
  | true ↦ (above_filter test x.0 those sorted.0, sorted_filter test those sorted.1)
  | false ↦ sorted_filter test those sorted.1
]

-- the first of numbers in order is the least
least_first : (first : ℕ) (rest : List ℕ) (other : ℕ) → IsStrictlySortedBy nat_cmp (first ∷ rest) → Contains (first ∷ rest) other → first ≤ other
least_first first rest other sorted (zero, within, is) = omega (arith, is)
least_first first rest other sorted (suc k, within, is) = omega (arith, is, below_from_sorted (first ∷ rest) 0 (suc k) other sorted (omega arith) within)

some_and : {A : Type 0} (P : A → Type 0) (o : Option A) → IsSomeAnd o P → (x : A) × (o ≡ Some x) × P x
some_and P None h = absurd h
some_and P (Some x) h = (x, refl, h)

conflict_test : (owner other : ℕ) (mine theirs : Mode) → other ≢ owner → are_compatible theirs mine ≡ false → is_conflict owner mine (other, theirs) ≡ true
conflict_test owner other mine theirs another against = ap (λ b. not b && not (are_compatible theirs mine)) (ne_eqb other owner another) ∙ ap not against

module _ (locks : Locks) (owner : ℕ) (name : LockName) (mode : Mode) (those : List (ℕ × Mode))
    (sorted : IsStrictlySortedBy nat_cmp (keys_of those))
    (reads : (other : ℕ) → held locks name other ≡ lookup (is_at (nat_cmp other)) those) where
  conflict_listed : (other : ℕ) → Conflicts locks owner name mode other → Contains (conflicting owner (wanted locks owner name mode) those) other
  conflict_listed other conflict =
      let mine = wanted locks owner name mode in
      let theirs = some_and (λ theirs. are_compatible theirs mine ≡ false) _ conflict.against in
      owner_passes (is_conflict owner mine) those (other, theirs.0)
      (Contains-from_lookup {eq = eq_by_cmp nat_cmp} (tells_apart nat_cmp-IsAntisymmetric) other theirs.0 those (sym (reads other) ∙ theirs.1))
      (conflict_test owner other mine theirs.0 conflict.another theirs.2)

  listed_conflict : (other : ℕ) → Contains (conflicting owner (wanted locks owner name mode) those) other → Conflicts locks owner name mode other
  listed_conflict other at =
      let mine = wanted locks owner name mode in
      let found = passing_owner (is_conflict owner mine) those other at in
      let parts = and_parts (not (eqb other owner)) (not (are_compatible found.0 mine)) found.2 in
      let holds : held locks name other ≡ Some found.0 = reads other ∙ lookup-from_Contains (eq_by_cmp_equiv nat_cmp_total) other found.0 those (IsDistinct-from_sorted nat_cmp (keys_of those) sorted) found.1 in
      record {
        another = eqb-false other owner (not-true _ parts.0);
        against = subst (λ o. IsSomeAnd o (λ theirs. are_compatible theirs mine ≡ false)) (sym holds) (not-true _ parts.1);
      }

  judged_by : (others : List ℕ) → IsStrictlySortedBy nat_cmp others
      → ((other : ℕ) → Conflicts locks owner name mode other → Contains others other)
      → ((other : ℕ) → Contains others other → Conflicts locks owner name mode other)
      → IsJudged locks owner name mode (answer_for owner others)
  judged_by [] rising all only = λ other conflict. absurd (omega (arith, (all other conflict).1))
  judged_by (oldest ∷ rest) rising all only = elim (ltb oldest owner) as (λ b. ltb oldest owner ≡ b → IsJudged locks owner name mode (cond b (Die oldest) (Wait (oldest ∷ rest)))) [
    | true ↦ λ is. record {
      conflicts = only oldest (contains_here oldest rest);
      none_older = λ other conflict. least_first oldest rest other rising (all other conflict);
      older = ltb-true oldest owner is;
    }
    | false ↦ λ is_not. record {
      some = λ e. absurd cc;
      rising = IsStrictlyIncreasing-from_sorted (oldest ∷ rest) rising;
      all = λ other. (only other, all other);
      younger = λ other at.
          let first : owner ≤ oldest = ltb-false oldest owner is_not in
          let apart : oldest ≢ owner = (only oldest (contains_here oldest rest)).another in
          let least : oldest ≤ other = least_first oldest rest other rising at in
          omega (arith, apart);
    }
  ] refl

  -- the answer among the holders of a name
  pub judged_among : IsJudged locks owner name mode (answer_for owner (conflicting owner (wanted locks owner name mode) those))
  judged_among = judged_by _ (sorted_filter _ those sorted) conflict_listed listed_conflict
