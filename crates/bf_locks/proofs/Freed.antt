-- Freeing the names of an owner one by one.
use Rattle.std.proofs.Common.{◌≡◌, ◌≢◌, ℕ, zero, suc, ◌+◌, ◌<◌, ◌≤◌, List, ◌∷◌, length, drop, get_or, Option, Some, None, IsSome, Contains, refl, sym, ap, subst, ◌∙◌, inl, inr, arith, drop-cons, length-drop}
use Rattle.std.proofs.lemmas.Bool.{cases_eq, false≢true}
use Rattle.std.specs.FinMap as map
use Rattle.bf_locks.specs.declared.mode.Mode.{Mode}
use Rattle.bf_locks.specs.declared.name.LockName.{LockName}
use Rattle.bf_locks.specs.Locks.{Locks, held, without_owner}
use Rattle.bf_locks.proofs.Held.{same_locks, insert_cases, remove_cases, held_removed, held_without_own, held_without_other}

-- an owner that freed one name holds the others as before, and that one no more
pub removed_others : (locks : Locks) (name : LockName) (owner : ℕ) (at : LockName) (by : ℕ) → by ≢ owner → held (map.remove locks (name, owner)) at by ≡ held locks at by
removed_others locks name owner at by apart = elim (remove_cases locks name owner at by) [
  | inl same ↦ absurd (apart same.1)
  | inr kept ↦ kept
]

still_held : (locks : Locks) (name : LockName) (owner : ℕ) (at : LockName) → IsSome (held (map.remove locks (name, owner)) at owner) → IsSome (held locks at owner)
still_held locks name owner at some = elim (remove_cases locks name owner at owner) [
  | inl same ↦ absurd (false≢true (subst (λ o. IsSome o) same.2 some))
  | inr kept ↦ subst (λ o. IsSome o) kept some
]

still_apart : (locks : Locks) (name : LockName) (owner : ℕ) (at : LockName) → IsSome (held (map.remove locks (name, owner)) at owner) → name ≢ at
still_apart locks name owner at some same = absurd (false≢true (subst (λ o. IsSome o) (ap (λ n. held (map.remove locks (name, owner)) n owner) (sym same) ∙ held_removed locks name owner) some))

among_later : {A : Type 0} (y : A) (xs : List A) (x : A) → y ≢ x → Contains (y ∷ xs) x → Contains xs x
among_later y xs x apart (zero, within, is) = absurd (apart is)
among_later y xs x apart (suc k, within, is) = (k, omega (arith, within), is)

-- what the owner still holds is among the names that are left
pub left_later : (locks : Locks) (names : List LockName) (i : ℕ) (name : LockName) (owner : ℕ) → i < length names → name ≡ get_or names i name
    → ((at : LockName) → IsSome (held locks at owner) → Contains (drop i names) at)
    → (at : LockName) → IsSome (held (map.remove locks (name, owner)) at owner) → Contains (drop (i + 1) names) at
left_later locks names i name owner within is left at some =
    let here : Contains (drop i names) at = left at (still_held locks name owner at some) in
    let next : suc i ≡ i + 1 = omega arith in
    let split : drop i names ≡ name ∷ drop (i + 1) names = drop-cons names i name within ∙ ap (λ n. n ∷ drop (suc i) names) (sym is) ∙ ap (λ k. name ∷ drop k names) next in
    among_later name (drop (i + 1) names) at (still_apart locks name owner at some) (subst (λ xs. Contains xs at) split here)

pub not_some : {A : Type 0} (o : Option A) → ¬ IsSome o → o ≡ None
not_some None no_value = refl
not_some (Some x) no_value = absurd (no_value refl)

-- a grant that is taken back leaves what was held before
pub given_up : (locks : Locks) (name : LockName) (owner : ℕ) (mode : Mode) → ¬ IsSome (held locks name owner) → map.remove (map.insert locks (name, owner) mode) (name, owner) ≡ locks
given_up locks name owner mode first =
    let back = map.remove (map.insert locks (name, owner) mode) (name, owner) in
    let here : (at : LockName) (by : ℕ) → at ≡ name → by ≡ owner → held back at by ≡ held locks at by =
    λ at by n o. (λ i. held back (n i) (o i)) ∙ held_removed (map.insert locks (name, owner) mode) name owner ∙ sym (not_some _ first) ∙ (λ i. held locks (sym n i) (sym o i)) in
    same_locks back locks (λ at by. elim (insert_cases locks name owner mode at by) [
      | inl new ↦ here at by new.0 new.1
      | inr kept ↦ elim (remove_cases (map.insert locks (name, owner) mode) name owner at by) [
        | inl gone ↦ here at by gone.0 gone.1
        | inr left ↦ left ∙ kept
      ]
    ])

-- where no name is left, all that the owner held is freed
pub all_freed : (old new : Locks) (owner : ℕ)
    → ((at : LockName) (by : ℕ) → by ≢ owner → held new at by ≡ held old at by)
    → ((at : LockName) → ¬ IsSome (held new at owner))
    → new ≡ without_owner old owner
all_freed old new owner others none = same_locks new (without_owner old owner) (λ at by. elim (cases_eq by owner) [
  | inl same ↦ ap (held new at) same ∙ not_some _ (none at) ∙ sym (held_without_own old owner at) ∙ ap (held (without_owner old owner) at) (sym same)
  | inr apart ↦ others at by apart ∙ sym (held_without_other old owner at by apart)
])

-- nothing is left past the end
pub none_left : (names : List LockName) (i : ℕ) (at : LockName) → length names ≤ i → ¬ Contains (drop i names) at
none_left names i at past among = omega (arith, among.1, length-drop i names)
